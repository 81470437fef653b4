-- The text of a split: a line that gives its number of instructions, a line for each of them, and a last line.
use Rattle.std.specs.Prelude.{ℕ, suc, List, [], ◌∷◌, ◌++◌, length, Option, Some, None, codes, decimal}
use Rattle.gal_io.specs.Lines.{line_end}
use Rattle.split_model.specs.declared.split.Slow.{Slow}
use Rattle.split_model.specs.declared.split.Slow.TheVariants.{Carried, Server, Post}
use Rattle.split_model.specs.declared.split.Part.{Part}

-- the stage in preprocessing, or a dash
abbrev pub pre_text : Option ℕ → List ℕ
pre_text None = codes "-"
pre_text (Some stage) = decimal stage

abbrev pub slow_text : Slow → List ℕ
slow_text Carried = codes "carried"
slow_text Server = codes "server"
slow_text (Post stage) = codes "post " ++ decimal stage

-- instruction i
abbrev pub part_line : ℕ → Part → List ℕ
part_line i part = decimal i ++ (codes " " ++ (pre_text part.pre ++ (codes " " ++ (slow_text part.slow ++ line_end))))

-- the instructions from number i on
abbrev pub part_lines : ℕ → List Part → List ℕ
part_lines i [] = []
part_lines i (part ∷ parts) = part_line i part ++ part_lines (suc i) parts

-- the number of instructions
abbrev pub first_line : ℕ → List ℕ
first_line n = codes "split 1 " ++ (decimal n ++ line_end)

-- the whole text
abbrev pub split_text : List Part → List ℕ
split_text split = first_line (length split) ++ (part_lines 0 split ++ (codes "end" ++ line_end))
