-- The lines of a text.
use Rattle.std.specs.Prelude.{ℕ, Bool, true, ◌-◌, ◌==◌, List, [], ◌∷◌, ◌++◌, length, take, map, slice_index, if◌then◌else◌}
use Rattle.std.specs.List.{onto_first}

-- every line ends with LF
abbrev pub line_end : List ℕ
line_end = 10 ∷ []

-- the bytes between line feeds, of which each ends a line; what follows the last one is a line where it has a byte
abbrev pub fed_lines : List ℕ → List (List ℕ)
fed_lines [] = []
fed_lines (byte ∷ bytes) = if byte == 10 then [] ∷ fed_lines bytes else onto_first byte (fed_lines bytes)

-- a line less the one carriage return at its end, if it has one
abbrev pub without_return : List ℕ → List ℕ
without_return line = if slice_index line (length line - 1) == 13 then take (length line - 1) line else line

-- the lines of a text
abbrev pub lines : List ℕ → List (List ℕ)
lines text = map without_return (fed_lines text)

-- a line that says nothing: it is empty or a comment, which begins with #
abbrev pub is_skipped : List ℕ → Bool
is_skipped [] = true
is_skipped (first ∷ rest) = first == 35

-- the lines that aren't skipped
abbrev pub told_of : List (List ℕ) → List (List ℕ)
told_of [] = []
told_of (line ∷ ls) = if is_skipped line then told_of ls else line ∷ told_of ls

-- lines, each with its end
abbrev pub lined : List (List ℕ) → List ℕ
lined [] = []
lined (l ∷ ls) = l ++ (line_end ++ lined ls)

abbrev pub is_space : ℕ → Bool
is_space byte = byte == 32
