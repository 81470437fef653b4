-- Only proofs need this. What a reader of a split text does with each line.
use Rattle.std.specs.Prelude.{◌≡◌, ℕ, ◌==◌, Bool, true, false, ◌&&◌, List, [], ◌∷◌, ◌++◌, length, nat_lt, codes}
use Rattle.std.specs.Prelude.{decimal, if◌then◌else◌, Option, Some, None}
use Rattle.std.specs.Option.{option_map}
use Rattle.std.specs.Str.{bytes_eq}
use Rattle.std.specs.List.{before_first, after_first, list_any}
use Rattle.gal_io.specs.Lines.{is_skipped, is_space}
use Rattle.gal_io.specs.Number.{number_up_to}
use Rattle.split_model.specs.declared.split.Slow.{Slow}
use Rattle.split_model.specs.declared.split.Slow.TheVariants.{Carried, Server, Post}
use Rattle.split_model.specs.declared.split.Part.{Part}
use Rattle.split_validate.specs.declared.reading.Progress.{Progress}
use Rattle.split_validate.specs.declared.reading.Progress.TheVariants.{Nothing, Title, All}

abbrev pub stage_of : List ℕ → Option ℕ
stage_of word = number_up_to 4096 word

abbrev pub pre_of : List ℕ → Option (Option ℕ)
pre_of word = if bytes_eq word (codes "-") then Some None else option_map (λ stage. Some stage) (stage_of word)

abbrev pub post_of : List ℕ → Option Slow
post_of words =
    if list_any is_space words
    then (if bytes_eq (before_first is_space words) (codes "post")
    then option_map (λ stage. Post stage) (stage_of (after_first is_space words)) else None)
    else None

abbrev pub slow_of : List ℕ → Option Slow
slow_of words =
    if bytes_eq words (codes "carried") then Some Carried
    else (if bytes_eq words (codes "server") then Some Server else post_of words)

abbrev pub part_with : Option (Option ℕ) → Option Slow → Option Part
part_with None slow = None
part_with (Some pre) None = None
part_with (Some pre) (Some slow) = Some (record { pre = pre; slow = slow })

-- the stage in preprocessing, or a dash, and then who gives the results
abbrev pub words_of : List ℕ → Option Part
words_of words =
    if list_any is_space words
    then part_with (pre_of (before_first is_space words)) (slow_of (after_first is_space words)) else None

abbrev pub is_it : ℕ → Option ℕ → Bool
is_it number None = false
is_it number (Some read) = read == number

-- the word is this number
abbrev pub writes : ℕ → List ℕ → Bool
writes number word = is_it number (number_up_to number word)

-- the part of instruction i
abbrev pub part_of : ℕ → List ℕ → Option Part
part_of i line =
    if list_any is_space line
    then (if writes i (before_first is_space line) then words_of (after_first is_space line) else None)
    else None

-- the first line, without its end
abbrev pub title : ℕ → List ℕ
title count = codes "split 1 " ++ decimal count

-- the version of the text, and a number of instructions
abbrev pub is_count : ℕ → List ℕ → Bool
is_count count words =
    list_any is_space words
    && (bytes_eq (before_first is_space words) (codes "1") && writes count (after_first is_space words))

-- the line is the first one
abbrev pub is_title : ℕ → List ℕ → Bool
is_title count line =
    list_any is_space line
    && (bytes_eq (before_first is_space line) (codes "split") && is_count count (after_first is_space line))

abbrev pub with_part : List Part → Option Part → Option (Progress × List Part)
with_part parts None = None
with_part parts (Some part) = Some (Title, parts ++ part ∷ [])

-- what was read, and the parts so far, after one more line that isn't skipped
abbrev pub step : ℕ → List ℕ → Progress → List Part → Option (Progress × List Part)
step count line Nothing parts = if is_title count line then Some (Title, parts) else None
step count line Title parts =
    if nat_lt (length parts) count then with_part parts (part_of (length parts) line)
    else (if bytes_eq line (codes "end") then Some (All, parts) else None)
step count line All parts = None

-- a line was taken, or none goes on with it
abbrev pub taken : Bool → Progress → List Part → Option (Progress × List Part) → Type 0
taken true progress parts after = after ≡ Some (progress, parts)
taken false progress parts after = after ≡ None

-- the same after one more line, which may be skipped
abbrev pub line_read : ℕ → List ℕ → Progress → List Part → Option (Progress × List Part)
line_read count line progress parts = if is_skipped line then Some (progress, parts) else step count line progress parts

-- the parts, where all lines were read
abbrev pub ended : Progress → List Part → Option (List Part)
ended All parts = Some parts
ended _ parts = None
