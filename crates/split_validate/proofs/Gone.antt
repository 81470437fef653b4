-- What the lines of a split text that were read have told.
use Rattle.std.proofs.Common.{◌≡◌, ℕ, suc, ◌≤◌, List, [], ◌∷◌, ◌++◌, length, Option, Some, None, decimal}
use Rattle.std.specs.Prelude.{codes}
use Rattle.split_model.specs.declared.split.Slow.{Slow}
use Rattle.split_model.specs.declared.split.Slow.TheVariants.{Post}
use Rattle.split_model.specs.declared.split.Part.{Part}
use Rattle.std.specs.List.{AllByRecursion}
use Rattle.split_validate.specs.SplitText.{pre_text, slow_text}
use Rattle.split_validate.specs.SplitSteps.{title}
use Rattle.split_validate.specs.declared.reading.Progress.{Progress}
use Rattle.split_validate.specs.declared.reading.Progress.TheVariants.{Nothing, Title, All}

-- the line of instruction i, without its end
abbrev pub part_told : ℕ → Part → List ℕ
part_told i part = decimal i ++ (32 ∷ (pre_text part.pre ++ (32 ∷ slow_text part.slow)))

-- the same of the instructions from number i on
abbrev pub parts_told : ℕ → List Part → List (List ℕ)
parts_told i [] = []
parts_told i (part ∷ parts) = part_told i part ∷ parts_told (suc i) parts

abbrev pub last : List ℕ
last = codes "end"

-- all lines
abbrev pub split_told : List Part → List (List ℕ)
split_told split = title (length split) ∷ (parts_told 0 split ++ last ∷ [])

-- the lines of what was read
abbrev pub so_far : ℕ → Progress → List Part → List (List ℕ)
so_far count Nothing parts = []
so_far count Title parts = title count ∷ parts_told 0 parts
so_far count All parts = title count ∷ (parts_told 0 parts ++ last ∷ [])

-- no stage is above 4,096
abbrev pub IsLowPre : Option ℕ → Type 0
IsLowPre None = Unit {0}
IsLowPre (Some stage) = stage ≤ 4096

abbrev pub IsLowSlow : Slow → Type 0
IsLowSlow (Post stage) = stage ≤ 4096
IsLowSlow _ = Unit {0}

abbrev pub IsLow : Part → Type 0
IsLow part = IsLowPre part.pre × IsLowSlow part.slow

abbrev pub AreLow : List Part → Type 0
AreLow parts = AllByRecursion IsLow parts

-- as many parts as may have been read by then
abbrev pub HasCount : ℕ → Progress → List Part → Type 0
HasCount count Nothing parts = parts ≡ []
HasCount count Title parts = length parts ≤ count
HasCount count All parts = length parts ≡ count

pub record Fits (count : ℕ) (progress : Progress) (parts : List Part) : Type 0 where
  pub count_is : HasCount count progress parts
  pub low : AreLow parts

-- what was read, and the parts
abbrev pub at : Progress → List Part → Progress × List Part
at progress parts = (progress, parts)
