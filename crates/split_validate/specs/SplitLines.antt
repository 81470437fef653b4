-- The lines of a text that is a split, and the first line at which it is none.
use Rattle.std.specs.Prelude.{◌≡◌, ◌<◌, ◌≤◌, ℕ, suc, List, ◌++◌, length, take}
use Rattle.gal_io.specs.Lines.{lines, told_of}
use Rattle.split_model.specs.declared.split.Part.{Part}
use Rattle.split_model.specs.Bounds.{HasFewStages}
use Rattle.split_validate.specs.SplitText.{split_text}
use Rattle.split_validate.specs.declared.reading.SplitTextError.{SplitTextError}
use Rattle.split_validate.specs.declared.reading.SplitTextError.TheVariants.{Line}

-- Lines of the text of a split for so many instructions: it has a part for each of them and no stage above 4,096, and
-- the lines are those of its printed text, and skipped ones.
pub record AreLinesOf (count : ℕ) (ls : List (List ℕ)) (split : List Part) : Type 0 where
  pub parts : length split ≡ count
  pub stages : HasFewStages split
  pub told : told_of ls ≡ lines (split_text split)

-- the text is one of this split
abbrev pub IsSplitText : ℕ → List ℕ → List Part → Type 0
IsSplitText count text split = AreLinesOf count (lines text) split

-- the text of some split begins with these lines
abbrev pub Begins : ℕ → List (List ℕ) → Type 0
Begins count front = (more : List (List ℕ)) × (split : List Part) × AreLinesOf count (front ++ more) split

-- Lines that are of no split, and the place of the first wrong one: the text of some split begins with the lines before
-- it, and none with that one as well. Where it is behind the last, the lines end too early.
pub record IsFirstWrong (count : ℕ) (ls : List (List ℕ)) (before : ℕ) : Type 0 where
  pub within : before ≤ length ls
  pub begins : Begins count (take before ls)
  pub wrong : before < length ls → Begins count (take (suc before) ls) → ⊥
  pub none : (split : List Part) → AreLinesOf count ls split → ⊥

-- the error names the first wrong line, counted from 1
abbrev pub IsRefused : ℕ → List ℕ → SplitTextError → Type 0
IsRefused count text e = (before : ℕ) × (e ≡ Line (suc before)) × IsFirstWrong count (lines text) before
