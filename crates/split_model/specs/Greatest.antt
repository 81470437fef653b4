-- The greatest split: each set as great as its rules allow, one after the other, and stages as depths.
use Rattle.std.specs.Prelude.{◌≡◌, ℕ, Bool, true, false, List, map, is_some, length, replicate}
use Rattle.flat_ir.specs.Program.{Program}
use Rattle.flat_ir.specs.Sets.{IsPreClosed, IsCarriedClosed, IsPostClosed, IsGreatest}
use Rattle.flat_ir.specs.Stages.{IsDepths}
use Rattle.split_model.specs.declared.split.Part.{Part}
use Rattle.split_model.specs.Split.{is_carried_up, stage_after}
use Rattle.split_model.specs.Counts.{stage_or_zero}

-- the three sets of a split, as one mark an instruction: what preprocessing computes, what it hands up, and what
-- postprocessing computes
abbrev pub pre_marks : List Part → List Bool
pre_marks split = map (λ (part : Part). is_some part.pre) split

abbrev pub carried_marks : List Part → List Bool
carried_marks split = map (λ (part : Part). is_carried_up part.slow) split

abbrev pub post_marks : List Part → List Bool
post_marks split = map (λ (part : Part). is_some (stage_after part.slow)) split

-- the stages of each pass, 0 where it doesn't compute the instruction
abbrev pub pre_stages : List Part → List ℕ
pre_stages split = map (λ (part : Part). stage_or_zero part.pre) split

abbrev pub post_stages : List Part → List ℕ
post_stages split = map (λ (part : Part). stage_or_zero (stage_after part.slow)) split

-- the most that postprocessing can have beside what is carried, or nothing
abbrev pub IsPostSet : Program → Bool → List Bool → List Bool → Type 0
IsPostSet f true carried post = IsGreatest f (IsPostClosed f carried) post
IsPostSet f false carried post = post ≡ replicate (length f.code) false

-- The greatest split on the first k instructions: the most that preprocessing can have of them, the most of that which
-- it can hand up, and the most that postprocessing can have beside that, or nothing. All else is the server's. Stages
-- are depths.
pub record IsGreatestSplit (f : Program) (k : ℕ) (all : Bool) (split : List Part) : Type 0 where
  pub pre : IsGreatest f (IsPreClosed f k) (pre_marks split)
  pub carried : IsGreatest f (IsCarriedClosed f (pre_marks split)) (carried_marks split)
  pub post : IsPostSet f all (carried_marks split) (post_marks split)
  pub pre_depths : IsDepths f (pre_marks split) (pre_stages split)
  pub post_depths : IsDepths f (post_marks split) (post_stages split)
