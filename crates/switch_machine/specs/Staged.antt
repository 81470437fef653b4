-- The instructions of a pass, stage by stage.
use Rattle.std.specs.Prelude.{◌≡◌, ◌==◌, ◌≤◌, ◌++◌, ℕ, suc, List, [], ◌∷◌, length, map, if◌then◌else◌, slice_index_or}
use Rattle.switch_ir.specs.declared.code.PassStep.{PassStep}
use Rattle.switch_ir.specs.Code.{Step, pass_step_of}

-- those of some instructions that are computed in stage t
abbrev pub of_stage : ℕ → List Step → List Step
of_stage t [] = []
of_stage t (s ∷ ss) = (if s.stage == t then s ∷ [] else []) ++ of_stage t ss

-- the instructions of stage t, none past the last stage
abbrev pub stage_at : List (List PassStep) → ℕ → List Step
stage_at stages t = map pass_step_of (slice_index_or stages t [])

-- Each stage up to the highest has its own instructions.
pub record AreStages (steps : List Step) (highest : ℕ) (stages : List (List PassStep)) : Type 0 where
  pub count : length stages ≡ suc highest
  pub each : (t : ℕ) → t ≤ highest → stage_at stages t ≡ of_stage t steps
