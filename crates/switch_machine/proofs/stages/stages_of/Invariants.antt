use Rattle.std.proofs.Common.{◌≡◌, ℕ, ◌<◌, ◌+◌, ◌++◌, length, map, drop}
use Rattle.switch_ir.specs.Code.{pass_step_of}
use Rattle.switch_machine.specs.Staged.{of_stage, stage_at}
use Rattle.switch_machine.proofs.stages.stages_of.Given as goal

abbrev pub invariant-loop-step : goal.invariant-loop-step
invariant-loop-step l = record {
  count : length l.stages.items ≡ l.highest + 1;
  placed : (t : ℕ) → t < l.highest + 1 → stage_at l.stages.items t ++ of_stage t (map pass_step_of (drop l.step-index l.steps))
      ≡ of_stage t (map pass_step_of l.steps);
}
