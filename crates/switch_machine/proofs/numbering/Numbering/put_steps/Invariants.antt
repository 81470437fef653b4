use Rattle.std.proofs.Common.{◌≡◌, ℕ, drop, map}
use Rattle.switch_ir.specs.Code.{pass_step_of}
use Rattle.switch_machine.specs.Numbers.{range_at}
use Rattle.switch_machine.specs.Ranges.{entered, step_entry}
use Rattle.switch_machine.proofs.numbering.Numbering.put_steps.Given as goal

abbrev pub invariant-loop-step : goal.invariant-loop-step
invariant-loop-step l =
    (i : ℕ) → entered (map (step_entry l.tables) (map pass_step_of (drop l.step-index l.steps))) (range_at l.self) i
    ≡ entered (map (step_entry l.tables) (map pass_step_of l.steps)) (range_at l.fn.self) i
