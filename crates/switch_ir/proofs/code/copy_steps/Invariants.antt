use Rattle.std.proofs.Common.{◌≡◌, map, take}
use Rattle.switch_ir.specs.Code.{pass_step_of}
use Rattle.switch_ir.proofs.code.copy_steps.Given as goal

abbrev pub invariant-loop-step : goal.invariant-loop-step
invariant-loop-step l = map pass_step_of l.made ≡ map pass_step_of (take l.step-index l.steps)
