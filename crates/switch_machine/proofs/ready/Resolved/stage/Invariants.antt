use Rattle.std.proofs.Common.{◌≡◌, map, take}
use Rattle.switch_ir.specs.Code.{pass_step_of}
use Rattle.switch_machine.specs.Ready.{ready_of, resolved}
use Rattle.switch_machine.proofs.ready.Resolved.stage.Given as goal

abbrev pub invariant-loop-step : goal.invariant-loop-step
invariant-loop-step l =
    map ready_of l.items.items ≡ map (resolved l.self.numbering.now l.self.plan.now) (map pass_step_of (take l.step-index l.steps))
