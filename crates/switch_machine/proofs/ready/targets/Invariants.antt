use Rattle.std.proofs.Common.{◌≡◌, ◌++◌, drop, map}
use Rattle.switch_machine.specs.Ready.{ready_of, targets_of}
use Rattle.switch_machine.proofs.ready.targets.Given as goal

abbrev pub invariant-loop-step : goal.invariant-loop-step
invariant-loop-step l = l.targets.items ++ targets_of (map ready_of (drop l.step-index l.steps)) ≡ targets_of (map ready_of l.steps)
