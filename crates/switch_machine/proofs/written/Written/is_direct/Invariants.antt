use Rattle.std.proofs.Common.{drop}
use Rattle.switch_machine.proofs.WrittenPlaces.{IsSoFar}
use Rattle.switch_machine.proofs.written.Written.is_direct.Given as goal

abbrev pub invariant-loop-step : goal.invariant-loop-step
invariant-loop-step l = IsSoFar (drop l.step-index l.steps) l.steps l.self
