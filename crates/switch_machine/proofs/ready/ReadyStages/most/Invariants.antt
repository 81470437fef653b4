use Rattle.std.proofs.Common.{◌≤◌, ◌<◌, ℕ, length}
use Rattle.switch_machine.specs.Ready.{ready_at, targets_of}
use Rattle.switch_machine.proofs.ready.ReadyStages.most.Given as goal

abbrev pub invariant-loop-stage : goal.invariant-loop-stage
invariant-loop-stage l = (t : ℕ) → t < l.stage-index → length (targets_of (ready_at l.stage-items t)) ≤ l.most
