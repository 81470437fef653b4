use Rattle.std.proofs.Common.{◌≡◌, drop}
use Rattle.switch_machine.specs.Machine.{is_planned}
use Rattle.switch_machine.proofs.calls.is_planned.Given as goal

abbrev pub invariant-loop-planned_kind : goal.invariant-loop-planned_kind
invariant-loop-planned_kind l = is_planned (drop l.planned_kind-index l.planned) l.kind l.call ≡ is_planned l.planned l.kind l.call
