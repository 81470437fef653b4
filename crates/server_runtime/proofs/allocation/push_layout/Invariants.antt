use Rattle.std.proofs.Common.{◌≡◌, ◌++◌, map, take}
use Rattle.split_model.specs.declared.layout.Crossing.{Crossing}
use Rattle.server_runtime.proofs.allocation.push_layout.Given as goal

abbrev pub invariant-loop-crossing : goal.invariant-loop-crossing
invariant-loop-crossing l = l.numbers.items ≡ l.initial.numbers.items ++ map (λ (c : Crossing). c.number) (take l.crossing-index l.layout)
