use Rattle.std.proofs.Common.{◌≡◌, map, take}
use Rattle.flatten.specs.Journal as pure
use Rattle.flatten.proofs.sides.with_firsts.Given as goal

abbrev pub invariant-loop-change : goal.invariant-loop-change
invariant-loop-change l = l.made.items ≡ map (pure.with_first l.first) (take l.change-index l.changes)
