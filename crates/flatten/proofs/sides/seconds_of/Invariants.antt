use Rattle.std.proofs.Common.{◌≡◌, map, take}
use Rattle.flatten.specs.Journal as pure
use Rattle.flatten.proofs.sides.seconds_of.Given as goal

abbrev pub invariant-loop-local : goal.invariant-loop-local
invariant-loop-local l = l.made.items ≡ map (pure.second_at l.second) (take l.local-index l.locals)
