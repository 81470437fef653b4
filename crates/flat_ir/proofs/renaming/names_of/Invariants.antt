use Rattle.std.proofs.Common.{◌≡◌, map, take}
use Rattle.flat_ir.proofs.renaming.names_of.Given as goal

abbrev pub invariant-loop-value : goal.invariant-loop-value
invariant-loop-value g l = l.made.items ≡ map (g.N.Renaming.names l.renaming) (take l.value-index l.values)
