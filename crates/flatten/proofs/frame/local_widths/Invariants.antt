use Rattle.std.proofs.Common.{◌≡◌, map, take}
use Rattle.flatten.proofs.frame.local_widths.Given as goal

abbrev pub invariant-loop-local : goal.invariant-loop-local
invariant-loop-local l = l.widths.items ≡ map (λ x. x.width) (take l.local-index l.declared)
