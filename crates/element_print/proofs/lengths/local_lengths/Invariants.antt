use Rattle.std.proofs.Common.{◌≡◌, length, map, take}
use Rattle.element_print.proofs.lengths.local_lengths.Given as goal

-- the lengths of the names so far
abbrev pub invariant-loop-local : goal.invariant-loop-local
invariant-loop-local l =
    l.lengths.items ≡ map (λ x. length x.name) (take l.local-index l.locals)
