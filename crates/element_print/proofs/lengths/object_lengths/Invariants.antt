use Rattle.std.proofs.Common.{◌≡◌, length, map, take}
use Rattle.element_print.proofs.lengths.object_lengths.Given as goal

-- the lengths of the names so far
abbrev pub invariant-loop-object : goal.invariant-loop-object
invariant-loop-object l =
    l.lengths.items ≡ map (λ x. length x.name) (take l.object-index l.objects)
