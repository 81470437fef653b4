use Rattle.std.proofs.Common.{◌≡◌, ◌+◌, drop}
use Rattle.element_print.specs.Lengths.{capped}
use Rattle.chain_compose.proofs.AllObjects.{objects_in}
use Rattle.chain_compose.proofs.objects.object_count.Given as goal

abbrev pub invariant-loop-class : goal.invariant-loop-class
invariant-loop-class l = (l.total ≡ capped l.total) × (capped (l.total + objects_in (drop l.class-index l.classes)) ≡ capped (objects_in l.classes))
