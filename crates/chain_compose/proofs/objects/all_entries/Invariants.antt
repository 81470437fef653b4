use Rattle.std.proofs.Common.{◌≡◌, ◌+◌, drop}
use Rattle.element_print.specs.Lengths.{capped}
use Rattle.chain_compose.proofs.AllObjects.{entries_of_all}
use Rattle.chain_compose.proofs.objects.all_entries.Given as goal

abbrev pub invariant-loop-class : goal.invariant-loop-class
invariant-loop-class l = (l.total ≡ capped l.total) × (capped (l.total + entries_of_all (drop l.class-index l.classes)) ≡ capped (entries_of_all l.classes))
