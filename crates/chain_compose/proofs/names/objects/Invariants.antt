use Rattle.std.proofs.Common.{◌≡◌, ◌++◌, map, drop}
use Rattle.element_lang.specs.View.{tree}
use Rattle.element_chain.specs.Compose.{objects_from}
use Rattle.chain_compose.proofs.names.objects.Given as goal

abbrev pub invariant-loop-element : goal.invariant-loop-element
invariant-loop-element l = l.objects ++ objects_from l.element (map tree (drop l.element l.classes)) ≡ objects_from 0 (map tree l.classes)
