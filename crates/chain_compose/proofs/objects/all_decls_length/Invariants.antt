use Rattle.std.proofs.Common.{◌≡◌, ◌+◌, map, drop}
use Rattle.element_lang.specs.View.{tree}
use Rattle.element_print.specs.Lengths.{capped, decls_length}
use Rattle.element_chain.specs.Compose.{objects_from}
use Rattle.chain_compose.proofs.objects.all_decls_length.Given as goal

abbrev pub invariant-loop-element : goal.invariant-loop-element
invariant-loop-element l =
    (l.total ≡ capped l.total) × (capped (l.total + decls_length (objects_from l.element (map tree (drop l.element l.classes))))
    ≡ capped (decls_length (objects_from 0 (map tree l.classes))))
