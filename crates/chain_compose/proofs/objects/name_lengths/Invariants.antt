use Rattle.std.proofs.Common.{◌≡◌, ◌++◌, map, length, drop}
use Rattle.state_store.specs.declared.object.ObjectDecl.{ObjectDecl}
use Rattle.element_lang.specs.View.{tree}
use Rattle.element_chain.specs.Compose.{objects_from}
use Rattle.chain_compose.proofs.objects.name_lengths.Given as goal

abbrev pub invariant-loop-element : goal.invariant-loop-element
invariant-loop-element l =
    l.names.items ++ map (λ (o : ObjectDecl). length o.name) (objects_from l.element (map tree (drop l.element l.classes)))
    ≡ map (λ (o : ObjectDecl). length o.name) (objects_from 0 (map tree l.classes))
