use Rattle.std.proofs.Common.{◌≡◌, ◌++◌, map, length, drop}
use Rattle.state_store.specs.declared.object.ObjectDecl.{ObjectDecl}
use Rattle.element_chain.specs.Compose.{named_objects}
use Rattle.chain_compose.proofs.objects.put_name_lengths.Given as goal

abbrev pub invariant-loop-object : goal.invariant-loop-object
invariant-loop-object l =
    l.names.items ++ map (λ (o : ObjectDecl). length o.name) (named_objects l.element (drop l.object-index l.own))
    ≡ l.fn.names.items ++ map (λ (o : ObjectDecl). length o.name) (named_objects l.element l.own)
