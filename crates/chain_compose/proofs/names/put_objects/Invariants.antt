use Rattle.std.proofs.Common.{◌≡◌, ◌++◌, drop}
use Rattle.element_chain.specs.Compose.{named_objects}
use Rattle.chain_compose.proofs.names.put_objects.Given as goal

abbrev pub invariant-loop-object : goal.invariant-loop-object
invariant-loop-object l = l.objects ++ named_objects l.element (drop l.object-index l.own) ≡ l.fn.objects ++ named_objects l.element l.own
