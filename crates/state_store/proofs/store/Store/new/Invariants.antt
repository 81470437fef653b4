use Rattle.std.proofs.Common.{◌≡◌, ◌++◌, drop}
use Rattle.state_store.specs.Store.{start_store}
use Rattle.state_store.proofs.store.Store.new.Given as goal

abbrev pub invariant-loop-object : goal.invariant-loop-object
invariant-loop-object l = l.objects.items ++ start_store (drop l.object-index l.declared) ≡ start_store l.declared
