use Rattle.std.proofs.Common.{ℕ, ◌<◌, get_or}
use Rattle.state_store.specs.declared.object.ObjectDecl.{ObjectDecl}
use Rattle.split_model.specs.Bounds.{IsSmall}
use Rattle.split_model.proofs.bounds.are_small.Given as goal

abbrev pub invariant-loop-object : goal.invariant-loop-object
invariant-loop-object l = (k : ℕ) (d : ObjectDecl) → k < l.object-index → IsSmall (get_or l.objects k d)
