use Rattle.std.proofs.Common.{◌≡◌, length}
use Rattle.flatten.specs.Journal as pure
use Rattle.flatten.proofs.sides.undo.Given as goal

abbrev pub invariant-loop-entry : goal.invariant-loop-entry
invariant-loop-entry l = record {
  left : pure.undone l.left.items l.locals ≡ pure.undone l.fn.entries.items l.fn.locals;
  back : pure.undone l.back.items l.locals ≡ l.fn.locals;
}

abbrev pub decreases-loop-entry : goal.decreases-loop-entry
decreases-loop-entry l = length l.left.items
