use Rattle.std.proofs.Common.{◌≡◌, ◌++◌, take}
use Rattle.flatten.specs.Journal as pure
use Rattle.flatten.proofs.sides.push_locals.Given as goal

abbrev pub invariant-loop-entry : goal.invariant-loop-entry
invariant-loop-entry l = l.locals.items ≡ l.fn.locals.items ++ pure.entry_locals (take l.entry-index l.entries)
