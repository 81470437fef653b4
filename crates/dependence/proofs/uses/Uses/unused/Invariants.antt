use Rattle.std.proofs.Common.{◌≡◌, [], replicate}
use Rattle.dependence.proofs.uses.Uses.unused.Given as goal

abbrev pub invariant-loop : goal.invariant-loop
invariant-loop l = l.rows.items ≡ replicate l.counter []
