use Rattle.std.proofs.Common.{◌≡◌, ◌≤◌, replicate}
use Rattle.element_interp.proofs.value.fresh_locals.Given as goal

abbrev pub invariant-loop : goal.invariant-loop
invariant-loop l = record { so_far : l.locals.items ≡ replicate l.counter 0; within : l.counter ≤ l.count }
