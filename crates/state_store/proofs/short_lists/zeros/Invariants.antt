use Rattle.std.proofs.Common.{◌≡◌, ◌≤◌, replicate}
use Rattle.state_store.proofs.short_lists.zeros.Given as goal

abbrev pub invariant-loop : goal.invariant-loop
invariant-loop l = record { so_far : l.values ≡ replicate l.counter 0; within : l.counter ≤ l.count }
