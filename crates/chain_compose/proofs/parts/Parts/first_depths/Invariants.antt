use Rattle.std.proofs.Common.{◌≡◌, ◌≤◌, length, replicate}
use Rattle.chain_compose.proofs.parts.Parts.first_depths.Given as goal

abbrev pub invariant-loop : goal.invariant-loop
invariant-loop l = record { so_far : l.depths.items ≡ replicate l.counter 0; within : l.counter ≤ length l.self.classes.now }
