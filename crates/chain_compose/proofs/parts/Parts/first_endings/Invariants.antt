use Rattle.std.proofs.Common.{◌≡◌, ◌≤◌, length, replicate}
use Rattle.chain_compose.specs.Counts.{drop_weight}
use Rattle.chain_compose.proofs.parts.Parts.first_endings.Given as goal

abbrev pub invariant-loop : goal.invariant-loop
invariant-loop l = record {
  so_far : l.endings.items ≡ replicate l.counter (record { fixed = drop_weight l.gauge; reads = 0 });
  within : l.counter ≤ length l.self.classes.now;
}
