use Rattle.std.proofs.Common.{◌≡◌, ℕ, ◌<◌, ◌≤◌, length, None}
use Rattle.slot_table.specs.Table.{held}
use Rattle.slot_table.proofs.probing.next_row.Given as goal

abbrev pub invariant-loop-at : goal.invariant-loop-at
invariant-loop-at g l = record {
  behind : l.from ≤ l.at;
  within : l.at ≤ length l.slots;
  gaps : (i : ℕ) → l.from ≤ i → i < l.at → held l.slots i ≡ None;
}
