use Rattle.std.proofs.Common.{◌≡◌, ◌≤◌, take, length}
use Rattle.std.specs.FinMap.{from_entries}
use Rattle.state_store.specs.Sizes.{slot_rows}
use Rattle.state_store.proofs.any_table.copy_table.Given as goal

abbrev pub invariant-loop-i : goal.invariant-loop-i
invariant-loop-i g l = record {
  within : l.i ≤ length l.table.slots;
  capacity : l.made.capacity ≡ l.table.capacity;
  rows : l.made.rows ≡ from_entries (slot_rows (take l.i l.table.slots));
}
