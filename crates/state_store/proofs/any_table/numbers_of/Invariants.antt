use Rattle.std.proofs.Common.{◌≡◌, ◌++◌, ◌≤◌, drop, length, map}
use Rattle.state_store.specs.Sizes.{slot_rows, row_numbers}
use Rattle.state_store.proofs.any_table.numbers_of.Given as goal

abbrev pub invariant-loop : goal.invariant-loop
invariant-loop g l = record {
  within : l.from ≤ length l.table.slots;
  count : length l.made.items ≡ l.counter;
  rows : l.made.items ++ map row_numbers (slot_rows (drop l.from l.table.slots)) ≡ map row_numbers (slot_rows l.table.slots);
}
