use Rattle.std.proofs.Common.{◌≡◌, ◌++◌, ◌≤◌, drop, length, map, vec_capacity}
use Rattle.state_store.specs.Fitted.{packing_of, unpacked_row}
use Rattle.state_store.specs.Sizes.{slot_rows, table_of}
use Rattle.state_store.proofs.packed_rows.list_slots.Given as goal

abbrev pub invariant-loop-i : goal.invariant-loop-i
invariant-loop-i l = record {
  within : l.i ≤ length (table_of l.table).slots;
  rows : l.rows.items ++ map (unpacked_row (packing_of l.keys l.values l.table)) (slot_rows (drop l.i (table_of l.table).slots)) ≡ map (unpacked_row (packing_of l.keys l.values l.table)) (slot_rows (table_of l.table).slots);
  capacity : vec_capacity l.fn.rows ≤ vec_capacity l.rows;
}
