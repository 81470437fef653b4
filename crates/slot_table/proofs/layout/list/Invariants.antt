use Rattle.std.proofs.Common.{◌≡◌, ◌++◌, ◌≤◌, drop, length}
use Rattle.std.specs.Prelude.{vec_capacity}
use Rattle.slot_table.specs.Layout.{slot_rows}
use Rattle.slot_table.proofs.layout.list.Given as goal

abbrev pub invariant-loop-slot : goal.invariant-loop-slot
invariant-loop-slot g l = record {
  rows : l.rows.items ++ slot_rows (drop l.slot-index l.slots) ≡ slot_rows l.slots;
  room : length (slot_rows l.slots) ≤ vec_capacity l.rows;
  capacity : vec_capacity l.initial.rows ≤ vec_capacity l.rows;
}
