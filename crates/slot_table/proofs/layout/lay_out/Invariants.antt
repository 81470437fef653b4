use Rattle.std.proofs.Common.{◌≤◌, length}
use Rattle.std.specs.Prelude.{vec_capacity}
use Rattle.slot_table.specs.Layout.{IsLaying}
use Rattle.slot_table.proofs.layout.lay_out.Given as goal

abbrev pub invariant-loop-row : goal.invariant-loop-row
invariant-loop-row g l = record {
  laying : IsLaying l.seed l.reach l.fn.slots.items l.slots.items l.spare.items;
  room : vec_capacity l.fn.spare ≤ vec_capacity l.spare;
}

abbrev pub decreases-loop-row : goal.decreases-loop-row
decreases-loop-row g l = length l.spare.items
