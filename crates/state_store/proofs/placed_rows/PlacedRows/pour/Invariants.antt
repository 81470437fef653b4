use Rattle.std.proofs.Common.{◌≡◌, ◌≤◌, take, vec_capacity}
use Rattle.std.specs.FinMap.{entries}
use Rattle.state_store.proofs.placed_rows.PlacedRows.pour.Given as goal

abbrev pub invariant-loop-place : goal.invariant-loop-place
invariant-loop-place l = record {
  items : l.rows.items ≡ take l.place (entries l.self.contents);
  capacity : vec_capacity l.fn.rows ≤ vec_capacity l.rows;
}
