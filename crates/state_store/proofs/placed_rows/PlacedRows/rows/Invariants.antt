use Rattle.std.proofs.Common.{◌≡◌, ◌++◌, drop}
use Rattle.std.specs.FinMap.{entries}
use Rattle.state_store.specs.Store.{rows_from}
use Rattle.state_store.proofs.placed_rows.PlacedRows.rows.Given as goal

abbrev pub invariant-loop-place : goal.invariant-loop-place
invariant-loop-place l = l.rows ++ rows_from (drop l.place (entries l.self.contents)) ≡ rows_from (entries l.self.contents)
