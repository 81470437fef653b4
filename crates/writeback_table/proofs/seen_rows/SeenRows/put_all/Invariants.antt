use Rattle.std.proofs.Common.{◌≡◌, drop}
use Rattle.state_store.specs.Store.{with_rows}
use Rattle.writeback_table.proofs.seen_rows.SeenRows.put_all.Given as goal

abbrev pub invariant-loop-place : goal.invariant-loop-place
invariant-loop-place l = with_rows (drop l.place l.rows) l.self ≡ with_rows l.rows l.fn.self
