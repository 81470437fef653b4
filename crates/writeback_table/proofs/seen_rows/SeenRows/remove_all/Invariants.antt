use Rattle.std.proofs.Common.{◌≡◌, drop}
use Rattle.writeback_table.specs.Seen.{without_rows}
use Rattle.writeback_table.proofs.seen_rows.SeenRows.remove_all.Given as goal

abbrev pub invariant-loop-place : goal.invariant-loop-place
invariant-loop-place l = without_rows (drop l.place l.rows) l.self ≡ without_rows l.rows l.fn.self
