use Rattle.std.proofs.Common.{◌≡◌, drop}
use Rattle.switch_ir.specs.Tables.{declared_at}
use Rattle.switch_ir.proofs.spans.row_values.Given as goal

-- the tables so far are of other objects
abbrev pub invariant-loop-table : goal.invariant-loop-table
invariant-loop-table l = declared_at l.table-items l.object ≡ declared_at (drop l.table-index l.table-items) l.object
