use Rattle.std.proofs.Common.{◌≡◌, drop}
use Rattle.switch_ir.specs.Tables.{declared_at}
use Rattle.switch_machine.proofs.numbering.row_values.Given as goal

abbrev pub invariant-loop-table : goal.invariant-loop-table
invariant-loop-table l = declared_at (drop l.table-index l.tables) l.object ≡ declared_at l.tables l.object
