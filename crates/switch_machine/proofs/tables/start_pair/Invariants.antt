use Rattle.std.proofs.Common.{◌≡◌, drop}
use Rattle.switch_ir.specs.Tables.{declared_at}
use Rattle.switch_machine.proofs.tables.start_pair.Given as goal

abbrev pub invariant-loop-table : goal.invariant-loop-table
invariant-loop-table l = declared_at (drop l.table-index l.tables) l.number ≡ declared_at l.tables l.number
