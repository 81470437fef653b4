use Rattle.std.proofs.Common.{ℕ, ◌<◌, get_or}
use Rattle.switch_ir.specs.declared.code.Table.{Table}
use Rattle.switch_machine.proofs.tables.object_count.Given as goal

abbrev pub invariant-loop-table : goal.invariant-loop-table
invariant-loop-table l = (k : ℕ) (d : Table) → k < l.table-index → (get_or l.tables k d).number < l.count
