use Rattle.std.proofs.Common.{◌<◌, arith}
use Rattle.switch_ir.specs.declared.code.Table.{Table}
use Rattle.std.proofs.lemmas.List.Elements.{recursion_from_All}
use Rattle.switch_machine.proofs.TableRows.{none_declared}
use Rattle.switch_machine.proofs.tables.object_count.Goals as goal

pub returns : goal.returns
returns c o le =
    none_declared c.args.tables.now c.loop-table.count o
    (recursion_from_All (λ (t : Table). t.number < c.loop-table.count) c.args.tables.now (λ i d lt. c.loop-table.invariant i d (omega (arith, lt)))) le
