use Rattle.switch_ir.specs.Tables.{pair_at}
use Rattle.switch_machine.proofs.LoadedCode.{can_of}
use Rattle.switch_machine.proofs.VisibleRows.{rows_of}
use Rattle.switch_machine.proofs.machine.ModelSwitch.try_rows.Goals as goal

pub returns-clause-rows : goal.returns-clause-rows
returns-clause-rows c code d is replicated =
    let tables = c.args.self.now.tables in
    let sound = (can_of c.args.self.now.loaded code is).tables c.args.object d replicated.declared in
    rw c.in_ok-rows.ensures
    (rows_of d (pair_at tables.pairs c.args.object) ((c.args.self.now.safe code is).rows c.args.object d replicated.declared) tables.bit sound.size)
