use Rattle.switch_ir.specs.Code.{code_of}
use Rattle.switch_machine.proofs.KeptTables.{start_safe}
use Rattle.switch_machine.proofs.machine.ModelSwitch.try_load.Goals as goal

pub put_in-requires : goal.put_in-requires
put_in-requires c = rw c.in_ok-loaded.ensures.code
    (start_safe (code_of c.args.code.now) c.in_ok-tables.tables c.requires.can c.in_ok-tables.ensures)
