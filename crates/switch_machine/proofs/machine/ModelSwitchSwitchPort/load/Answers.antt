use Rattle.switch_ir.specs.Code.{code_of}
use Rattle.switch_machine.proofs.EmittedOrder.{ordered}
use Rattle.switch_ir.proofs.Laws.{what_is_emitted_can_be_run}
use Rattle.switch_machine.proofs.machine.ModelSwitchSwitchPort.load.Goals as goal

pub try_load-requires-clause-can : goal.try_load-requires-clause-can
try_load-requires-clause-can c = what_is_emitted_can_be_run (code_of c.args.code.now) c.requires

pub try_load-requires-clause-ordered : goal.try_load-requires-clause-ordered
try_load-requires-clause-ordered c = ordered (code_of c.args.code.now) c.requires
