use Rattle.std.proofs.Common.{Some}
use Rattle.switch_machine.proofs.ActivePasses.{with_update}
use Rattle.switch_machine.proofs.active_pass.put_in.Goals as goal

pub returns-clause-put : goal.returns-clause-put
returns-clause-put c = with_update c.args.active.now c.insert.new.self c.args.number (Some c.args.active_pass) c.in_ok-insert.ensures.updates.0
