use Rattle.server_runtime.proofs.step.take_step.Goals as goal

pub returns-else-is_write-clause-taken : goal.returns-else-is_write-clause-taken
returns-else-is_write-clause-taken c = c.compute.ensures.taken c.args.whole.now.split c.args.updates.now.items
