use Rattle.chain_compose.proofs.NamedPut.{declares_more}
use Rattle.chain_compose.proofs.name_steps.put_declares.Goals as goal

pub loop-preserved : goal.loop-preserved
loop-preserved c =
    declares_more c.args.locals.now c.loop.counter c.loop.out.items c.put_declare.new.out.items _ c.loop-test.true c.in_ok-put_declare.ensures c.loop.invariant
