use Rattle.std.proofs.Common.{arith}
use Rattle.run_audit.proofs.Lists.{alike_whole}
use Rattle.run_audit.proofs.order.first_apart.Goals as goal

pub returns : goal.returns
returns c =
    alike_whole c.args.told.now c.args.wanted.now c.loop-place.place c.loop-place.invariant (omega arith) (omega arith)
