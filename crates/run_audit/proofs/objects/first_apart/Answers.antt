use Rattle.std.proofs.Common.{◌≤◌, length, arith}
use Rattle.run_audit.proofs.Lists.{alike_whole}
use Rattle.run_audit.proofs.objects.first_apart.Goals as goal

pub returns-in-None : goal.returns-in-None
returns-in-None c =
    let past : length c.args.told.now ≤ length c.args.wanted.now = omega (arith, c.in-None.ensures.lookup) in
    alike_whole c.args.told.now c.args.wanted.now c.loop-place.place c.loop-place.invariant (omega arith) (omega arith)
