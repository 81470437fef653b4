use Rattle.std.proofs.Common.{ap, arith}
use Rattle.std.proofs.Math.ListN.{drop_of_length-le}
use Rattle.chain_compose.proofs.AllObjects.{entries_of_all, all_entered}
use Rattle.chain_compose.proofs.objects.all_entries.Goals as goal

pub returns : goal.returns
returns c =
    let left = ap entries_of_all (drop_of_length-le c.args.classes.now c.loop-class-test.false) in
    omega (arith, left, c.loop-class.invariant.0, c.loop-class.invariant.1, all_entered c.args.classes.now)
