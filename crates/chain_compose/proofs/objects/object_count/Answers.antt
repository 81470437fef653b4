use Rattle.std.proofs.Common.{ap, arith}
use Rattle.std.proofs.Math.ListN.{drop_of_length-le}
use Rattle.chain_compose.proofs.AllObjects.{objects_in, all_counted}
use Rattle.chain_compose.proofs.objects.object_count.Goals as goal

pub returns : goal.returns
returns c =
    let left = ap objects_in (drop_of_length-le c.args.classes.now c.loop-class-test.false) in
    omega (arith, left, c.loop-class.invariant.0, c.loop-class.invariant.1, all_counted c.args.classes.now)
