use Rattle.std.proofs.Common.{arith}
use Rattle.flatten.proofs.Steps.{merge_ended_at}
use Rattle.flatten.proofs.output.Output.merge_ids.Goals as goal

pub returns : goal.returns
returns c =
    merge_ended_at c.args.place c.args.cond c.loop-i.i c.args.widths.now c.args.a.now c.args.b.now c.loop-i.ids.items c.loop-i.self _ (omega (arith, c.loop-i-test.false, c.loop-i.auto.i-end, c.min.ensures, c.min-count.ensures)) c.loop-i.invariant
