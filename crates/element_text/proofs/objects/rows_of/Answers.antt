use Rattle.std.proofs.Common.{length, ap, arith}
use Rattle.element_text.proofs.Declarations.{next_short}
use Rattle.element_text.proofs.objects.rows_of.Goals as goal

pub numbers_of-requires : goal.numbers_of-requires
numbers_of-requires c =
    let short = next_short c.args.keys.now c.args.values.now c.args.source.now c.loop-next.next-index c.next-item.result c.loop-next-test.true c.next-item.is c.loop-next.invariant.1 in
    omega (arith, short.0, ap length c.deref.ensures.value, c.requires.keys)

pub numbers_of-requires-in-loop-next : goal.numbers_of-requires-in-loop-next
numbers_of-requires-in-loop-next c =
    let short = next_short c.args.keys.now c.args.values.now c.args.source.now c.loop-next.next-index c.next-item.result c.loop-next-test.true c.next-item.is c.loop-next.invariant.1 in
    omega (arith, short.1, ap length c.deref-in-loop-next.ensures.value, c.requires.values)
