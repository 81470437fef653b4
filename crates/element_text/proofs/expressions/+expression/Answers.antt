use Rattle.element_text.proofs.TypedExprs.{typing_more, typing_end}
use Rattle.element_text.proofs.expressions.+expression.Goals as goal

pub expressions-loop-next-preserved : goal.expressions-loop-next-preserved
expressions-loop-next-preserved t c =
    typing_more c.loop-next.next-index c.next-item.result c.in_ok-made.made c.loop-next-test.true c.next-item.is c.loop-next.invariant c.in_ok-made.ensures c.in_ok-push.ensures.items c.in_ok-push-2.ensures.items

pub expressions-returns : goal.expressions-returns
expressions-returns t c = typing_end c.loop-next.next-index c.loop-next-test.false c.loop-next.invariant
