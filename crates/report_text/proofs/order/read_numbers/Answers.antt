use Rattle.std.proofs.Common.{◌+◌, ◌-◌, sym, ap, ◌∙◌}
use Rattle.report_text.specs.Parse.{numbers_at}
use Rattle.report_text.proofs.Loops.{numbers_on}
use Rattle.report_text.proofs.order.read_numbers.Goals as goal

pub loop-preserved : goal.loop-preserved
loop-preserved c =
    let rest = c.in-Some.rest.now in
    let more = numbers_on c.loop.numbers.items c.args.count c.loop.counter c.args.bound c.loop.ahead.now (c.in-Some.number, rest) c.loop-test.true c.in-Some.ensures in
    ap (λ l. numbers_at l (c.args.count - (c.loop.counter + 1)) c.args.bound rest) c.in_ok-push.ensures.items ∙ sym more ∙ c.loop.invariant
