use Rattle.std.proofs.Common.{refl}
use Rattle.run_audit.proofs.Within.{within_trace, in_order_from}
use Rattle.run_audit.proofs.whole.judge.Goals as goal

pub run_in_order-requires-clause-within : goal.run_in_order-requires-clause-within
run_in_order-requires-clause-within c =
    within_trace c.args.packets.now c.args.run.now (c.if-not-counts_agree.ensures.agree.0 refl)
    (in_order_from c.args.run.now c.in_ok-number.field-0 c.in_ok-number.ensures c.in_default.is)
