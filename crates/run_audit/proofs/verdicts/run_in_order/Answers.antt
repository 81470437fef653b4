use Rattle.std.proofs.Common.{◌<◌, ◌≤◌, length, get_or, sym, ap, subst, arith}
use Rattle.element_lang.specs.View.{tree}
use Rattle.run_audit.specs.Source.{source_of}
use Rattle.run_audit.specs.Told.{IsFalse, IsFirst}
use Rattle.run_audit.proofs.Serial.{turn_goes_on, turn_ends, taken_from, told_from, all_run}
use Rattle.run_audit.proofs.verdicts.run_in_order.Goals as goal

pub returns-then-not-agrees-clause-found : goal.returns-then-not-agrees-clause-found
returns-then-not-agrees-clause-found c =
    let low : c.loop-number.number-index < length c.args.run.now.order = omega (arith, ap length c.as_slice-order.ensures) in
    subst (λ l. IsFirst (IsFalse (source_of (tree c.args.m.now) c.args.packets.now) c.args.run.now) c.args.run.now.order
    (get_or l c.loop-number.number-index 0)) (sym c.as_slice-order.ensures)
    (turn_ends (tree c.args.m.now) c.args.packets.now c.args.run.now c.loop-number.number-index c.index-arrived-number.result
    c.as_slice.result.now c.requires.within low
    (taken_from c.args.packets.now c.as_slice-arrived.result.now c.args.run.now.order c.as_slice-order.result.now
    c.loop-number.number-index c.index-arrived-number.result c.as_slice-arrived.ensures.value c.as_slice-order.ensures
    c.index-arrived-number.is) c.as_slice.ensures c.loop-number.store
    c.in_ok-verdict.verdict c.agrees.result c.loop-number.invariant c.in_ok-verdict.ensures.verdict
    (told_from c.args.run.now c.as_slice-fates.result.now c.as_slice-order.result.now c.loop-number.number-index
    c.in_ok-verdict.verdict c.agrees.result c.as_slice-fates.ensures c.as_slice-order.ensures c.agrees.ensures)
    c.if-not-agrees.true)

pub loop-number-preserved : goal.loop-number-preserved
loop-number-preserved c =
    let low : c.loop-number.number-index < length c.args.run.now.order = omega (arith, ap length c.as_slice-order.ensures) in
    turn_goes_on (tree c.args.m.now) c.args.packets.now c.args.run.now c.loop-number.number-index
    c.index-arrived-number.result c.as_slice.result.now c.requires.within low
    (taken_from c.args.packets.now c.as_slice-arrived.result.now c.args.run.now.order c.as_slice-order.result.now
    c.loop-number.number-index c.index-arrived-number.result c.as_slice-arrived.ensures.value c.as_slice-order.ensures
    c.index-arrived-number.is) c.as_slice.ensures
    c.loop-number.store c.run.new.store c.in_ok-verdict.verdict c.agrees.result c.loop-number.invariant
    c.in_ok-verdict.ensures.store c.in_ok-verdict.ensures.verdict
    (told_from c.args.run.now c.as_slice-fates.result.now c.as_slice-order.result.now c.loop-number.number-index
    c.in_ok-verdict.verdict c.agrees.result c.as_slice-fates.ensures c.as_slice-order.ensures c.agrees.ensures)
    c.if-not-agrees.false

pub returns-clause-found : goal.returns-clause-found
returns-clause-found c =
    let end : length c.args.run.now.order ≤ c.loop-number.number-index = omega (arith, ap length c.as_slice-order.ensures) in
    (all_run (source_of (tree c.args.m.now) c.args.packets.now) c.args.run.now c.loop-number.number-index
    c.loop-number.store c.loop-number.invariant end).0
