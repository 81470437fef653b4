use Rattle.std.proofs.Common.{arith}
use Rattle.replay_course.proofs.DrainEvents.{drain_room, drains_more, few_drained, has_drained, left_falls, none_drained}
use Rattle.std.proofs.lemmas.Result.{err_from_is_err_and}
use Rattle.replay_course.proofs.LeftByErrors.{fails_behind, goes_draining}
use Rattle.replay_course.proofs.course.Course.drain.Goals as goal

pub loop-event-init : goal.loop-event-init
loop-event-init g c = (none_drained _ c.args.self.now _ c.requires.on_its_way.under_way.going, omega arith)

pub returns-clause-drained : goal.returns-clause-drained
returns-clause-drained g c = has_drained _ c.loop-event.count c.args.self.now c.loop-event.self _ _ c.loop-event.invariant.0 c.in_default.ensures

pub step-requires-clause-events : goal.step-requires-clause-events
step-requires-clause-events g c = few_drained _ c.loop-event.count c.args.self.now c.loop-event.self _ _ c.loop-event.invariant.0 c.loop-event.invariant.1 c.requires.few_events

pub step-requires-clause-may_call : goal.step-requires-clause-may_call
step-requires-clause-may_call g c =
    drain_room _ c.loop-event.count c.args.self.now c.loop-event.self _ _ c.requires.on_its_way c.loop-event.invariant.0

pub loop-event-smaller : goal.loop-event-smaller
loop-event-smaller g c =
    left_falls _ c.loop-event.count c.in-Some.event _ c.args.self.now c.loop-event.self c.step.new.self _ _ _
    c.requires.on_its_way c.loop-event.invariant.0 c.in-Some.ensures c.in_ok-step.ensures.turned

pub loop-event-preserved : goal.loop-event-preserved
loop-event-preserved g c =
    let falls = left_falls _ c.loop-event.count c.in-Some.event _ c.args.self.now c.loop-event.self c.step.new.self _ _ _
    c.requires.on_its_way c.loop-event.invariant.0 c.in-Some.ensures c.in_ok-step.ensures.turned in
    let left = c.loop-event.invariant.1 in (
      drains_more _ c.loop-event.count c.in-Some.event _ c.args.self.now c.loop-event.self c.step.new.self _ _ _
          c.loop-event.invariant.0 c.in-Some.ensures c.in_ok-step.ensures.turned,
      omega (arith, falls, left),
    )

pub returns-in_err-step-clause-fails : goal.returns-in_err-step-clause-fails
returns-in_err-step-clause-fails g c =
    let p = err_from_is_err_and c.from_residual.result c.from_residual.ensures.1 in
    rw (p.1, p.2) (fails_behind _ _ _ _
    (goes_draining _ c.loop-event.count c.args.self.now c.loop-event.self _ _ c.requires.on_its_way c.loop-event.invariant.0) c.in_err-step.ensures.fails)
