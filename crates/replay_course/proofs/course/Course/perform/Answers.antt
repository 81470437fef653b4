use Rattle.std.proofs.Common.{sym, subst, take}
use Rattle.std.proofs.lemmas.Option.{slice_get-get_or}
use Rattle.replay_contracts.specs.Replayer.{inputs_of}
use Rattle.replay_course.specs.UnderWay.{HasReplayedFrom}
use Rattle.replay_course.proofs.NextEvent.{gone_on, room_by}
use Rattle.std.proofs.lemmas.Result.{err_from_is_err_and}
use Rattle.replay_course.proofs.LeftByErrors.{fails_behind, goes_gone}
use Rattle.lemmas.proofs.Lists.{take_next}
use Rattle.replay_course.proofs.course.Course.perform.Goals as goal

pub step-requires-clause-may_call : goal.step-requires-clause-may_call
step-requires-clause-may_call g c = room_by _ _ c.loop-event.self _ _ c.loop-event.invariant

pub loop-event-preserved : goal.loop-event-preserved
loop-event-preserved g c =
    let i = c.loop-event.event-index in
    let items = c.as_slice-event-items.result.now in
    subst (λ es. HasReplayedFrom (inputs_of c.args.job.now) es c.step.new.self (g.S.SwitchPort.seen c.args.port.now) (g.S.SwitchPort.seen c.step.new.port))
    (sym (take_next items i _ (slice_get-get_or items i _ c.loop-event-test.true)))
    (gone_on _ (take i items) _ _ c.loop-event.self c.step.new.self _ _ _ c.loop-event.invariant c.in_ok-step.ensures.turned)

pub returns-in_err-step-clause-fails : goal.returns-in_err-step-clause-fails
returns-in_err-step-clause-fails g c =
    let p = err_from_is_err_and c.from_residual.result c.from_residual.ensures.1 in
    rw (p.1, p.2) (fails_behind _ _ _ _
    (goes_gone _ _ c.args.self.now c.loop-event.self _ _ c.requires.started c.loop-event.invariant) c.in_err-step.ensures.fails)
