use Rattle.std.proofs.Common.{◌<◌, ◌≤◌, List, length, subst, ◌∙◌, ap, sym}
use Rattle.std.specs.Prelude.{slice_get}
use Rattle.std.proofs.lemmas.Option.{slice_get-get_or}
use Rattle.std.proofs.lemmas.Result.{err_from_is_err_and}
use Rattle.run_model.specs.declared.link_event.LinkEvent.{LinkEvent}
use Rattle.replay_contracts.specs.Replayer.{inputs_of}
use Rattle.lossy_replay.proofs.BrokenReplays.{breaks_behind}
use Rattle.lossy_replay.proofs.Whole.{all_linked, is_linked, is_linked_run, linked_more, on_its_way, starts, stays_reported}
use Rattle.replay_course.proofs.Laws.{few_events_are_left-commands}
use Rattle.replay_course.proofs.NextEvent.{counts_behind}
use Rattle.lossy_replay.proofs.perform.replay_lossy.Goals as goal

pub start-requires-clause-few_commands : goal.start-requires-clause-few_commands
start-requires-clause-few_commands g c = few_events_are_left-commands (inputs_of c.args.job.now) c.requires.split c.requires.few_packets

pub loop-event-init : goal.loop-event-init
loop-event-init g c =
    starts (inputs_of c.args.job.now) c.new-links.result c.in_ok-course.course (g.S.SwitchPort.seen c.args.port.now) (g.S.SwitchPort.seen c.start.new.port)
    c.requires.plain c.in_ok-course.ensures.started c.new-links.ensures

pub step-requires : goal.step-requires
step-requires g c =
    on_its_way (inputs_of c.args.job.now) c.loop-event.event-index c.args.events.now c.loop-event.links c.loop-event.course
    (g.S.SwitchPort.seen c.args.port.now) (g.S.SwitchPort.seen c.loop-event.port) c.loop-event.invariant
    (subst (λ (es : List LinkEvent). c.loop-event.event-index < length es) c.as_slice-event-items.ensures c.loop-event-test.true)
    c.requires.schedule.few

pub returns-in_err-step-clause-fault : goal.returns-in_err-step-clause-fault
returns-in_err-step-clause-fault g c =
    let p = err_from_is_err_and c.from_residual-in_err-step.result c.from_residual-in_err-step.ensures.1 in
    rw (p.1, p.2) (counts_behind _ _ _ _ c.loop-event.invariant.stays.faults c.in_err-step.ensures.fails.fault)

pub loop-event-preserved : goal.loop-event-preserved
loop-event-preserved g c =
    linked_more (inputs_of c.args.job.now) c.loop-event.event-index c.args.events.now _ c.loop-event.links c.step.new.self c.loop-event.course
    c.step.new.course (g.S.SwitchPort.seen c.args.port.now) (g.S.SwitchPort.seen c.loop-event.port) (g.S.SwitchPort.seen c.step.new.port)
    (ap (λ (es : List LinkEvent). slice_get es c.loop-event.event-index) (sym c.as_slice-event-items.ensures)
    ∙ slice_get-get_or c.as_slice-event-items.result.now c.loop-event.event-index _ c.loop-event-test.true)
    c.loop-event.invariant c.in_ok-step.ensures.ok
    c.in_ok-step.ensures.stays

pub returns-in_err-replayed-clause-fault : goal.returns-in_err-replayed-clause-fault
returns-in_err-replayed-clause-fault g c =
    let p = err_from_is_err_and c.from_residual-in_err-replayed.result c.from_residual-in_err-replayed.ensures.1 in
    rw (p.1, p.2) (counts_behind _ _ _ _ c.loop-event.invariant.stays.faults c.in_err-replayed.ensures.fails.fault)

pub into_run-requires : goal.into_run-requires
into_run-requires g c =
    let has = all_linked (inputs_of c.args.job.now) c.loop-event.event-index c.args.events.now c.loop-event.links c.loop-event.course
    (g.S.SwitchPort.seen c.args.port.now) (g.S.SwitchPort.seen c.loop-event.port) c.loop-event.invariant (subst (λ (es : List LinkEvent). length es ≤ c.loop-event.event-index) c.as_slice-event-items.ensures c.loop-event-test.false) in
    (length c.args.events.now, has.linking.linked, c.requires.schedule.few, has.linking.links_are)

pub returns : goal.returns
returns g c =
    let x = inputs_of c.args.job.now in
    let first = g.S.SwitchPort.seen c.args.port.now in
    let port = g.S.SwitchPort.seen c.loop-event.port in
    let new = g.S.SwitchPort.seen c.report.new.port in
    let has = all_linked x c.loop-event.event-index c.args.events.now c.loop-event.links c.loop-event.course first port c.loop-event.invariant
    (subst (λ (es : List LinkEvent). length es ≤ c.loop-event.event-index) c.as_slice-event-items.ensures c.loop-event-test.false) in
    let says = c.in_ok-replayed.ensures.reports in
    let run = c.into_run.ensures in
    let stays = stays_reported x _ c.loop-event.links c.loop-event.course first port new c.in_ok-replayed.replayed has says in
    record {
      linked = is_linked x c.args.events.now c.loop-event.links c.loop-event.course first port new c.in_ok-replayed.replayed c.into_run.result has says
          run.run run.ends;
      told = λ tells. is_linked_run x c.args.events.now c.loop-event.links c.loop-event.course first port new c.in_ok-replayed.replayed
          c.into_run.result has says run.run run.ends (has.stays.told ∙ tells);
      stays = stays.told;
      no_fault = stays.faults;
      fault = tt;
      fails = tt;
    }

pub returns-in_err-course-clause-fails : goal.returns-in_err-course-clause-fails
returns-in_err-course-clause-fails g c =
    let p = err_from_is_err_and c.from_residual.result c.from_residual.ensures.1 in rw (p.1, p.2) c.in_err-course.ensures.fails

pub returns-in_err-step-clause-fails : goal.returns-in_err-step-clause-fails
returns-in_err-step-clause-fails g c =
    let p = err_from_is_err_and c.from_residual-in_err-step.result c.from_residual-in_err-step.ensures.1 in
    rw (p.1, p.2) (breaks_behind (inputs_of c.args.job.now) _ _ c.loop-event.links c.loop-event.course
    (g.S.SwitchPort.seen c.args.port.now) (g.S.SwitchPort.seen c.start.new.port) (g.S.SwitchPort.seen c.loop-event.port)
    (g.S.SwitchPort.seen c.step.new.port) c.in_ok-course.ensures.loads c.in_ok-course.ensures.started.stays
    c.loop-event.invariant c.in_err-step.ensures.fails)

pub returns-in_err-replayed-clause-fails : goal.returns-in_err-replayed-clause-fails
returns-in_err-replayed-clause-fails g c =
    let p = err_from_is_err_and c.from_residual-in_err-replayed.result c.from_residual-in_err-replayed.ensures.1 in
    rw (p.1, p.2) (breaks_behind (inputs_of c.args.job.now) _ _ c.loop-event.links c.loop-event.course
    (g.S.SwitchPort.seen c.args.port.now) (g.S.SwitchPort.seen c.start.new.port) (g.S.SwitchPort.seen c.loop-event.port)
    (g.S.SwitchPort.seen c.report.new.port) c.in_ok-course.ensures.loads c.in_ok-course.ensures.started.stays
    c.loop-event.invariant c.in_err-replayed.ensures.fails)
