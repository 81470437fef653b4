use Rattle.std.proofs.Common.{◌≡◌, ◌∙◌, ap}
use Rattle.std.specs.Prelude.{is_some, IfOk}
use Rattle.std.proofs.lemmas.Result.{err_from_is_err_and, IfErr-weaker, IfOk-weaker}
use Rattle.replay_contracts.specs.Replayer.{Fails, inputs_of}
use Rattle.replay_contracts.specs.declared.job.Replayed.{Replayed}
use Rattle.schedule_replay.proofs.WholeReplay.{broken_at_once, either_way, is_reported, is_run_of}
use Rattle.replay_course.proofs.LeftByErrors.{broken_behind}
use Rattle.replay_course.proofs.ReportedState.{ReportsOf}
use Rattle.replay_course.proofs.Laws.{few_events_are_left-commands}
use Rattle.replay_course.proofs.ToldByCalls.{stays_more}
use Rattle.replay_course.proofs.NextEvent.{counts_behind}
use Rattle.schedule_replay.proofs.perform.replay.Goals as goal

pub start-requires-clause-few_commands : goal.start-requires-clause-few_commands
start-requires-clause-few_commands g c = few_events_are_left-commands (inputs_of c.args.job.now) c.requires.split c.requires.few_packets

pub returns : goal.returns
returns g c =
    let x = inputs_of c.args.job.now in
    let events = c.args.job.now.events in
    let drain = c.args.job.now.drain in
    let first = g.S.SwitchPort.seen c.args.port.now in
    let port = g.S.SwitchPort.seen c.conclude.new.port in
    let new = g.S.SwitchPort.seen c.into_report.new.port in
    let started = c.in_ok-course.ensures.started in
    let gone = c.in_ok-perform.ensures.gone in
    let ended = c.in_ok-conclude.ensures.ended in
    let stays = stays_more _ _ _ started.stays (stays_more _ _ _ gone.stays ended.stays) in
    let said : (R : Replayed → Type 0) → ((replayed : Replayed) → ReportsOf x c.conclude.new.course port new replayed → R replayed) → IfOk c.into_report.result R =
    λ R f. IfOk-weaker c.into_report.result (ReportsOf x c.conclude.new.course port new) R f c.into_report.ensures.reports in
    record {
      answered = said _ (λ replayed says. is_reported x events drain c.conclude.new.course _ port new replayed ended says);
      told = λ tells. said _ (λ replayed says. is_run_of x events drain c.conclude.new.course _ port new replayed ended says (stays.told ∙ tells));
      stays = either_way c.into_report.result (ReportsOf x c.conclude.new.course port new) (λ e. Fails e port new)
          (is_some new.told ≡ is_some first.told) c.into_report.ensures.reports c.into_report.ensures.fails
          (λ replayed says. ap is_some (says ended.calls ended.last ended.shown).kept.told ∙ stays.told) (λ e fails. fails.told ∙ stays.told);
      no_fault = said _ (λ replayed says. (says ended.calls ended.last ended.shown).kept.faults ∙ stays.faults);
      fault = IfErr-weaker c.into_report.result _ _ (λ e fails. counts_behind e _ _ _ stays.faults fails.fault) c.into_report.ensures.fails;
      fails = IfErr-weaker c.into_report.result _ _ (λ e fails. broken_behind x e ended.calls first (g.S.SwitchPort.seen c.start.new.port) port new
          c.in_ok-course.ensures.loads ended.replay.called (stays_more _ _ _ gone.stays ended.stays) fails) c.into_report.ensures.fails;
    }

pub returns-in_err-conclude-clause-fault : goal.returns-in_err-conclude-clause-fault
returns-in_err-conclude-clause-fault g c =
    let p = err_from_is_err_and c.from_residual-in_err-conclude.result c.from_residual-in_err-conclude.ensures.1 in
    rw (p.1, p.2) (counts_behind _ _ _ _ c.in_ok-course.ensures.started.stays.faults
    (counts_behind _ _ _ _ c.in_ok-perform.ensures.gone.stays.faults c.in_err-conclude.ensures.fails.fault))

pub returns-in_err-perform-clause-fault : goal.returns-in_err-perform-clause-fault
returns-in_err-perform-clause-fault g c =
    let p = err_from_is_err_and c.from_residual-in_err-perform.result c.from_residual-in_err-perform.ensures.1 in
    rw (p.1, p.2) (counts_behind _ _ _ _ c.in_ok-course.ensures.started.stays.faults c.in_err-perform.ensures.fails.fault)

pub returns-in_err-conclude-clause-fails : goal.returns-in_err-conclude-clause-fails
returns-in_err-conclude-clause-fails g c =
    let p = err_from_is_err_and c.from_residual-in_err-conclude.result c.from_residual-in_err-conclude.ensures.1 in
    let gone = c.in_ok-perform.ensures.gone in
    rw (p.1, p.2) (broken_behind (inputs_of c.args.job.now) _ gone.under_way.calls (g.S.SwitchPort.seen c.args.port.now)
    (g.S.SwitchPort.seen c.start.new.port) (g.S.SwitchPort.seen c.perform.new.port) (g.S.SwitchPort.seen c.conclude.new.port)
    c.in_ok-course.ensures.loads gone.under_way.replay.called gone.stays c.in_err-conclude.ensures.fails)

pub returns-in_err-perform-clause-fails : goal.returns-in_err-perform-clause-fails
returns-in_err-perform-clause-fails g c =
    let p = err_from_is_err_and c.from_residual-in_err-perform.result c.from_residual-in_err-perform.ensures.1 in
    rw (p.1, p.2) (broken_at_once (inputs_of c.args.job.now) _ (g.S.SwitchPort.seen c.args.port.now) (g.S.SwitchPort.seen c.start.new.port)
    (g.S.SwitchPort.seen c.perform.new.port) c.in_ok-course.ensures.loads c.in_err-perform.ensures.fails)

pub returns-in_err-course-clause-fails : goal.returns-in_err-course-clause-fails
returns-in_err-course-clause-fails g c =
    let p = err_from_is_err_and c.from_residual.result c.from_residual.ensures.1 in rw (p.1, p.2) c.in_err-course.ensures.fails
