use Rattle.std.proofs.Common.{◌<◌, arith, subst, sym}
use Rattle.run_model.specs.Sizes.{most_events}
use Rattle.replay_contracts.specs.Replayer.{inputs_of}
use Rattle.schedule_replay.specs.Replayer.{Replaying}
use Rattle.schedule_replay.proofs.ReplayerStates.{failed_stands, few_left, has_failed, has_stepped, step_performs, step_stands}
use Rattle.replay_course.proofs.Laws.{the_next_calls_may_be_made}
use Rattle.schedule_replay.proofs.replayer.Replayer.step.Goals as goal

pub step-requires-clause-going : goal.step-requires-clause-going
step-requires-clause-going g c = (c.self.invariant.performed c.in_default.is).under_way.going

pub step-requires-clause-events : goal.step-requires-clause-events
step-requires-clause-events g c =
    let me = c.self.inside in
    let few = few_left (inputs_of me.job) me.course (g.S.SwitchPort.seen me.port) me.steps me.failed c.self.invariant c.in_default.is in omega arith

pub step-requires-clause-may_call : goal.step-requires-clause-may_call
step-requires-clause-may_call g c =
    let u = (c.self.invariant.performed c.in_default.is).under_way in
    the_next_calls_may_be_made _ _ u.calls u.st c.self.inside.course _ u.replay u.shown u.going

pub returns-in-Ok-clause-stepped : goal.returns-in-Ok-clause-stepped
returns-in-Ok-clause-stepped g c = rw (← c.self.view_is) λ events now.
    let me = c.self.inside in
    has_stepped (inputs_of me.job) events c.args.event.now c.in-Ok.stepped
    me.course c.step.new.self (g.S.SwitchPort.seen me.port) (g.S.SwitchPort.seen c.step.new.port) me.steps me.failed c.in_default.is c.in-Ok.ensures.turned now

pub returns-in-Ok-clause-performed : goal.returns-in-Ok-clause-performed
returns-in-Ok-clause-performed g c = rw (← c.self.view_is) λ events now.
    let me = c.self.inside in
    step_performs (inputs_of me.job) events c.args.event.now c.in-Ok.stepped
    me.course c.step.new.self (g.S.SwitchPort.seen me.port) (g.S.SwitchPort.seen c.step.new.port) me.steps c.in-Ok.ensures.turned now

pub invariant_of-self : goal.invariant_of-self
invariant_of-self g c =
    let me = c.self.inside in
    let few : me.steps < most_events = subst (λ (r : Replaying _). r.steps < most_events) (sym c.self.view_is) c.requires.few_events in
    step_stands (inputs_of me.job) c.args.event.now c.in-Ok.stepped
    me.course c.step.new.self (g.S.SwitchPort.seen me.port) (g.S.SwitchPort.seen c.step.new.port) me.steps me.failed c.in_default.is few
    c.in-Ok.ensures.turned c.self.invariant

pub invariant_of-self-in-Err : goal.invariant_of-self-in-Err
invariant_of-self-in-Err g c =
    let me = c.self.inside in
    failed_stands (inputs_of me.job) c.in-Err.error me.course c.step.new.self (g.S.SwitchPort.seen me.port) (g.S.SwitchPort.seen c.step.new.port)
    me.steps me.failed c.self.invariant

pub returns-in-Err-clause-fails : goal.returns-in-Err-clause-fails
returns-in-Err-clause-fails g c = rw (← c.self.view_is) λ events none.
    let me = c.self.inside in
    has_failed (inputs_of me.job) events c.in-Err.error (g.S.SwitchPort.seen me.port) (g.S.SwitchPort.seen c.step.new.port) me.steps me.failed none
    c.in-Err.ensures.fails
