use Rattle.std.proofs.Common.{◌++◌, sym, subst}
use Rattle.replay_contracts.specs.Replayer.{HasEmptied, inputs_of}
use Rattle.schedule_replay.specs.Replayer.{replayer_of}
use Rattle.schedule_replay.proofs.ReplayerStates.{drain_performs, drain_short, drain_stands, drained_more, failed_stands, few_left, has_emptied, has_failed}
use Rattle.schedule_replay.proofs.replayer.Replayer.drain.Goals as goal

pub drain-requires-clause-on_its_way : goal.drain-requires-clause-on_its_way
drain-requires-clause-on_its_way g c = record { events = c.self.invariant.events; under_way = (c.self.invariant.performed c.in_default.is).under_way }

pub drain-requires-clause-few_events : goal.drain-requires-clause-few_events
drain-requires-clause-few_events g c =
    let me = c.self.inside in
    few_left (inputs_of me.job) me.course (g.S.SwitchPort.seen me.port) me.steps me.failed c.self.invariant c.in_default.is

pub returns-in-Ok-clause-emptied : goal.returns-in-Ok-clause-emptied
returns-in-Ok-clause-emptied g c = rw (← c.self.view_is) λ events now.
    let me = c.self.inside in
    let x = inputs_of me.job in
    let old = g.S.SwitchPort.seen me.port in
    let new = g.S.SwitchPort.seen c.drain.new.port in
    let more = drained_more x events c.in-Ok.events me.course c.drain.new.self old new me.steps c.in-Ok.ensures.drained now in (
      more,
      subst (λ n. HasEmptied (replayer_of x events me.steps old me.failed) n (replayer_of x (events ++ more) me.steps new me.failed)) (sym c.from.ensures)
          (has_emptied x events c.in-Ok.events me.course c.drain.new.self old new me.steps me.failed
          c.in_default.is c.in-Ok.ensures.drained now),
      drain_performs x events c.in-Ok.events me.course c.drain.new.self old new me.steps c.in-Ok.ensures.drained c.in-Ok.ensures.left now,
    )

pub returns-in-Ok-clause-bound : goal.returns-in-Ok-clause-bound
returns-in-Ok-clause-bound g c =
    let me = c.self.inside in
    rw (← c.self.view_is, c.from.ensures)
    (drain_short (inputs_of me.job) c.in-Ok.events me.course c.drain.new.self (g.S.SwitchPort.seen me.port)
    me.steps me.failed c.in_default.is c.in-Ok.ensures.left c.self.invariant)

pub invariant_of-self : goal.invariant_of-self
invariant_of-self g c =
    let me = c.self.inside in
    drain_stands (inputs_of me.job) c.in-Ok.events me.course c.drain.new.self (g.S.SwitchPort.seen me.port) (g.S.SwitchPort.seen c.drain.new.port)
    me.steps me.failed c.in_default.is c.in-Ok.ensures.drained c.in-Ok.ensures.left c.self.invariant

pub invariant_of-self-in-Err : goal.invariant_of-self-in-Err
invariant_of-self-in-Err g c =
    let me = c.self.inside in
    failed_stands (inputs_of me.job) c.in-Err.error me.course c.drain.new.self (g.S.SwitchPort.seen me.port) (g.S.SwitchPort.seen c.drain.new.port)
    me.steps me.failed c.self.invariant

pub returns-in-Err-clause-fails : goal.returns-in-Err-clause-fails
returns-in-Err-clause-fails g c = rw (← c.self.view_is) λ events none.
    let me = c.self.inside in
    has_failed (inputs_of me.job) events c.in-Err.error (g.S.SwitchPort.seen me.port) (g.S.SwitchPort.seen c.drain.new.port) me.steps me.failed none
    c.in-Err.ensures.fails
