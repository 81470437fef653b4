use Rattle.replay_contracts.specs.Replayer.{inputs_of}
use Rattle.schedule_replay.proofs.ReplayerStates.{failed_stands, has_failed, has_reported, report_performs, report_stands}
use Rattle.schedule_replay.proofs.replayer.Replayer.report.Goals as goal

pub report-requires : goal.report-requires
report-requires g c = record { going = (c.self.invariant.performed c.in_default.is).under_way.going }

pub returns-in-Ok-clause-reported : goal.returns-in-Ok-clause-reported
returns-in-Ok-clause-reported g c = rw (← c.self.view_is) λ events now.
    let me = c.self.inside in
    has_reported (inputs_of me.job) events
    c.in-Ok.replayed me.course (g.S.SwitchPort.seen me.port) (g.S.SwitchPort.seen c.report.new.port) me.steps me.failed c.in_default.is c.in-Ok.ensures.reports now

pub returns-in-Ok-clause-performed : goal.returns-in-Ok-clause-performed
returns-in-Ok-clause-performed g c = rw (← c.self.view_is) λ events now.
    let me = c.self.inside in
    report_performs (inputs_of me.job) events c.in-Ok.replayed me.course (g.S.SwitchPort.seen me.port) (g.S.SwitchPort.seen c.report.new.port) me.steps
    c.in-Ok.ensures.reports now

pub invariant_of-self : goal.invariant_of-self
invariant_of-self g c =
    let me = c.self.inside in
    report_stands (inputs_of me.job) c.in-Ok.replayed me.course (g.S.SwitchPort.seen me.port) (g.S.SwitchPort.seen c.report.new.port) me.steps me.failed
    c.in_default.is c.in-Ok.ensures.reports c.self.invariant

pub invariant_of-self-in-Err : goal.invariant_of-self-in-Err
invariant_of-self-in-Err g c =
    let me = c.self.inside in
    failed_stands (inputs_of me.job) c.in-Err.error me.course me.course (g.S.SwitchPort.seen me.port) (g.S.SwitchPort.seen c.report.new.port)
    me.steps me.failed c.self.invariant

pub returns-in-Err-clause-fails : goal.returns-in-Err-clause-fails
returns-in-Err-clause-fails g c = rw (← c.self.view_is) λ events none.
    let me = c.self.inside in
    has_failed (inputs_of me.job) events c.in-Err.error (g.S.SwitchPort.seen me.port) (g.S.SwitchPort.seen c.report.new.port) me.steps me.failed none
    c.in-Err.ensures.fails
