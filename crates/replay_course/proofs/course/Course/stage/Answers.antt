use Rattle.std.proofs.Common.{◌+◌, refl, subst, sym}
use Rattle.std.specs.Prelude.{Ok}
use Rattle.std.proofs.lemmas.Bool.{le-leb}
use Rattle.std.proofs.lemmas.Result.{err_from_is_err_and}
use Rattle.run_model.specs.declared.event.Event.TheVariants as event
use Rattle.switch_ir.specs.Port.{StagesDown, StagesUp}
use Rattle.replay_contracts.specs.Replayer.{inputs_of}
use Rattle.switch_ir.specs.declared.port.DownEnd.{DownEnd}
use Rattle.switch_ir.specs.declared.port.UpEnd.{UpEnd}
use Rattle.replay_course.proofs.Arms.{has_down_pass, has_up_pass, nothing_turned, stage_down_ends_it, stage_down_goes_on, stage_up_ends, stage_up_goes_on}
use Rattle.replay_course.proofs.LeftByErrors.{counts_as, fails_with}
use Rattle.replay_course.proofs.Lists.{past_all}
use Rattle.replay_course.proofs.course.Course.stage.Goals as goal

pub returns-in_default-clause-turned : goal.returns-in_default-clause-turned
returns-in_default-clause-turned g c =
    let me = c.args.self.now in
    nothing_turned _ (event.Stage c.args.j) _ me _ _ _ refl c.requires.going (le-leb _ _ (past_all me.passes c.args.j (sym c.in_default.ensures)))
    c.idled.ensures.stepped c.idled.ensures.sound c.idled.ensures.unapplied c.idled.ensures.counted c.idled.ensures.shown

-- a pass of a packet that arrived
pub stage_up-requires : goal.stage_up-requires
stage_up-requires g c =
    let here = sym c.in-Some.ensures in
    let port = g.S.SwitchPort.seen c.args.port.now in
    has_up_pass (inputs_of c.args.job.now) c.args.self.now port port c.args.j c.in-Some.pass c.requires.going here
    (c.requires.may_call.under_way c.args.j c.in-Some.pass here) c.if-pass.true

pub take_stage-requires-clause-stages_left : goal.take_stage-requires-clause-stages_left
take_stage-requires-clause-stages_left g c = (c.requires.may_call.under_way c.args.j c.in-Some.pass (sym c.in-Some.ensures)).some

pub returns-in-Going-clause-turned : goal.returns-in-Going-clause-turned
returns-in-Going-clause-turned g c =
    let here = sym c.in-Some.ensures in
    stage_up_goes_on (inputs_of c.args.job.now) c.args.self.now _ _ _ c.args.j c.in-Some.pass c.requires.going here
    (c.requires.may_call.under_way c.args.j c.in-Some.pass here) c.if-pass.true
    (subst (λ e. StagesUp (Ok e) c.in-Some.pass.number (g.S.SwitchPort.seen c.args.port.now) (g.S.SwitchPort.seen c.stage_up.new.self)) c.in-Going.is c.in_ok-end.ensures)
    (λ i. record c.args.self.now { passes = c.take_stage.ensures i; events = c.args.self.now.events + 1 })

pub returns-in_err-end-clause-fails : goal.returns-in_err-end-clause-fails
returns-in_err-end-clause-fails g c =
    let p = err_from_is_err_and c.from_residual.result c.from_residual.ensures.1 in
    let s = c.in_err-end.ensures in
    rw (p.1, p.2) (fails_with _ _ _ _ _ (counts_as UpEnd c.in_err-end.field-0.0) s.kept.code s.kept.told s.journal s.faults)

pub returns-in_ok-come_in-in_default-2 : goal.returns-in_ok-come_in-in_default-2
returns-in_ok-come_in-in_default-2 g c =
    let me = c.args.self.now in
    let here = sym c.in-Some.ensures in
    let came = c.in_ok-come_in-in_default-2.ensures in
    record {
      turned = stage_up_ends (inputs_of c.args.job.now) me _ c.come_in.new.self _ _ c.args.j c.in-Some.pass c.requires.going here
          (c.requires.may_call.under_way c.args.j c.in-Some.pass here) (λ i. record me { passes = c.remove.ensures.others i; events = me.events + 1 })
          came.unapplied came.counted c.in_ok-end.end c.in_default-2.not-Going c.if-pass.true c.in_ok-end.ensures came.shown came.sound;
      fails = tt;
    }

pub returns-in_err-come_in-in_default-2 : goal.returns-in_err-come_in-in_default-2
returns-in_err-come_in-in_default-2 g c =
    let p = err_from_is_err_and c.from_residual-in_err-come_in-in_default-2.result c.from_residual-in_err-come_in-in_default-2.ensures.1 in
    let s = c.in_ok-end.ensures in
    rw (p.1, p.2) (record { turned = tt; fails = fails_with _ _ _ _ _ refl s.kept.code s.kept.told s.journal s.faults })

-- one of a packet that came down
pub stage_down-requires : goal.stage_down-requires
stage_down-requires g c =
    let here = sym c.in-Some.ensures in
    let port = g.S.SwitchPort.seen c.args.port.now in
    has_down_pass (inputs_of c.args.job.now) c.args.self.now port port c.args.j c.in-Some.pass c.requires.going here
    (c.requires.may_call.under_way c.args.j c.in-Some.pass here) c.if-pass.false

pub take_stage-requires-in-Going-2-clause-stages_left : goal.take_stage-requires-in-Going-2-clause-stages_left
take_stage-requires-in-Going-2-clause-stages_left g c = (c.requires.may_call.under_way c.args.j c.in-Some.pass (sym c.in-Some.ensures)).some

pub returns-in-Going-2-clause-turned : goal.returns-in-Going-2-clause-turned
returns-in-Going-2-clause-turned g c =
    let here = sym c.in-Some.ensures in
    stage_down_goes_on (inputs_of c.args.job.now) c.args.self.now _ _ _ c.args.j c.in-Some.pass c.requires.going here
    (c.requires.may_call.under_way c.args.j c.in-Some.pass here) c.if-pass.false
    (subst (λ e. StagesDown (Ok e) c.in-Some.pass.number (g.S.SwitchPort.seen c.args.port.now) (g.S.SwitchPort.seen c.stage_down.new.self)) c.in-Going-2.is c.in_ok-end-2.ensures)
    (λ i. record c.args.self.now { passes = c.take_stage-in-Going-2.ensures i; events = c.args.self.now.events + 1 })

pub returns-in_err-end-2-clause-fails : goal.returns-in_err-end-2-clause-fails
returns-in_err-end-2-clause-fails g c =
    let p = err_from_is_err_and c.from_residual-in_err-end-2.result c.from_residual-in_err-end-2.ensures.1 in
    let s = c.in_err-end-2.ensures in
    rw (p.1, p.2) (fails_with _ _ _ _ _ (counts_as DownEnd c.in_err-end-2.field-0.0) s.kept.code s.kept.told s.journal s.faults)

pub returns-in_ok-come_out-in_default-3-clause-turned : goal.returns-in_ok-come_out-in_default-3-clause-turned
returns-in_ok-come_out-in_default-3-clause-turned g c =
    let me = c.args.self.now in
    let here = sym c.in-Some.ensures in
    let came = c.in_ok-come_out-in_default-3.ensures in
    stage_down_ends_it (inputs_of c.args.job.now) me _ c.come_out.new.self _ _ c.args.j c.in-Some.pass c.requires.going here
    (c.requires.may_call.under_way c.args.j c.in-Some.pass here) (λ i. record me { passes = c.remove-in_default-3.ensures.others i; events = me.events + 1 })
    came.unapplied came.counted c.in_ok-end-2.end c.in_default-3.not-Going c.if-pass.false c.in_ok-end-2.ensures came.shown came.sound

pub returns-in_err-come_out-in_default-3-clause-fails : goal.returns-in_err-come_out-in_default-3-clause-fails
returns-in_err-come_out-in_default-3-clause-fails g c =
    let p = err_from_is_err_and c.from_residual-in_err-come_out-in_default-3.result c.from_residual-in_err-come_out-in_default-3.ensures.1 in
    let s = c.in_ok-end-2.ensures in
    rw (p.1, p.2) (fails_with _ _ _ _ _ refl s.kept.code s.kept.told s.journal s.faults)
