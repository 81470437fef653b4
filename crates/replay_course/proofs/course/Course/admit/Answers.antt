use Rattle.std.proofs.Common.{◌≡◌, ◌≤◌, List, length, arith, refl, sym, ap, subst, ◌∙◌}
use Rattle.std.proofs.lemmas.Bool.{le-leb}
use Rattle.std.proofs.lemmas.Result.{err_from_is_err_and}
use Rattle.packet_fields.specs.declared.packet.Packet.{Packet}
use Rattle.run_model.specs.declared.event.Event.TheVariants as event
use Rattle.switch_ir.specs.Port.{HasNoUpPass}
use Rattle.replay_state.specs.declared.pass.Pass.{Pass}
use Rattle.replay_contracts.specs.Replayer.{inputs_of}
use Rattle.switch_ir.specs.declared.port.UpEnd.{UpEnd}
use Rattle.replay_course.proofs.Arms.{admit_turned, arriving, nothing_turned}
use Rattle.std.specs.Prelude.{Err, Ok}
use Rattle.replay_course.proofs.LeftByErrors.{counts_as, fails_up}
use Rattle.replay_course.proofs.course.Course.admit.Goals as goal

pub returns-in_default-clause-turned : goal.returns-in_default-clause-turned
returns-in_default-clause-turned g c =
    let count : c.len.result ≡ length c.args.self.now.fates.items = omega (arith, c.len.ensures, c.args.self.now.fates.ok.0) in
    let past : length c.args.job.now.packets ≤ length c.args.self.now.fates.items =
    subst (λ n. length c.args.job.now.packets ≤ n) count (subst (λ (l : List Packet). length l ≤ c.len.result) c.as_slice.ensures.value c.in_default.ensures.lookup.3) in
    nothing_turned _ event.Admit _ c.args.self.now _ _ _ refl c.requires.going (le-leb _ _ past) c.idled.ensures.stepped c.idled.ensures.sound c.idled.ensures.unapplied
    c.idled.ensures.counted c.idled.ensures.shown

pub arrive-requires-clause-none : goal.arrive-requires-clause-none
arrive-requires-clause-none g c =
    subst (HasNoUpPass (g.S.SwitchPort.seen c.args.port.now)) (sym (ap (λ (p : Pass). p.number) c.in_ok-pass.ensures.pass)) c.requires.may_call.arrives

pub returns-clause-turned : goal.returns-clause-turned
returns-clause-turned g c =
    let count : c.len.result ≡ length c.args.self.now.fates.items = omega (arith, c.len.ensures, c.args.self.now.fates.ok.0) in
    let x = inputs_of c.args.job.now in
    let me = c.args.self.now in
    let first = c.in_ok-pass.ensures in
    let came = c.in_ok-come_in.ensures in
    admit_turned x me c.admit_next.new.self c.come_in.new.self _ _ c.in-Some.packet.now c.in_ok-pass.pass c.in_ok-end.end c.requires.going
    (arriving x me c.in-Some.packet.now c.len.result c.as_slice.result.now count c.as_slice.ensures.value c.in-Some.ensures.lookup.3.0 c.in-Some.ensures.lookup.1)
    first.pass c.in_ok-end.ensures first.shown first.sound came.shown came.sound (came.unapplied ∙ first.unapplied) (came.counted ∙ first.counted)

pub returns-in_err-end-clause-fails : goal.returns-in_err-end-clause-fails
returns-in_err-end-clause-fails g c =
    let p = err_from_is_err_and c.from_residual-in_err-end.result c.from_residual-in_err-end.ensures.1 in
    rw (p.1, p.2) (fails_up _ c.args.job.now.fine (Err c.in_err-end.field-0.0) _ c.in-Some.packet.now _ _ (counts_as UpEnd c.in_err-end.field-0.0) c.in_err-end.ensures)

pub returns-in_err-come_in-clause-fails : goal.returns-in_err-come_in-clause-fails
returns-in_err-come_in-clause-fails g c =
    let p = err_from_is_err_and c.from_residual-in_err-come_in.result c.from_residual-in_err-come_in.ensures.1 in
    rw (p.1, p.2) (fails_up _ c.args.job.now.fine (Ok c.in_ok-end.end) _ c.in-Some.packet.now _ _ refl c.in_ok-end.ensures)
