use Rattle.std.proofs.Common.{◌≤◌, refl, length, arith}
use Rattle.std.proofs.lemmas.Bool.{le-leb}
use Rattle.std.proofs.lemmas.Option.{slice_get_read}
use Rattle.run_model.specs.declared.event.Event.TheVariants as event
use Rattle.std.proofs.lemmas.Result.{err_from_is_err_and}
use Rattle.replay_contracts.specs.Replayer.{inputs_of}
use Rattle.switch_ir.specs.declared.port.DownEnd.{DownEnd}
use Rattle.replay_course.proofs.Arms.{not_less, nothing_turned, framed_down, down_turned}
use Rattle.std.specs.Prelude.{Err, Ok}
use Rattle.replay_course.proofs.LeftByErrors.{counts_as, fails_down}
use Rattle.replay_course.proofs.course.Course.down.Goals as goal

pub returns-in_default-clause-turned : goal.returns-in_default-clause-turned
returns-in_default-clause-turned g c =
    let before = c.args.self.now.down in
    let beyond = not_less _ _ c.in_default.ensures.variant.1 in
    let past : length before.items ≤ c.args.j = omega (arith, beyond, before.ok.0) in
    let me = c.args.self.now in
    nothing_turned _ (event.Down c.args.j) _ _ me _ _ (λ i. record me { down = c.in_default.ensures.unchanged i }) c.requires.going (le-leb _ _ past)
    c.idled.ensures.stepped c.idled.ensures.sound c.idled.ensures.unapplied c.idled.ensures.counted c.idled.ensures.shown

pub come_down-requires-clause-frame : goal.come_down-requires-clause-frame
come_down-requires-clause-frame g c =
    let before = c.args.self.now.down in
    let here = slice_get_read before.items (length before.items) c.args.j (c.in-Some.number, c.in-Some.frame) refl
    (omega (arith, c.in-Some.ensures.variant.0 refl, before.ok.0)) c.in-Some.ensures.value in
    framed_down _ c.args.self.now _ c.args.j c.in-Some.number c.in-Some.frame c.requires.going here

pub come_down-requires-clause-none : goal.come_down-requires-clause-none
come_down-requires-clause-none g c =
    let before = c.args.self.now.down in
    let here = slice_get_read before.items (length before.items) c.args.j (c.in-Some.number, c.in-Some.frame) refl
    (omega (arith, c.in-Some.ensures.variant.0 refl, before.ok.0)) c.in-Some.ensures.value in
    (c.requires.may_call.comes_down c.args.j (c.in-Some.number, c.in-Some.frame) here).0

pub returns-clause-turned : goal.returns-clause-turned
returns-clause-turned g c =
    let before = c.args.self.now.down in
    let here = slice_get_read before.items (length before.items) c.args.j (c.in-Some.number, c.in-Some.frame) refl
    (omega (arith, c.in-Some.ensures.variant.0 refl, before.ok.0)) c.in-Some.ensures.value in
    let came = c.in_ok-come_out.ensures in
    down_turned (inputs_of c.args.job.now) c.args.self.now _ c.come_out.new.self _ _ c.args.j
    c.in-Some.number c.in-Some.frame c.entering-pass.result c.in_ok-end.end c.requires.going here
    (c.requires.may_call.comes_down c.args.j (c.in-Some.number, c.in-Some.frame) here).1 c.entering-pass.ensures c.in_ok-end.ensures
    refl c.in-Some.ensures.items came.shown came.sound came.unapplied came.counted

pub returns-in_err-end-clause-fails : goal.returns-in_err-end-clause-fails
returns-in_err-end-clause-fails g c =
    let p = err_from_is_err_and c.from_residual.result c.from_residual.ensures.1 in
    rw (p.1, p.2) (fails_down _ c.args.job.now.fine (Err c.in_err-end.field-0.0) _ _ _ (counts_as DownEnd c.in_err-end.field-0.0) c.in_err-end.ensures)

pub returns-in_err-come_out-clause-fails : goal.returns-in_err-come_out-clause-fails
returns-in_err-come_out-clause-fails g c =
    let p = err_from_is_err_and c.from_residual-in_err-come_out.result c.from_residual-in_err-come_out.ensures.1 in
    rw (p.1, p.2) (fails_down _ c.args.job.now.fine (Ok c.in_ok-end.end) _ _ _ refl c.in_ok-end.ensures)
