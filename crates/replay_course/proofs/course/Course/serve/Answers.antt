use Rattle.std.proofs.Common.{◌≤◌, refl, length, arith}
use Rattle.std.proofs.lemmas.Bool.{le-leb}
use Rattle.std.proofs.lemmas.Option.{slice_get_read}
use Rattle.run_model.specs.declared.event.Event.TheVariants as event
use Rattle.std.proofs.lemmas.Result.{err_from_is_err_and}
use Rattle.replay_course.proofs.LeftByErrors.{fails_there, goes_kept}
use Rattle.replay_course.proofs.Arms.{not_less, nothing_turned}
use Rattle.replay_course.proofs.Serves.{commands_left, few_updates, framed_up, serve_turned, versions_left}
use Rattle.replay_course.proofs.course.Course.serve.Goals as goal

pub returns-in_default-clause-turned : goal.returns-in_default-clause-turned
returns-in_default-clause-turned g c =
    let before = c.args.self.now.up in
    let beyond = not_less _ _ c.in_default.ensures.variant.1 in
    let past : length before.items ≤ c.args.j = omega (arith, beyond, before.ok.0) in
    let me = c.args.self.now in
    nothing_turned _ (event.Serve c.args.j) _ _ me _ _ (λ i. record me { up = c.in_default.ensures.unchanged i }) c.requires.going (le-leb _ _ past)
    c.idled.ensures.stepped c.idled.ensures.sound c.idled.ensures.unapplied c.idled.ensures.counted c.idled.ensures.shown

pub serve_frame-requires-clause-version : goal.serve_frame-requires-clause-version
serve_frame-requires-clause-version g c = versions_left _ c.args.self.now _ c.requires.going

pub serve_frame-requires-clause-frame : goal.serve_frame-requires-clause-frame
serve_frame-requires-clause-frame g c =
    let before = c.args.self.now.up in
    let here = slice_get_read before.items (length before.items) c.args.j (c.in-Some.number, c.in-Some.frame) refl
    (omega (arith, c.in-Some.ensures.variant.0 refl, before.ok.0)) c.in-Some.ensures.value in
    framed_up _ c.args.self.now _ c.args.j c.in-Some.number c.in-Some.frame c.requires.going here

pub reserve-requires-clause-few_updates : goal.reserve-requires-clause-few_updates
reserve-requires-clause-few_updates g c = few_updates _ c.args.self.now _ c.in-Some.frame c.in_ok-served.served c.serve_frame.new.server c.requires.going c.in_ok-served.ensures

pub hold-requires : goal.hold-requires
hold-requires g c =
    let before = c.args.self.now.up in
    let here = slice_get_read before.items (length before.items) c.args.j (c.in-Some.number, c.in-Some.frame) refl
    (omega (arith, c.in-Some.ensures.variant.0 refl, before.ok.0)) c.in-Some.ensures.value in
    record { few_commands = commands_left _ c.args.self.now _ c.args.j c.in-Some.number c.in-Some.frame c.in_ok-served.served c.serve_frame.new.server c.requires.going here c.in_ok-served.ensures }

pub returns-clause-turned : goal.returns-clause-turned
returns-clause-turned g c =
    let before = c.args.self.now.up in
    let here = slice_get_read before.items (length before.items) c.args.j (c.in-Some.number, c.in-Some.frame) refl
    (omega (arith, c.in-Some.ensures.variant.0 refl, before.ok.0)) c.in-Some.ensures.value in
    serve_turned _ c.args.self.now _ _ _ c.args.j c.in-Some.number c.in-Some.frame c.in_ok-served.served c.requires.going here
    c.in_ok-served.ensures c.in_ok-reserve.ensures.room refl c.in-Some.ensures.items c.in_ok-hold.ensures.ok c.decide_at.ensures

pub returns-in_err-hold-clause-fails : goal.returns-in_err-hold-clause-fails
returns-in_err-hold-clause-fails g c =
    let p = err_from_is_err_and c.from_residual-in_err-hold.result c.from_residual-in_err-hold.ensures.1 in
    let old = g.S.SwitchPort.seen c.args.port.now in
    let new = g.S.SwitchPort.seen c.reserve.new.port in
    rw (p.1, p.2) (fails_there old new (goes_kept old new c.in_ok-reserve.ensures.room.kept))
