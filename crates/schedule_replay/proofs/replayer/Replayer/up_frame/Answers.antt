use Rattle.std.proofs.Common.{◌≤◌, refl, arith, subst, ap, sym}
use Rattle.std.proofs.lemmas.Option.{slice_get_read}
use Rattle.replay_state.specs.Journal.{frame_in, up_answer}
use Rattle.replay_contracts.specs.Replayer.{inputs_of}
use Rattle.replay_course.proofs.DrainEvents.{map_length}
use Rattle.schedule_replay.proofs.Framed.{framed_there}
use Rattle.schedule_replay.proofs.ReplayerStates.{shown_at}
use Rattle.schedule_replay.proofs.replayer.Replayer.up_frame.Goals as goal

pub returns-in_err-frame : goal.returns-in_err-frame
returns-in_err-frame g c = rw (← c.self.view_is) λ events calls st now is.
    let me = c.self.inside in
    let past = c.in_err-frame.ensures.item.0 in
    let shown = shown_at (inputs_of me.job) events me.course (g.S.SwitchPort.seen me.port) me.steps calls st now is in
    rw c.from_residual.ensures (subst (λ n. n ≤ c.args.j) (map_length _ me.course.up.items st.up shown.up) (grind (arith, past)))

pub returns : goal.returns
returns g c = rw (← c.self.view_is) λ events calls st now is.
    let me = c.self.inside in
    let x = inputs_of me.job in
    let frame = c.in_ok-frame in
    let within = frame.ensures.item.0 in
    let shown = shown_at x events me.course (g.S.SwitchPort.seen me.port) me.steps calls st now is in
    framed_there me.course.up.items st.up (λ n. frame_in (up_answer calls n)) c.args.j frame.field-0.now shown.up
    (λ k item e. sym (ap frame_in (shown.up_frames k item e)))
    (slice_get_read me.course.up.items _ c.args.j frame.field-0.now refl (grind (arith, within)) frame.ensures.lookup)
