use Rattle.std.proofs.Common.{◌≤◌, refl, arith, subst}
use Rattle.std.proofs.lemmas.Option.{slice_get_read}
use Rattle.replay_state.specs.Journal.{down_frame}
use Rattle.replay_contracts.specs.Inputs.{whole}
use Rattle.replay_contracts.specs.Replayer.{inputs_of}
use Rattle.replay_course.proofs.DrainEvents.{map_length}
use Rattle.schedule_replay.proofs.Framed.{framed_there}
use Rattle.schedule_replay.proofs.ReplayerStates.{shown_at}
use Rattle.schedule_replay.proofs.replayer.Replayer.down_frame.Goals as goal

pub returns-in_err-frame : goal.returns-in_err-frame
returns-in_err-frame g c = rw (← c.self.view_is) λ events calls st now is.
    let me = c.self.inside in
    let past = c.in_err-frame.ensures.item.0 in
    let shown = shown_at (inputs_of me.job) events me.course (g.S.SwitchPort.seen me.port) me.steps calls st now is in
    rw c.from_residual.ensures (subst (λ n. n ≤ c.args.j) (map_length _ me.course.down.items st.down shown.down) (grind (arith, past)))

pub returns : goal.returns
returns g c = rw (← c.self.view_is) λ events calls st now is.
    let me = c.self.inside in
    let x = inputs_of me.job in
    let frame = c.in_ok-frame in
    let within = frame.ensures.item.0 in
    let shown = shown_at x events me.course (g.S.SwitchPort.seen me.port) me.steps calls st now is in
    framed_there me.course.down.items st.down (down_frame (whole x) calls st) c.args.j frame.field-0.now shown.down
    shown.down_frames
    (slice_get_read me.course.down.items _ c.args.j frame.field-0.now refl (grind (arith, within)) frame.ensures.lookup)
