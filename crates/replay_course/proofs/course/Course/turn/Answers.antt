use Rattle.std.proofs.Common.{refl}
use Rattle.run_model.specs.declared.event.Event.TheVariants as event
use Rattle.replay_contracts.specs.Inputs.{setup_for, whole}
use Rattle.replay_contracts.specs.Replay.{answered}
use Rattle.replay_contracts.specs.Replayer.{inputs_of}
use Rattle.replay_course.proofs.Arms.{counted_turned}
use Rattle.replay_course.proofs.EventsTaken.{at_event, fits_same}
use Rattle.lemmas.proofs.Numbers.{same_within}
use Rattle.replay_course.proofs.course.Course.turn.Goals as goal

pub returns-in-Send-clause-turned : goal.returns-in-Send-clause-turned
returns-in-Send-clause-turned g c =
    let x = inputs_of c.args.job.now in
    let me = c.args.self.now in
    let sent = c.send.ensures in
    at_event x _ _ _ me _ _ _ c.in-Send.is (counted_turned x event.Send _ me _ _ c.requires.going (λ calls st. refl) (sent.stepped (whole x) (setup_for x))
    (λ calls st h. sent.shown (whole x) (setup_for x) (answered x calls) calls st (fits_same x me c.requires.going.prepared c.requires.going.sound) h)
    sent.sound sent.unapplied sent.counted)

pub returns-in-Ack-clause-turned : goal.returns-in-Ack-clause-turned
returns-in-Ack-clause-turned g c =
    let x = inputs_of c.args.job.now in
    let acked = c.acknowledge.ensures in
    at_event x _ _ _ c.args.self.now _ _ _ c.in-Ack.is (counted_turned x event.Ack _ c.args.self.now _ _ c.requires.going (λ calls st. refl)
    (acked.stepped (whole x) (setup_for x)) (λ calls st h. acked.shown (whole x) (setup_for x) (answered x calls) calls st h) acked.sound (same_within _ _ acked.unapplied) acked.counted)

pub returns-in_ok-release-in-Hold-clause-turned : goal.returns-in_ok-release-in-Hold-clause-turned
returns-in_ok-release-in-Hold-clause-turned g c =
    let x = inputs_of c.args.job.now in
    let held = c.in_ok-release-in-Hold.ensures in
    at_event x _ _ _ c.args.self.now _ _ _ c.in-Hold.is (counted_turned x (event.Hold c.in-Hold.j) _ c.args.self.now _ _ c.requires.going (λ calls st. refl)
    (held.stepped (whole x) (setup_for x)) (λ calls st h. held.shown (whole x) (setup_for x) (answered x calls) calls st h) held.sound (same_within _ _ held.unapplied) held.counted)
