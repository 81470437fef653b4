use Rattle.std.proofs.Common.{ap, arith, refl, ◌∙◌}
use Rattle.replay_course.proofs.Unapplied.{acknowledge_same, left_of}
use Rattle.replay_course.proofs.SoundCourse.{acked_on, commands_sound}
use Rattle.replay_course.proofs.course.Course.acknowledge.Goals as goal

pub returns-then-acknowledge-clause-sound : goal.returns-then-acknowledge-clause-sound
returns-then-acknowledge-clause-sound c = λ x h.
    commands_sound x c.args.self.now _ _ h (acked_on c.args.self.now.commit h.order) c.if-acknowledge.ensures.after refl (let i = h.within.idle in omega arith)

pub returns-else-acknowledge-clause-sound : goal.returns-else-acknowledge-clause-sound
returns-else-acknowledge-clause-sound c = λ x h.
    commands_sound x c.args.self.now _ _ h (acked_on c.args.self.now.commit h.order) c.if-acknowledge.ensures.after refl (let i = h.within.idle in omega arith)

pub returns-then-acknowledge-clause-unapplied : goal.returns-then-acknowledge-clause-unapplied
returns-then-acknowledge-clause-unapplied c = ap left_of c.if-acknowledge.ensures.after ∙ acknowledge_same c.args.self.now.commit

pub returns-else-acknowledge-clause-unapplied : goal.returns-else-acknowledge-clause-unapplied
returns-else-acknowledge-clause-unapplied c = ap left_of c.if-acknowledge.ensures.after ∙ acknowledge_same c.args.self.now.commit
