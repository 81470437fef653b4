use Rattle.std.proofs.Common.{refl}
use Rattle.replay_course.proofs.SoundCourse.{admit_sound}
use Rattle.replay_course.proofs.ShownPasses.{admit_shown}
use Rattle.replay_course.proofs.course.Course.admit_next.Goals as goal

pub returns-clause-shown : goal.returns-clause-shown
returns-clause-shown c = λ s calls st h. admit_shown s calls st c.args.self.now _ refl c.in_ok-push.ensures.items h

pub returns-clause-sound : goal.returns-clause-sound
returns-clause-sound c = λ x h less. admit_sound x c.args.self.now _ _ h less refl c.in_ok-push.ensures.items
