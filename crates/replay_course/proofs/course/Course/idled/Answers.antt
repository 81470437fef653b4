use Rattle.std.proofs.Common.{refl}
use Rattle.replay_course.proofs.SoundCourse.{idle_sound}
use Rattle.replay_course.proofs.ShownOutputs.{idle_shown}
use Rattle.replay_course.proofs.course.Course.idled.Goals as goal

pub returns-clause-shown : goal.returns-clause-shown
returns-clause-shown c = λ s setup a calls st event never h. idle_shown s setup a calls st event c.args.self.now _ never refl h

pub returns-clause-sound : goal.returns-clause-sound
returns-clause-sound c = λ x h. idle_sound x c.args.self.now _ h refl
