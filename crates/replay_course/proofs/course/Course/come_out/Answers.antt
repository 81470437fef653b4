use Rattle.std.proofs.Common.{refl, subst}
use Rattle.replay_course.specs.Going.{FitsDown}
use Rattle.replay_course.proofs.ShownPasses.{going_shown, release_shown}
use Rattle.replay_course.proofs.SoundCourse.{behind_sound, fate_sound}
use Rattle.replay_course.proofs.course.Course.come_out.Goals as goal

pub returns-in-Verdict-clause-shown : goal.returns-in-Verdict-clause-shown
returns-in-Verdict-clause-shown c = rw c.in-Verdict.is (λ s calls more st h may told.
    release_shown s calls more st c.args.self.now _ c.args.pass h may.gone c.in-Verdict.verdict may.post may.held may.places told refl c.release_at.ensures)

pub returns-in-Verdict-clause-sound : goal.returns-in-Verdict-clause-sound
returns-in-Verdict-clause-sound c = λ x h post fits.
    fate_sound x c.args.self.now _ _ _ h refl c.release_at.ensures

pub returns-in_ok-push-in-Going-clause-shown : goal.returns-in_ok-push-in-Going-clause-shown
returns-in_ok-push-in-Going-clause-shown c = rw c.in-Going.is (λ s calls more st h may told.
    going_shown s calls more st c.args.self.now _ c.args.pass h may.gone (λ i. record c.args.self.now { passes = c.in_ok-push-in-Going.ensures.ok i }))

pub returns-in_ok-push-in-Going-clause-sound : goal.returns-in_ok-push-in-Going-clause-sound
returns-in_ok-push-in-Going-clause-sound c = λ x h post fits.
    behind_sound x c.args.self.now _ c.args.pass h post (subst (FitsDown c.args.pass) c.in-Going.is fits) (λ i. record c.args.self.now { passes = c.in_ok-push-in-Going.ensures.ok i })
