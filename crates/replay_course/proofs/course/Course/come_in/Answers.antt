use Rattle.std.proofs.Common.{refl, subst}
use Rattle.replay_course.specs.Going.{FitsUp}
use Rattle.replay_course.proofs.ShownPasses.{finish_shown, going_shown, send_up_shown}
use Rattle.replay_course.proofs.SoundCourse.{fate_sound, going_sound, send_up_sound}
use Rattle.replay_course.proofs.course.Course.come_in.Goals as goal

pub returns-in-Finished-clause-shown : goal.returns-in-Finished-clause-shown
returns-in-Finished-clause-shown c = rw c.in-Finished.is (λ s calls more st h may told.
    finish_shown s calls more st c.args.self.now _ c.args.pass h may.gone may.entered.0 may.entered.1 c.in-Finished.verdict may.pre told refl c.finish_at.ensures)

pub returns-in-Finished-clause-sound : goal.returns-in-Finished-clause-sound
returns-in-Finished-clause-sound c = λ x h room fits.
    fate_sound x c.args.self.now _ _ _ h refl c.finish_at.ensures

pub returns-in_ok-push_back-in-Up-clause-shown : goal.returns-in_ok-push_back-in-Up-clause-shown
returns-in_ok-push_back-in-Up-clause-shown c = rw c.in-Up.is (λ s calls more st h may told.
    send_up_shown s calls more st c.args.self.now _ c.args.pass h may.gone may.entered.0 may.entered.1 c.in-Up.frame may.pre told refl
    c.in_ok-push_back-in-Up.ensures.items c.send_up_at.ensures)

pub returns-in_ok-push_back-in-Up-clause-sound : goal.returns-in_ok-push_back-in-Up-clause-sound
returns-in_ok-push_back-in-Up-clause-sound c = λ x h room fits.
    send_up_sound x c.args.self.now _ _ c.in-Up.frame _ h room (subst (FitsUp x c.args.pass) c.in-Up.is fits) refl c.in_ok-push_back-in-Up.ensures.items c.send_up_at.ensures

pub returns-in_ok-push-in-Going-clause-shown : goal.returns-in_ok-push-in-Going-clause-shown
returns-in_ok-push-in-Going-clause-shown c = rw c.in-Going.is (λ s calls more st h may told.
    going_shown s calls more st c.args.self.now _ c.args.pass h may.gone (λ i. record c.args.self.now { passes = c.in_ok-push-in-Going.ensures.ok i }))

pub returns-in_ok-push-in-Going-clause-sound : goal.returns-in_ok-push-in-Going-clause-sound
returns-in_ok-push-in-Going-clause-sound c = λ x h room fits.
    going_sound x c.args.self.now _ c.args.pass h room (subst (FitsUp x c.args.pass) c.in-Going.is fits) (λ i. record c.args.self.now { passes = c.in_ok-push-in-Going.ensures.ok i })
