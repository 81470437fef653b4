use Rattle.std.proofs.Common.{◌≤◌, sym, subst, refl, arith}
use Rattle.replay_course.proofs.ShownOutputs.{sent_shown}
use Rattle.replay_course.proofs.SoundCourse.{commands_sound, sent_on}
use Rattle.replay_course.proofs.Unapplied.{left_of, send_less}
use Rattle.replay_course.proofs.course.Course.send.Goals as goal

pub returns-then-send_command-clause-shown : goal.returns-then-send_command-clause-shown
returns-then-send_command-clause-shown c = λ s setup a calls st same h.
    sent_shown s setup a calls st c.args.self.now c.send_command.new.self same c.if-send_command.ensures.after (sym c.if-send_command.ensures.did) h

pub returns-then-send_command-clause-sound : goal.returns-then-send_command-clause-sound
returns-then-send_command-clause-sound c = λ x h.
    commands_sound x c.args.self.now _ _ h (sent_on c.args.self.now.commit h.order) c.if-send_command.ensures.after refl (let i = h.within.idle in omega arith)

pub returns-then-send_command-clause-unapplied : goal.returns-then-send_command-clause-unapplied
returns-then-send_command-clause-unapplied c = subst (λ k. left_of k ≤ left_of c.args.self.now.commit) (sym c.if-send_command.ensures.after) (send_less c.args.self.now.commit)

pub returns-else-send_command-clause-sound : goal.returns-else-send_command-clause-sound
returns-else-send_command-clause-sound c = λ x h.
    commands_sound x c.args.self.now _ _ h (sent_on c.args.self.now.commit h.order) c.if-send_command.ensures.after refl (let i = h.within.idle in omega arith)

pub returns-else-send_command-clause-unapplied : goal.returns-else-send_command-clause-unapplied
returns-else-send_command-clause-unapplied c = subst (λ k. left_of k ≤ left_of c.args.self.now.commit) (sym c.if-send_command.ensures.after) (send_less c.args.self.now.commit)
