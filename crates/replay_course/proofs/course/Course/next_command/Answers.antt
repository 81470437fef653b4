use Rattle.std.proofs.Common.{◌≡◌, Bool, None, Option, Some, ap, arith, if◌then◌else◌, refl, sym, true, false, length, ◌∙◌, ◌+◌, ◌≤◌}
use Rattle.output_commit.specs.Commit.{Commit, after_next, commands, next}
use Rattle.writeback_table.specs.declared.command.Command.{Command}
use Rattle.replay_course.specs.Going.{ready_next, unapplied}
use Rattle.replay_course.specs.declared.course.Course.{Course}
use Rattle.replay_course.proofs.ShownOutputs.{command_goes, next_none, no_command, ready_applies, ready_asked}
use Rattle.replay_course.proofs.SoundCourse.{commands_sound, idle_sound, next_on}
use Rattle.replay_course.proofs.Unapplied.{left_of, next_left, none_left}
use Rattle.replay_course.proofs.course.Course.next_command.Goals as goal

-- what is ready where nothing has to wait, and where the next command has to
free : (me : Course) (waits : Bool) (o : Option Command) → ready_next me ≡ (if waits then None else next me.commit) → waits ≡ false → o ≡ next me.commit → o ≡ ready_next me
free me waits o is off next_is = next_is ∙ sym (is ∙ ap (λ (b : Bool). if b then None else next me.commit) off)

held : (me : Course) (waits : Bool) → ready_next me ≡ (if waits then None else next me.commit) → waits ≡ true → None ≡ ready_next me
held me waits is on = sym (is ∙ ap (λ (b : Bool). if b then None else next me.commit) on)

-- where no command is next, all but the counts stays
none_next : (me : Course) (k : Commit) → me.commit.sent ≤ length (commands me.commit) → None ≡ next me.commit → k ≡ after_next me.commit
    → record me { commit = k; events = me.events + 1; idle = me.idle + 1 } ≡ record me { events = me.events + 1; idle = me.idle + 1 }
none_next me k within none after =
    let commit = after ∙ (next_none me.commit within none).1 in λ i. record me { commit = commit i; events = me.events + 1; idle = me.idle + 1 }

pub returns : goal.returns
returns c =
    let me = c.args.self.now in
    let some = c.in-Some.ensures in
    let ready = free me _ _ c.has_to_wait.ensures c.if-has_to_wait.false some.did in
    record {
      stepped = λ s setup calls st h. ready_applies s setup calls st me (Some c.in-Some.command) h ready;
      asked = λ s setup packets calls st h. ready_asked s setup calls st me (Some c.in-Some.command) h ready packets;
      shown = λ s setup a calls st h. command_goes s setup a calls st me _ c.in-Some.command refl ready some.after h;
      next = ready;
      sound = λ x h. commands_sound x me _ _ h (next_on me.commit h.order) some.after refl (let i = h.within.idle in omega arith);
      unapplied = λ x h. next_left me.commit c.in-Some.command me.passes h.order ready ∙ ap (λ k. 1 + left_of k) (sym some.after);
      counted = refl;
    }

pub returns-in_default : goal.returns-in_default
returns-in_default c =
    let me = c.args.self.now in
    let none = c.in_default.ensures in
    let ready = free me _ _ c.has_to_wait.ensures c.if-has_to_wait.false none.did in
    record {
      stepped = λ s setup calls st h. ready_applies s setup calls st me None h ready;
      asked = λ s setup packets calls st h. ready_asked s setup calls st me None h ready packets;
      shown = λ s setup a calls st h. no_command s setup a calls st me _ (none_next me _ h.sent_within none.did none.after) ready h;
      next = ready;
      sound = λ x h. idle_sound x me _ h (none_next me _ h.order.sent_within none.did none.after);
      unapplied = λ x h. none_left me.commit ∙ ap (λ (z : Course). 0 + unapplied z) (sym (none_next me _ h.order.sent_within none.did none.after));
      counted = refl;
    }

pub returns-then-has_to_wait : goal.returns-then-has_to_wait
returns-then-has_to_wait c =
    let me = c.args.self.now in
    let ready = held me _ c.has_to_wait.ensures c.if-has_to_wait.true in
    record {
      stepped = λ s setup calls st h. ready_applies s setup calls st me None h ready;
      asked = λ s setup packets calls st h. ready_asked s setup calls st me None h ready packets;
      shown = λ s setup a calls st h. no_command s setup a calls st me _ refl ready h;
      next = ready;
      sound = λ x h. idle_sound x me _ h refl;
      unapplied = λ x h. none_left me.commit;
      counted = refl;
    }
