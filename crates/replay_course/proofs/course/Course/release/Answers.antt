use Rattle.std.proofs.Common.{◌≡◌, ◌+◌, ℕ, List, refl, sym, ap, inl, inr, ◌∙◌}
use Rattle.std.specs.Prelude.{slice_get}
use Rattle.output_commit.specs.Commit.{answer}
use Rattle.output_commit.specs.declared.output.Release.TheVariants as release
use Rattle.run_model.specs.declared.event.Event.TheVariants as event
use Rattle.replay_contracts.specs.Replayer.{stepped_by}
use Rattle.replay_course.proofs.ShownOutputs.{hold_applies, hold_goes, hold_idles, idle_shown, stays}
use Rattle.replay_course.proofs.SoundCourse.{idle_sound}
use Rattle.replay_course.proofs.Unapplied.{goes_sound, left_of, release_same}
use Rattle.replay_course.proofs.course.Course.release.Goals as goal

pub returns-in_ok-push_back-in-Frame : goal.returns-in_ok-push_back-in-Frame
returns-in_ok-push_back-in-Frame c =
    let me = c.args.self.now in
    let n = c.in-Frame.number in
    let f = c.in-Frame.frame in
    let after = c.release.ensures.after in
    let items = c.in_ok-push_back-in-Frame.ensures.items in
    record {
      stepped = λ s setup calls st h. sym (ap stepped_by (hold_applies s setup calls st me c.args.j n f c.in-Frame.ensures.answer h));
      shown = λ s setup a calls st h. hold_goes s setup a calls st me _ c.args.j n f refl after c.in-Frame.ensures.answer items h;
      sound = λ x h. goes_sound x me _ c.args.j n f h refl after c.in-Frame.ensures.answer items;
      unapplied = ap left_of after ∙ release_same me.commit c.args.j (slice_get me.commit.held c.args.j);
      counted = refl;
    }

pub returns-in-NotYet : goal.returns-in-NotYet
returns-in-NotYet c =
    let me = c.args.self.now in
    let never : (n : ℕ) (f : List ℕ) → release.Frame n f ≡ answer me.commit (slice_get me.commit.held c.args.j) → ⊥ = λ n f e. elim c.in-NotYet.is [
      | inl p ↦ let bad = e ∙ sym c.release.ensures.answer ∙ p.2 in cc
      | inr p ↦ let bad = e ∙ sym c.release.ensures.answer ∙ p.1 in cc
    ] in
    let commit = c.release.ensures.after ∙ (stays me.commit c.args.j (slice_get me.commit.held c.args.j) never).0 in
    let is : record me { commit = c.release.new.self; events = me.events + 1; idle = me.idle + 1 } ≡ record me { events = me.events + 1; idle = me.idle + 1 } =
    λ i. record me { commit = commit i; events = me.events + 1; idle = me.idle + 1 } in
    record {
      stepped = λ s setup calls st h. sym (ap stepped_by (hold_idles s setup calls st me c.args.j never h));
      shown = λ s setup a calls st h. idle_shown s setup a calls st (event.Hold c.args.j) me _ (hold_idles s setup calls st me c.args.j never h) is h;
      sound = λ x h. idle_sound x me _ h is;
      unapplied = ap left_of commit;
      counted = refl;
    }
