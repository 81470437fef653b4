-- How many commands aren't applied after each call of the commands, and what stands then.
use Rattle.std.proofs.Common.{◌≡◌, ◌<◌, ◌≤◌, ◌+◌, ◌-◌, ℕ, ltb, List, [], ◌∷◌, ◌++◌, Option, Some, None, inl, inr, refl, sym, ◌∙◌, ap, arith, length}
use Rattle.std.specs.Prelude.{slice_get, remove}
use Rattle.std.proofs.lemmas.Bool.{cases_Bool, ltb-true}
use Rattle.writeback_table.specs.declared.command.Command.{Command}
use Rattle.output_commit.specs.Commit.{Commit, IsInOrder, acknowledged, commands, after_acknowledge, after_next, after_release, after_send, answer, next}
use Rattle.output_commit.specs.Batches.{fits}
use Rattle.output_commit.specs.declared.output.Output.{Output}
use Rattle.output_commit.specs.declared.output.Release.TheVariants as release
use Rattle.replay_contracts.specs.Inputs.{Inputs}
use Rattle.replay_course.specs.declared.course.Course.{Course}
use Rattle.replay_state.specs.declared.pass.Pass.{Pass}
use Rattle.replay_course.specs.Going.{IsSound, unless_waits}
use Rattle.output_commit.proofs.Laws.{a_batch_takes_up_others}
use Rattle.replay_course.proofs.ShownOutputs.{goes, next_goes}
use Rattle.replay_course.proofs.SoundCourse.{hold_sound}

abbrev pub left_of : Commit → ℕ
left_of k = length (commands k) - k.done

pub release_same : (k : Commit) (j : ℕ) (o : Option Output) → left_of (after_release k j o) ≡ left_of k
release_same k j None = refl
release_same k j (Some out) = elim (cases_Bool (ltb (acknowledged k) out.need)) [ inl t ↦ rw t refl | inr f ↦ rw f refl ]

-- where a batch takes up others there are fewer
pub send_less : (k : Commit) → left_of (after_send k) ≤ left_of k
send_less k = elim (cases_Bool (ltb k.sent (length (commands k)))) [
  | inl t ↦ let fewer = (a_batch_takes_up_others (fits k.writeback) k.sent k.batches).fewer in rw t (omega arith)
  | inr f ↦ rw f (omega arith)
]

pub acknowledge_same : (k : Commit) → left_of (after_acknowledge k) ≡ left_of k
acknowledge_same k = elim (cases_Bool (ltb k.acked k.done)) [ inl t ↦ rw t refl | inr f ↦ rw f refl ]

one_less : (total sent done : ℕ) → done < sent → sent ≤ total → total - done ≡ 1 + (total - (done + 1))
one_less total sent done a b = omega arith

pub next_left : (k : Commit) (command : Command) (passes : List Pass) → IsInOrder k → Some command ≡ unless_waits passes (next k) → left_of k ≡ 1 + left_of (after_next k)
next_left k command passes h e =
    let g = next_goes passes k command e in
    one_less (length (commands k)) k.sent k.done (ltb-true k.done k.sent g.0) h.sent_within ∙ ap (λ z. 1 + left_of z) (sym g.2)

pub none_left : (k : Commit) → left_of k ≡ 0 + left_of k
none_left k = omega arith

-- ## Outputs that go

pub goes_sound : (x : Inputs) (c after : Course) (j n : ℕ) (f : List ℕ) → IsSound x c
    → after ≡ record c { commit = after.commit; down = after.down; events = c.events + 1 }
    → after.commit ≡ after_release c.commit j (slice_get c.commit.held j) → release.Frame n f ≡ answer c.commit (slice_get c.commit.held j)
    → after.down.items ≡ c.down.items ++ (n, f) ∷ [] → IsSound x after
goes_sound x c after j n f h is commit ans down =
    let g = goes c.commit (slice_get c.commit.held j) n f ans in
    let now : after.commit ≡ record c.commit { held = remove c.commit.held j } = commit ∙ ap (after_release c.commit j) g.1 ∙ (rw g.2 refl) in
    hold_sound x c after j g.0 h g.1 (is ∙ (λ i. record c { commit = now i; down = after.down; events = c.events + 1 }))
    (down ∙ (λ i. c.down.items ++ (sym g.3 i, sym g.4 i) ∷ []))
