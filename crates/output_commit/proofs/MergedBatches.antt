-- What batches keep where one takes up those behind it.
use Rattle.std.proofs.Common.{◌≡◌, ℕ, ◌+◌, ◌-◌, ◌≤◌, Bool, true, cond, leb, eqb, List, [], ◌∷◌, ◌++◌, inl, inr, refl, sym, ◌∙◌, ap, subst, arith, length, take, append_assoc}
use Rattle.std.proofs.lemmas.Bool.{cases_Bool, eqb-true, leb-true}
use Rattle.std.proofs.lemmas.List.{length-append, take-append-le}
use Rattle.writeback_table.specs.declared.command.Update.{Update}
use Rattle.writeback_table.specs.Commands.{commands_of}
use Rattle.output_commit.specs.Batches.{Batch, commands_in, fits, merged, take_up}
use Rattle.output_commit.specs.Commit.{AreHeld}
use Rattle.output_commit.specs.Laws.{IsMerged, changes_in, versions_in}
use Rattle.writeback_table.proofs.Ons.{length_batch}
use Rattle.output_commit.proofs.VisibleVersions.{visible_parts}
use Rattle.lemmas.proofs.Lists.{take_parts}

abbrev joined : Batch → Batch → Batch
joined b c = record { updates = b.updates ++ c.updates; versions = b.versions + c.versions }

-- ## What stays

same_merged : (n : ℕ) (bs : List Batch) → IsMerged n bs bs
same_merged n bs = record { changes = refl; versions = refl; stays = λ m h. refl; shows = λ m h. refl; fewer = omega arith; goes_on = λ h. h }

-- the first batch takes up those behind it
up_merged : (f : List Update → Bool) (b : Batch) (bs : List Batch) → IsMerged 0 (b ∷ bs) (take_up f b bs)
up_merged f b [] = same_merged 0 (b ∷ [])
up_merged f b (c ∷ bs) = elim (cases_Bool (f (b.updates ++ c.updates))) [
  | inl t ↦ rw t (
      let r = up_merged f (joined b c) bs in
      let versions = r.versions in
      let fewer = r.fewer in
      let x = length-append (commands_of (b.updates ++ c.updates)) (commands_in bs) in
      let y = length-append (commands_of b.updates) (commands_in (c ∷ bs)) in
      let z = length-append (commands_of c.updates) (commands_in bs) in
      let k = length_batch b.updates in let l = length_batch c.updates in let m = length_batch (b.updates ++ c.updates) in
      let n = length-append b.updates c.updates in
      record {
        changes = r.changes ∙ append_assoc b.updates c.updates (changes_in bs);
        versions = omega arith;
        stays = λ m h. let none : m ≡ 0 = omega arith in rw none refl;
        shows = λ m h. let none : m ≡ 0 = omega arith in rw none refl;
        fewer = omega arith;
        goes_on = λ h. r.goes_on (omega arith);
      })
  | inr t ↦ rw t (same_merged 0 (b ∷ (c ∷ bs)))
]

-- so does one behind the first
behind_merged : (b : Batch) (n : ℕ) (bs new : List Batch) → length (commands_of b.updates) ≤ n
    → IsMerged (n - length (commands_of b.updates)) bs new → IsMerged n (b ∷ bs) (b ∷ new)
behind_merged b n bs new low r =
    let cs = commands_of b.updates in
    let x = length-append cs (commands_in bs) in
    let y = length-append cs (commands_in new) in
    let fewer = r.fewer in
    record {
      changes = ap (λ l. b.updates ++ l) r.changes;
      versions = ap (λ k. b.versions + k) r.versions;
      stays = λ m h. take_parts cs (commands_in new) m ∙ ap (λ l. take m cs ++ l) (r.stays (m - length cs) (omega arith)) ∙ sym (take_parts cs (commands_in bs) m);
      shows = λ m h. visible_parts b new m ∙ ap (λ k. cond (leb m (length b.updates)) 0 (b.versions + k)) (r.shows (m - length cs) (omega arith))
          ∙ sym (visible_parts b bs m);
      fewer = omega arith;
      goes_on = λ h. let more = r.goes_on (omega arith) in omega arith;
    }

pub is_merged : (f : List Update → Bool) (n : ℕ) (bs : List Batch) → IsMerged n bs (merged f n bs)
is_merged f n [] = same_merged n []
is_merged f n (b ∷ bs) = elim (cases_Bool (eqb n 0)) [
  | inl t ↦ rw t (subst (λ k. IsMerged k (b ∷ bs) (take_up f b bs)) (sym (eqb-true n 0 t)) (up_merged f b bs))
  | inr t ↦ elim (cases_Bool (leb (length (commands_of b.updates)) n)) [
    | inl s ↦ rw (t, s) (behind_merged b n bs (merged f (n - length (commands_of b.updates)) bs) (leb-true _ _ s)
        (is_merged f (n - length (commands_of b.updates)) bs))
    | inr s ↦ rw (t, s) (same_merged n (b ∷ bs))
  ]
]

-- ## Batches behind others

pub push_changes : (bs cs : List Batch) → changes_in (bs ++ cs) ≡ changes_in bs ++ changes_in cs
push_changes [] cs = refl
push_changes (b ∷ bs) cs = ap (λ l. b.updates ++ l) (push_changes bs cs) ∙ sym (append_assoc b.updates (changes_in bs) (changes_in cs))

pub push_versions : (bs cs : List Batch) → versions_in (bs ++ cs) ≡ versions_in bs + versions_in cs
push_versions [] cs = omega arith
push_versions (b ∷ bs) cs = let r = push_versions bs cs in omega arith

pub push_commands : (bs cs : List Batch) → commands_in (bs ++ cs) ≡ commands_in bs ++ commands_in cs
push_commands [] cs = refl
push_commands (b ∷ bs) cs = ap (λ l. commands_of b.updates ++ l) (push_commands bs cs) ∙ sym (append_assoc (commands_of b.updates) (commands_in bs) (commands_in cs))

pub push_take : (bs cs : List Batch) (m : ℕ) → m ≤ length (commands_in bs) → take m (commands_in (bs ++ cs)) ≡ take m (commands_in bs)
push_take bs cs m low = ap (take m) (push_commands bs cs) ∙ take-append-le m (commands_in bs) (commands_in cs) low

-- ## What the write-back tables hold

up_held : (room : ℕ) (b : Batch) (bs : List Batch) → fits room b.updates ≡ true → AreHeld room bs → AreHeld room (take_up (fits room) b bs)
up_held room b [] one all = (one, tt)
up_held room b (c ∷ bs) one all = elim (cases_Bool (fits room (b.updates ++ c.updates))) [
  | inl t ↦ rw t (up_held room (joined b c) bs t all.1)
  | inr t ↦ rw t (one, all)
]

pub merged_held : (room n : ℕ) (bs : List Batch) → AreHeld room bs → AreHeld room (merged (fits room) n bs)
merged_held room n [] h = h
merged_held room n (b ∷ bs) h = elim (cases_Bool (eqb n 0)) [
  | inl t ↦ rw t (up_held room b bs h.0 h.1)
  | inr t ↦ elim (cases_Bool (leb (length (commands_of b.updates)) n)) [
    | inl s ↦ rw (t, s) (h.0, merged_held room (n - length (commands_of b.updates)) bs h.1)
    | inr s ↦ rw (t, s) h
  ]
]

pub push_held : (room : ℕ) (bs cs : List Batch) → AreHeld room bs → AreHeld room cs → AreHeld room (bs ++ cs)
push_held room [] cs first second = second
push_held room (b ∷ bs) cs first second = (first.0, push_held room bs cs first.1 second)
