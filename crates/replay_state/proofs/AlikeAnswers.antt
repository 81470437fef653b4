-- States that are stepped with answers which agree are the same.
use Rattle.std.proofs.Common.{◌≡◌, ◌≤◌, ℕ, true, false, [], ◌∷◌, ◌++◌, ◌+◌, Option, Some, None, inl, inr, refl, ◌∙◌, ap, eqb, leb, length}
use Rattle.std.specs.Prelude.{slice_get, slice_set, remove}
use Rattle.std.proofs.lemmas.Bool.{cases_Bool, eqb-true, leb-true}
use Rattle.state_store.specs.Store.{Store}
use Rattle.replay_state.specs.Answers.{Answers, Setup}
use Rattle.replay_state.specs.State.{State, Progress, Entered, Held, Slow, Pass, seen}
use Rattle.run_model.specs.declared.event.Event.{Event}
use Rattle.run_model.specs.declared.event.Event.TheVariants.{Admit, Stage, Serve, Down}
use Rattle.replay_state.specs.Step.{applies, happens, step, tick}
use Rattle.replay_state.specs.Step.{released, came_in, ended, entered, staged, pass_of, with_changes, ran, served, came_down}
use Rattle.replay_state.specs.Agree.{EndAlike, RunAlike, AgreeOn}

module _ (setup : Setup) (a b : Answers) where
  released_alike : (n : ℕ) (event : ℕ) (o : Option Progress) → ((e d v : ℕ) (over : Store) → o ≡ Some (Held e d v over) → a.post over n ≡ b.post over n)
      → released (λ over. a.post over n) event o ≡ released (λ over. b.post over n) event o
  released_alike n event (Some (Held e d v over)) h = ap (λ y. Slow e d v y event) (h e d v over refl)
  released_alike n event o h = refl

  ended_alike : (st : State) (x : Pass) → EndAlike a b st x → ended a st x ≡ ended b st x
  ended_alike st x h = elim (cases_Bool x.pre) [
    | inl t ↦ rw t (ap (came_in st x.number) (h.pre t))
    | inr t ↦ rw t (ap (λ p. record st { progress = slice_set st.progress x.number p })
        (released_alike x.number st.events (slice_get st.progress x.number) (λ e d v over g. h.post e d v over t g)))
  ]

  entered_alike : (st : State) (x : Pass) → (x.left ≡ 0 → EndAlike a b st x) → entered a st x ≡ entered b st x
  entered_alike st x h = elim (cases_Bool (eqb x.left 0)) [
    | inl t ↦ rw t (ended_alike st x (h (eqb-true x.left 0 t)))
    | inr t ↦ rw t refl
  ]

  staged_alike : (st : State) (j : ℕ) (o : Option Pass) → ((x : Pass) → x.left ≤ 1 → o ≡ Some x → EndAlike a b st x) → staged a st j o ≡ staged b st j o
  staged_alike st j None h = refl
  staged_alike st j (Some x) h = elim (cases_Bool (leb x.left 1)) [
    | inl t ↦ rw t (let e = h x (leb-true x.left 1 t) refl in ended_alike (record st { passes = remove st.passes j }) x (record { pre = e.pre; post = e.post }))
    | inr t ↦ rw t refl
  ]

  served_alike : (st : State) (j : ℕ) (o : Option ℕ) → ((n : ℕ) → o ≡ Some n → RunAlike a b st n) → served a st j o ≡ served b st j o
  served_alike st j None h = refl
  served_alike st j (Some n) h =
      let r = h n refl in
      ap (λ us. ran a st (with_changes (a.after st.store n) us st) j n) r.changes
      ∙ ap (λ s. record (with_changes s (b.changes st.store n) st) {
        up = remove (with_changes s (b.changes st.store n) st).up j;
        store = s;
        held = (ran b st (with_changes s (b.changes st.store n) st) j n).held;
        progress = (ran b st (with_changes s (b.changes st.store n) st) j n).progress;
      }) r.after

  came_down_alike : (st : State) (j : ℕ) (o : Option ℕ) → ((n : ℕ) → setup.post_stages ≡ 0 → o ≡ Some n → EndAlike a b st (pass_of st false n setup.post_stages)) → came_down setup a st j o ≡ came_down setup b st j o
  came_down_alike st j None h = refl
  came_down_alike st j (Some n) h =
      entered_alike (record st { down = remove st.down j }) (pass_of st false n setup.post_stages)
      (λ z. let e = h n z refl in record { pre = e.pre; post = e.post })

  happens_alike : (st : State) (e : Event) → AgreeOn setup a b st e → happens setup a (tick st) e ≡ happens setup b (tick st) e
  happens_alike st Admit h =
      entered_alike (record (tick st) { progress = st.progress ++ Entered (st.events + 1) (seen st) ∷ [] }) (pass_of st true (length st.progress) setup.pre_stages)
      (λ z. let e = h z in record { pre = e.pre; post = λ x d v over t. cc })
  happens_alike st (Stage j) h = staged_alike (tick st) j (slice_get st.passes j) (λ x low g. let e = h x low g in record { pre = e.pre; post = e.post })
  happens_alike st (Serve j) h = served_alike (tick st) j (slice_get st.up j) (λ n g. let e = h n g in record { after = e.after; changes = e.changes })
  happens_alike st (Down j) h = came_down_alike (tick st) j (slice_get st.down j) (λ n z g. let e = h n z g in record { pre = e.pre; post = e.post })
  happens_alike st e h = refl

  pub step_alike : (st : State) (e : Event) → (applies setup st e ≡ true → AgreeOn setup a b st e) → step setup a st e ≡ step setup b st e
  step_alike st e h = elim (cases_Bool (applies setup st e)) [
    | inl t ↦ rw t (happens_alike st e (h t))
    | inr t ↦ rw t refl
  ]
