-- Commands are applied in their order, one by one.
use Rattle.std.proofs.Common.{◌≡◌, ℕ, ◌+◌, ◌≤◌, true, false, leb, eqb, ltb, List, [], ◌∷◌, ◌++◌, Option, Some, None, inl, inr, refl, sym, ◌∙◌, ap, arith, length}
use Rattle.std.specs.Prelude.{slice_get, remove, not}
use Rattle.std.proofs.lemmas.Bool.{cases_Bool, ltb-true, and_parts}
use Rattle.std.proofs.lemmas.List.{append-nil}
use Rattle.state_store.specs.Store.{Store}
use Rattle.writeback_table.specs.declared.command.Update.{Update}
use Rattle.run_model.specs.declared.event.Event.{Event}
use Rattle.run_model.specs.declared.event.Event.TheVariants.{Admit, Stage, Serve, Send, Apply, Ack, Hold, Down}
use Rattle.replay_state.specs.Answers.{Answers, Setup}
use Rattle.output_commit.specs.Batches.{commands_in}
use Rattle.replay_state.specs.State.{State, Pass, Entered, applied_commands, seen}
use Rattle.replay_state.specs.Step.{applies, happens, step, tick, waits}
use Rattle.replay_state.specs.Step.{pass_of, entered, staged, with_changes, ran, served, let_go, came_down}
use Rattle.replay_state.specs.Commands.{applied_by, commands_at, one_or_none}
use Rattle.replay_state.proofs.EveryState.{EveryState}
use Rattle.replay_state.proofs.Steps.{ended_leaves}
use Rattle.lemmas.proofs.Lists.{get_within, take_next}
use Rattle.output_commit.proofs.MergedBatches.{is_merged, push_take}

abbrev Stays : State → State → Type 0
Stays w x = applied_commands x ≡ applied_commands w

module _ (setup : Setup) (a : Answers) where
  stays_entered : (w : State) (x : Pass) → Stays w (entered a w x)
  stays_entered w x = elim (cases_Bool (eqb x.left 0)) [ inl t ↦ rw t (ended_leaves applied_commands a (λ w up progress. refl) w x) | inr t ↦ rw t refl ]

  stays_staged : (w : State) (j : ℕ) (o : Option Pass) → Stays w (staged a w j o)
  stays_staged w j None = refl
  stays_staged w j (Some x) = elim (cases_Bool (leb x.left 1)) [
    | inl t ↦ rw t (ended_leaves applied_commands a (λ w up progress. refl) (record w { passes = remove w.passes j }) x)
    | inr t ↦ rw t refl
  ]

  stays_ran : (w : State) (j n : ℕ) (store : Store) (us : List Update) → w.done ≤ length (commands_in w.batches) → Stays w (ran a w (with_changes store us w) j n)
  stays_ran w j n store [] low = refl
  stays_ran w j n store (u ∷ us) low = push_take w.batches ((record { updates = u ∷ us; versions = 1 }) ∷ []) w.done low

  stays_served : (w : State) (j : ℕ) (o : Option ℕ) → w.done ≤ length (commands_in w.batches) → Stays w (served a w j o)
  stays_served w j None low = refl
  stays_served w j (Some n) low = stays_ran w j n (a.after w.store n) (a.changes w.store n) low

  stays_go : (w : State) (j : ℕ) (o : Option (ℕ × ℕ)) → Stays w (let_go w j o)
  stays_go w j None = refl
  stays_go w j (Some x) = refl

  stays_down : (w : State) (j : ℕ) (o : Option ℕ) → Stays w (came_down setup a w j o)
  stays_down w j None = refl
  stays_down w j (Some n) = stays_entered (record w { down = remove w.down j }) (pass_of w false n setup.post_stages)

  no_more : (w x : State) → Stays w x → applied_commands x ≡ applied_commands w ++ []
  no_more w x h = h ∙ sym (append-nil (applied_commands w))

  applied_happens : (w : State) (e : Event) → applies setup w e ≡ true → EveryState setup w → applied_commands (happens setup a (tick w) e) ≡ applied_commands w ++ commands_at w e
  applied_happens w Admit t k = no_more w (happens setup a (tick w) Admit) (stays_entered (record (tick w) { progress = w.progress ++ Entered (w.events + 1) (seen w) ∷ [] }) (pass_of (tick w) true (length w.progress) setup.pre_stages))
  applied_happens w (Stage j) t k = no_more w (happens setup a (tick w) (Stage j)) (stays_staged (tick w) j (slice_get w.passes j))
  applied_happens w (Serve j) t k =
      let low = k.consistent.counts.done_in in
      let in_all = k.consistent.counts.sent_in in
      no_more w (happens setup a (tick w) (Serve j)) (stays_served (tick w) j (slice_get w.up j) (omega arith))
  applied_happens w Send t k = no_more w (happens setup a (tick w) Send) ((is_merged setup.fits w.sent w.batches).stays w.done k.consistent.counts.done_in)
  applied_happens w Apply t k =
      let both = and_parts (ltb w.done w.sent) (not (waits w.passes (slice_get (commands_in w.batches) w.done))) t in
      let low = ltb-true w.done w.sent both.0 in
      let all = k.consistent.counts.sent_in in
      let g = get_within (commands_in w.batches) w.done (omega arith) in
      take_next (commands_in w.batches) w.done g.0 g.1 ∙ ap (λ o. applied_commands w ++ one_or_none o) (sym g.1)
  applied_happens w Ack t k = no_more w (happens setup a (tick w) Ack) refl
  applied_happens w (Hold j) t k = no_more w (happens setup a (tick w) (Hold j)) (stays_go (tick w) j (slice_get w.held j))
  applied_happens w (Down j) t k = no_more w (happens setup a (tick w) (Down j)) (stays_down (tick w) j (slice_get w.down j))

  pub applied_step : (w : State) (e : Event) → EveryState setup w → applied_commands (step setup a w e) ≡ applied_commands w ++ applied_by setup w e
  applied_step w e k = elim (cases_Bool (applies setup w e)) [
    | inl t ↦ rw t (applied_happens w e t k)
    | inr t ↦ rw t (sym (append-nil (applied_commands w)))
  ]
