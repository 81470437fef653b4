-- Drain picks the first event that applies; it ends, and within the bound.
use Rattle.std.proofs.Common.{◌≡◌, ℕ, ◌+◌, ◌-◌, ◌*◌, ◌<◌, ◌≤◌, true, false, cond, ltb, leb, eqb, List, [], ◌∷◌, ◌++◌, Option, Some, None, inl, inr, refl, sym, subst, arith, length}
use Rattle.std.specs.Prelude.{slice_get, slice_set, remove, not}
use Rattle.std.proofs.lemmas.Bool.{and_parts, cases_Bool, eqb-false, leb-false, ltb-true}
use Rattle.std.proofs.lemmas.Option.{slice_get_within}
use Rattle.std.proofs.lemmas.List.{length_push, length-set}
use Rattle.std.proofs.lemmas.List.Edits.{length-remove}
use Rattle.packet_fields.specs.declared.verdict.Verdict.{Verdict}
use Rattle.state_store.specs.Store.{Store}
use Rattle.writeback_table.specs.declared.command.Update.{Update}
use Rattle.replay_state.specs.Answers.{Answers, Setup}
use Rattle.output_commit.specs.Batches.{Batch, commands_in, visible}
use Rattle.replay_state.specs.State.{State, Progress, Entered, Pass, store_at, seen}
use Rattle.run_model.specs.declared.event.Event.{Event}
use Rattle.run_model.specs.declared.event.Event.TheVariants.{Admit, Stage, Serve, Send, Apply, Ack, Hold, Down}
use Rattle.replay_state.specs.Step.{applies, waits, may_go, happens, step, steps, tick}
use Rattle.replay_state.specs.Step.{finished, went_up, released, decided, came_in, ended, pass_of, entered, staged, with_changes, ran, served, let_go, came_down, admitted}
use Rattle.replay_state.specs.Drain.{events_left, packet_events, pass_events, up_events}
use Rattle.replay_state.specs.SoundAnswers.{AreFew}
use Rattle.replay_state.proofs.Lists.{weight_change, weight_push, weight_remove}
use Rattle.replay_state.proofs.Counts.{length_more}
use Rattle.output_commit.proofs.MergedBatches.{is_merged}
use Rattle.replay_state.proofs.EveryState.{EveryState, every_step}
use Rattle.replay_state.proofs.Steps.{run_at}
use Rattle.lemmas.proofs.Lists.{get_within}

-- ---- what is left to do

mul_step : (x y c : ℕ) → x ≡ y + 1 → x * c ≡ y * c + c
mul_step x y c e = rw e (grind arith)

-- a change of one packet costs nothing
same_progress : (setup : Setup) (w : State) (n : ℕ) (p : Progress) → events_left setup (record w { progress = slice_set w.progress n p }) ≡ events_left setup w
same_progress setup w n p = let same = length-set w.progress n p in rw same refl

module _ (setup : Setup) (a : Answers) where
  came_in_cost : (w : State) (n : ℕ) (o : Option Verdict) → events_left setup (came_in w n o) ≤ events_left setup w + up_events setup
  came_in_cost w n None =
      let same = length-set w.progress n (went_up (slice_get w.progress n)) in
      let one = length_push w.up n in
      let more = mul_step (length w.up + 1) (length w.up) (up_events setup) refl in
      rw (same, one) (omega arith)
  came_in_cost w n (Some y) = let same = same_progress setup w n (finished w.events y (slice_get w.progress n)) in omega arith

  ended_cost : (w : State) (x : Pass) → events_left setup (ended a w x) ≤ events_left setup w + cond x.pre (up_events setup) 0
  ended_cost w x = elim (cases_Bool x.pre) [
    | inl t ↦ rw t (came_in_cost w x.number (a.pre (store_at w.stores x.version) x.number))
    | inr t ↦ rw t (let same = same_progress setup w x.number (released (λ over. a.post over x.number) w.events (slice_get w.progress x.number)) in omega arith)
  ]

  entered_cost : (w : State) (x : Pass) → events_left setup (entered a w x) ≤ events_left setup w + x.left + cond x.pre (up_events setup) 0
  entered_cost w x = elim (cases_Bool (eqb x.left 0)) [
    | inl t ↦ rw t (let e = ended_cost w x in omega arith)
    | inr t ↦ rw t (
        let one = weight_push (pass_events setup) w.passes x in
        let some : x.left ≡ 0 → ⊥ = eqb-false x.left 0 t in
        omega arith)
  ]

  admitted_cost : (w : State) → length w.progress < setup.total → events_left setup (admitted setup a w) < events_left setup w
  admitted_cost w low =
      let f : Progress = Entered w.events (seen w) in
      let one = length_push w.progress f in
      let less = mul_step (setup.total - length w.progress) (setup.total - (length w.progress + 1)) (packet_events setup) (omega arith) in
      let mid : State = record w { progress = w.progress ++ f ∷ [] } in
      let mid_cost : events_left setup mid + packet_events setup ≡ events_left setup w = rw one (omega arith) in
      let e = entered_cost mid (pass_of w true (length w.progress) setup.pre_stages) in
      omega arith

  staged_cost : (w : State) (j : ℕ) (x : Pass) → slice_get w.passes j ≡ Some x → events_left setup (staged a w j (Some x)) < events_left setup w
  staged_cost w j x g = elim (cases_Bool (leb x.left 1)) [
    | inl t ↦ rw t (
        let less = weight_remove (pass_events setup) w.passes j x g in
        let e = ended_cost (record w { passes = remove w.passes j }) x in
        omega arith)
    | inr t ↦ rw t (
        let y : Pass = record x { left = x.left - 1 } in
        let less = weight_change (pass_events setup) w.passes j x y g in
        let some : 1 < x.left = leb-false x.left 1 t in
        omega arith)
  ]

  come_down_cost : (w : State) (j n : ℕ) → slice_get w.down j ≡ Some n → events_left setup (came_down setup a w j (Some n)) < events_left setup w
  come_down_cost w j n g =
      let within = slice_get_within w.down j n g in
      let less = length-remove w.down j within in
      let fewer = mul_step (length w.down) (length (remove w.down j)) (1 + setup.post_stages) (omega arith) in
      let mid : State = record w { down = remove w.down j } in
      let mid_cost : events_left setup mid + (1 + setup.post_stages) ≡ events_left setup w = omega arith in
      let e = entered_cost mid (pass_of w false n setup.post_stages) in
      omega arith

  go_cost : (w : State) (j n need : ℕ) → slice_get w.held j ≡ Some (n, need) → events_left setup (let_go w j (Some (n, need))) < events_left setup w
  go_cost w j n need g =
      let within = slice_get_within w.held j (n, need) g in
      let less = length-remove w.held j within in
      let fewer = mul_step (length w.held) (length (remove w.held j)) (2 + setup.post_stages) (omega arith) in
      let one = length_push w.down n in
      let more = mul_step (length w.down + 1) (length w.down) (1 + setup.post_stages) refl in
      rw one (omega arith)

  run_cost : (w : State) (j n v : ℕ) (stores : List Store) (batches : List Batch) → slice_get w.up j ≡ Some n → w.sent ≤ length (commands_in w.batches)
      → length (commands_in batches) ≤ length (commands_in w.batches) + (3 * setup.writes + 2)
      → events_left setup (run_at a w j n v stores batches) < events_left setup w
  run_cost w j n v stores batches g sent few =
      let less = length-remove w.up j (slice_get_within w.up j n g) in
      let within = slice_get_within w.up j n g in
      let fewer = mul_step (length w.up) (length (remove w.up j)) (up_events setup) (omega arith) in
      let one = length_push w.held (n, v) in
      let more = mul_step (length w.held + 1) (length w.held) (2 + setup.post_stages) refl in
      let same = length-set w.progress n (decided w.events v w.store (slice_get w.progress n)) in
      rw (same, one) (omega arith)

  ran_cost : (w : State) (j n : ℕ) (store : Store) (us : List Update) → slice_get w.up j ≡ Some n → w.sent ≤ length (commands_in w.batches)
      → length us ≤ setup.writes
      → events_left setup (ran a w (with_changes store us w) j n) < events_left setup w
  ran_cost w j n store [] g sent few = run_cost w j n w.version w.stores w.batches g sent (omega arith)
  ran_cost w j n store (u ∷ us) g sent few =
      let b : Batch = record { updates = u ∷ us; versions = 1 } in
      let all = length_more w.batches b in
      run_cost w j n (w.version + 1) w.stores (w.batches ++ b ∷ []) g sent (omega arith)

  send_cost : (w : State) → w.done ≤ w.sent → w.sent < length (commands_in w.batches) → events_left setup (happens setup a w Send) < events_left setup w
  send_cost w g h = let m = is_merged setup.fits w.sent w.batches in let on = m.goes_on h in let fewer = m.fewer in omega arith

-- ---- what an event costs

module _ (setup : Setup) (a : Answers) (few : AreFew setup a) where
  held_cost : (w : State) (j : ℕ) (o : Option (ℕ × ℕ)) → slice_get w.held j ≡ o → may_go (visible w.batches w.acked) o ≡ true → events_left setup (let_go (tick w) j o) < events_left setup w
  held_cost w j None g t = cc
  held_cost w j (Some (n, need)) g t = go_cost setup a (tick w) j n need g

  -- each event that applies lowers the cost
  pub lowers : (w : State) (e : Event) → EveryState setup w → applies setup w e ≡ true → events_left setup (happens setup a (tick w) e) < events_left setup w
  lowers w Admit k t = admitted_cost setup a (tick w) (ltb-true _ _ t)
  lowers w (Stage j) k t =
      let g = get_within w.passes j (ltb-true _ _ t) in
      subst (λ o. events_left setup (staged a (tick w) j o) < events_left setup w) (sym g.1) (staged_cost setup a (tick w) j g.0 g.1)
  lowers w (Serve j) k t =
      let g = get_within w.up j (ltb-true _ _ t) in
      let n = g.0 in
      subst (λ o. events_left setup (served a (tick w) j o) < events_left setup w) (sym g.1)
      (ran_cost setup a (tick w) j n (a.after w.store n) (a.changes w.store n) g.1 k.consistent.counts.sent_in (few.each n w.store))
  lowers w Send k t = send_cost setup a (tick w) k.consistent.counts.done_in (ltb-true _ _ t)
  lowers w Apply k t =
      let both = and_parts (ltb w.done w.sent) (not (waits w.passes (slice_get (commands_in w.batches) w.done))) t in
      let low = ltb-true _ _ both.0 in let g = k.consistent.counts.acked_in in omega arith
  lowers w Ack k t = let low = ltb-true _ _ t in omega arith
  lowers w (Hold j) k t = held_cost w j (slice_get w.held j) refl t
  lowers w (Down j) k t =
      let g = get_within w.down j (ltb-true _ _ t) in
      subst (λ o. events_left setup (came_down setup a (tick w) j o) < events_left setup w) (sym g.1) (come_down_cost setup a (tick w) j g.0 g.1)

  pub cost_step : (w : State) (e : Event) → EveryState setup w → events_left setup (step setup a w e) ≤ events_left setup w
  cost_step w e k = elim (cases_Bool (applies setup w e)) [
    | inl t ↦ rw t (let l = lowers w e k t in omega arith)
    | inr t ↦ rw t (omega arith)
  ]

  pub cost_steps : (w : State) (es : List Event) → EveryState setup w → events_left setup (steps setup a w es) ≤ events_left setup w
  cost_steps w [] k = omega arith
  cost_steps w (e ∷ es) k =
      let one = cost_step w e k in
      let rest = cost_steps (step setup a w e) es (every_step setup a w e k) in
      omega arith
