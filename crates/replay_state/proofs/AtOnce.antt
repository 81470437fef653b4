-- Where passes have no stages, they end at the event at which they enter.
use Rattle.std.proofs.Common.{◌≡◌, ℕ, ◌+◌, true, false, List, [], ◌∷◌, ◌++◌, Option, Some, None, inl, inr, refl, ◌∙◌, ap, length, set}
use Rattle.std.specs.Prelude.{slice_get, remove}
use Rattle.std.proofs.lemmas.Bool.{cases_Bool, eq-eqb}
use Rattle.packet_fields.specs.declared.verdict.Verdict.{Verdict}
use Rattle.state_store.specs.Store.{Store}
use Rattle.writeback_table.specs.declared.command.Update.{Update}
use Rattle.run_model.specs.declared.event.Event.{Event}
use Rattle.replay_state.specs.Answers.{Answers, Setup}
use Rattle.replay_state.specs.State.{State, Pass, Progress, Entered, Up, Held, Slow, Fast, seen, store_at}
use Rattle.run_model.specs.declared.event.Event.TheVariants.{Admit, Stage, Serve, Hold, Down}
use Rattle.replay_state.specs.Step.{applies, happens, step, steps, tick, finished, went_up, released, came_in, came_down, ended, entered, pass_of, staged, ran, served, let_go, with_changes}
use Rattle.lemmas.proofs.Lists.{get_pushed}
use Rattle.replay_state.proofs.Steps.{ended_leaves}

set_push : {X : Type 0} (xs : List X) (x y : X) → set (xs ++ x ∷ []) (length xs) y ≡ xs ++ y ∷ []
set_push [] x y = refl
set_push (z ∷ xs) x y = ap (λ l. z ∷ l) (set_push xs x y)

-- the last packet changes
set_last : (fates : List Progress) (last : Progress) (f : Option Progress → Progress)
    → set (fates ++ last ∷ []) (length fates) (f (slice_get (fates ++ last ∷ []) (length fates))) ≡ fates ++ f (Some last) ∷ []
set_last fates last f = ap (λ o. set (fates ++ last ∷ []) (length fates) (f o)) (get_pushed fates last) ∙ set_push fates last (f (Some last))

module _ (setup : Setup) (a : Answers) where
  -- a packet that comes in ends its pass with this answer
  ends_with : (st : State) → setup.pre_stages ≡ 0 → applies setup st Admit ≡ true → (o : Option Verdict) → a.pre (store_at st.stores (seen st)) (length st.progress) ≡ o
      → step setup a st Admit ≡ came_in (record (tick st) { progress = st.progress ++ Entered (st.events + 1) (seen st) ∷ [] }) (length st.progress) o
  ends_with st none t o h =
      let now = eq-eqb setup.pre_stages 0 none in
      rw (t, now) (ap (came_in (record (tick st) { progress = st.progress ++ Entered (st.events + 1) (seen st) ∷ [] }) (length st.progress)) h)

  pub fast_at_once : (st : State) (y : Verdict) → setup.pre_stages ≡ 0 → applies setup st Admit ≡ true → a.pre (store_at st.stores (seen st)) (length st.progress) ≡ Some y
      → step setup a st Admit ≡ record (tick st) { progress = st.progress ++ Fast (st.events + 1) (st.events + 1) (seen st) y ∷ [] }
  fast_at_once st y none t h =
      ends_with st none t (Some y) h
      ∙ ap (λ l. record (tick st) { progress = l }) (set_last st.progress (Entered (st.events + 1) (seen st)) (finished (st.events + 1) y))

  pub slow_at_once : (st : State) → setup.pre_stages ≡ 0 → applies setup st Admit ≡ true → a.pre (store_at st.stores (seen st)) (length st.progress) ≡ None
      → step setup a st Admit ≡ record (tick st) { up = st.up ++ length st.progress ∷ []; progress = st.progress ++ Up (st.events + 1) ∷ [] }
  slow_at_once st none t h =
      ends_with st none t None h
      ∙ ap (λ l. record (tick st) { up = st.up ++ length st.progress ∷ []; progress = l }) (set_last st.progress (Entered (st.events + 1) (seen st)) went_up)

  pub comes_out : (st : State) (j n e d v : ℕ) (over : Store) (o : Option ℕ) → setup.post_stages ≡ 0 → o ≡ Some n
      → slice_get st.progress n ≡ Some (Held e d v over)
      → came_down setup a (tick st) j o ≡ record (tick st) { down = remove st.down j; progress = set st.progress n (Slow e d v (a.post over n) (st.events + 1)) }
  comes_out st j n e d v over o none g h =
      let now = eq-eqb setup.post_stages 0 none in
      rw (g, now) (ap (λ p. record (tick st) { down = remove st.down j; progress = set st.progress n p }) (ap (released (λ s. a.post s n) (st.events + 1)) h))

  -- ---- no pass is under way then

  pub ended_passes : (w : State) (x : Pass) → (ended a w x).passes ≡ w.passes
  ended_passes = ended_leaves (λ w. w.passes) a (λ w up progress. refl)

  entered_passes : (w : State) (x : Pass) → x.left ≡ 0 → (entered a w x).passes ≡ w.passes
  entered_passes w x none = let now = eq-eqb x.left 0 none in rw now (ended_passes w x)

  ran_passes : (w : State) (j n : ℕ) (store : Store) (us : List Update) → (ran a w (with_changes store us w) j n).passes ≡ w.passes
  ran_passes w j n store [] = refl
  ran_passes w j n store (u ∷ us) = refl

  pub served_passes : (w : State) (j : ℕ) (o : Option ℕ) → (served a w j o).passes ≡ w.passes
  served_passes w j None = refl
  served_passes w j (Some n) = ran_passes w j n (a.after w.store n) (a.changes w.store n)

  pub go_passes : (w : State) (j : ℕ) (o : Option (ℕ × ℕ)) → (let_go w j o).passes ≡ w.passes
  go_passes w j None = refl
  go_passes w j (Some x) = refl

  down_passes : (w : State) (j : ℕ) (o : Option ℕ) → setup.post_stages ≡ 0 → (came_down setup a w j o).passes ≡ w.passes
  down_passes w j None none = refl
  down_passes w j (Some n) none = entered_passes (record w { down = remove w.down j }) (pass_of w false n setup.post_stages) none

  none_under_way : (w : State) (e : Event) → setup.pre_stages ≡ 0 → setup.post_stages ≡ 0 → w.passes ≡ [] → (happens setup a w e).passes ≡ []
  none_under_way w Admit pre post h = entered_passes (record w { progress = w.progress ++ Entered w.events (seen w) ∷ [] }) (pass_of w true (length w.progress) setup.pre_stages) pre ∙ h
  none_under_way w (Stage j) pre post h = ap (λ l. (staged a w j (slice_get l j)).passes) h ∙ h
  none_under_way w (Serve j) pre post h = served_passes w j (slice_get w.up j) ∙ h
  none_under_way w (Hold j) pre post h = go_passes w j (slice_get w.held j) ∙ h
  none_under_way w (Down j) pre post h = down_passes w j (slice_get w.down j) post ∙ h
  none_under_way w e pre post h = h

  pub none_steps : (w : State) (es : List Event) → setup.pre_stages ≡ 0 → setup.post_stages ≡ 0 → w.passes ≡ [] → (steps setup a w es).passes ≡ []
  none_steps w [] pre post h = h
  none_steps w (e ∷ es) pre post h = none_steps (step setup a w e) es pre post (elim (cases_Bool (applies setup w e)) [
    | inl t ↦ rw t (none_under_way (tick w) e pre post h)
    | inr t ↦ rw t h
  ])
