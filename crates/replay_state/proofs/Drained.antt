-- Drain picks the first event that applies, until a state is drained.
use Rattle.std.proofs.Common.{◌≡◌, ℕ, ◌-◌, ◌<◌, ◌≤◌, Bool, true, false, ◌&&◌, ltb, eqb, List, [], ◌∷◌, Option, Some, None, ◌⊎◌, inl, inr, refl, sym, ◌∙◌, ap, subst, arith, zero, suc, length}
use Rattle.std.specs.Prelude.{slice_get, not}
use Rattle.std.proofs.lemmas.Bool.{cases_Bool, cases_lt, ltb-false, le-leb, eq-eqb, eqb-true, and_parts, and_from, le-ltb}
use Rattle.std.proofs.lemmas.Option.{same_Some, none-some}
use Rattle.state_store.specs.Store.{start_store}
use Rattle.writeback_table.specs.declared.command.Command.{Command}
use Rattle.replay_state.specs.Answers.{Answers, Setup}
use Rattle.output_commit.specs.Batches.{commands_in, visible}
use Rattle.replay_state.specs.State.{State, Held, first_state}
use Rattle.run_model.specs.declared.event.Event.{Event}
use Rattle.replay_state.specs.Step.{applies, waits, may_go, state_of, step, steps}
use Rattle.replay_state.specs.Drain.{is_quiet, is_drained, first_of, drain_order, next_event, with_picked, picked_events, drain_bound, IsFirstOf, IsNoneOf, Drains, Picks, events_left}
use Rattle.replay_state.specs.SoundAnswers.{AreFew}
use Rattle.run_model.proofs.Members.{get_member}
use Rattle.replay_state.proofs.Lists.{is_self, weight_remove}
use Rattle.replay_state.proofs.Visible.{visible_all}
use Rattle.replay_state.proofs.Fates.{held_fate, in_held}
use Rattle.replay_state.proofs.Effects.{Consistent}
use Rattle.replay_state.proofs.EveryState.{EveryState, every_first, every_step}
use Rattle.replay_state.proofs.Serialised.{quiet_parts}
use Rattle.replay_state.proofs.DrainBound.{lowers, cost_steps}
use Rattle.lemmas.proofs.Lists.{get_within}
use Rattle.lemmas.proofs.Tests.{true_not_false}
use Rattle.std.proofs.lemmas.List.{nil_from_length}

-- ---- the first event that passes a test

pub picked : (test : Event → Bool) (es : List Event) (e : Event) → first_of test es ≡ Some e → IsFirstOf test es e
picked test [] e h = cc
picked test (x ∷ xs) e h = elim (cases_Bool (test x)) [
  | inl t ↦ inl (t, same_Some _ _ (rw t at h))
  | inr t ↦ inr (t, picked test xs e (rw t at h))
]

pub none_picked : (test : Event → Bool) (es : List Event) → first_of test es ≡ None → IsNoneOf test es
none_picked test [] h = tt
none_picked test (x ∷ xs) h = elim (cases_Bool (test x)) [
  | inl t ↦ absurd (none-some x (sym (rw t at h)))
  | inr t ↦ (t, none_picked test xs (rw t at h))
]

pub none_left : (test : Event → Bool) (es : List Event) → IsNoneOf test es → first_of test es ≡ None
none_left test [] h = refl
none_left test (x ∷ xs) h = rw h.0 (none_left test xs h.1)

pub passes_test : (test : Event → Bool) (es : List Event) (e : Event) → IsFirstOf test es e → test e ≡ true
passes_test test [] e h = absurd h
passes_test test (x ∷ xs) e (inl h) = subst (λ z. test z ≡ true) h.1 h.0
passes_test test (x ∷ xs) e (inr h) = passes_test test xs e h.1

pub picks_first : (setup : Setup) (w : State) (e : Event) → next_event setup w ≡ Some e → IsFirstOf (applies setup w) drain_order e
picks_first setup w e h = picked (applies setup w) drain_order e h

-- ---- where none applies, nothing is left to do

pub record IsDone (setup : Setup) (w : State) : Type 0 where
  pub passes : length w.passes ≤ 0
  pub up : length w.up ≤ 0
  pub held : length w.held ≤ 0
  pub down : length w.down ≤ 0
  pub acked : w.acked ≡ length (commands_in w.batches)
  pub all : length w.progress ≡ setup.total

waits_for_none : (o : Option Command) → waits [] o ≡ false
waits_for_none None = refl
waits_for_none (Some c) = refl

first_half : (x y : Bool) → (x && y) ≡ false → y ≡ true → x ≡ false
first_half true y h k = absurd (true_not_false (sym k ∙ h))
first_half false y h k = refl

none_held : (w : State) → Consistent w → w.acked ≡ length (commands_in w.batches) → may_go (visible w.batches w.acked) (slice_get w.held 0) ≡ false → length w.held ≤ 0
none_held w c whole t = elim (cases_lt 0 (length w.held)) [
  | inl some ↦
      let g = get_within w.held 0 some in
      let p = g.0.0 in
      let need = g.0.1 in
      let r = weight_remove (in_held p) w.held 0 (p, need) g.1 in
      let one = is_self p in
      let u = c.places.helds p in
      let f = held_fate (slice_get w.progress p) (omega arith) in
      let same = c.needs.helds p need f.0 f.1 f.2 f.3 (get_member w.held 0 (p, need) g.1) f.4 in
      let low = c.each p (Held f.0 f.1 f.2 f.3) f.4 in
      let newest : visible w.batches w.acked ≡ w.version = ap (visible w.batches) whole ∙ visible_all w.batches ∙ c.counts.versions in
      let go = le-leb need (visible w.batches w.acked) (omega arith) in
      absurd (true_not_false (sym (subst (λ o. may_go (visible w.batches w.acked) o ≡ true) (sym g.1) go) ∙ t))
  | inr none ↦ none
]

pub done_where_none : (setup : Setup) (w : State) → Consistent w → length w.progress ≤ setup.total → IsNoneOf (applies setup w) drain_order → IsDone setup w
done_where_none setup w c few none =
    let i1 = c.counts.acked_in in let i2 = c.counts.done_in in let i3 = c.counts.sent_in in
    let no_passes = ltb-false _ _ none.0 in
    let empty : w.passes ≡ [] = nil_from_length w.passes (omega arith) in
    let next = slice_get (commands_in w.batches) w.done in
    let free : not (waits w.passes next) ≡ true = ap (λ l. not (waits l next)) empty ∙ ap not (waits_for_none next) in
    let n2 = ltb-false _ _ none.1.0 in
    let n3 = ltb-false _ _ (first_half (ltb w.done w.sent) (not (waits w.passes next)) none.1.1.0 free) in
    let n4 = ltb-false _ _ none.1.1.1.0 in
    let whole : w.acked ≡ length (commands_in w.batches) = omega arith in
    let n8 = ltb-false _ _ none.1.1.1.1.1.1.1.0 in
    record {
      passes = no_passes;
      up = ltb-false _ _ none.1.1.1.1.1.1.0;
      held = none_held w c whole none.1.1.1.1.1.0;
      down = ltb-false _ _ none.1.1.1.1.0;
      acked = whole;
      all = omega arith;
    }

pub done_is_drained : (setup : Setup) (w : State) → IsDone setup w → is_drained setup w ≡ true
done_is_drained setup w d =
    let h0 = d.passes in let h1 = d.up in let h2 = d.held in let h3 = d.down in
    and_from _ _ (eq-eqb _ _ d.all)
    (and_from _ _ (and_from _ _ (and_from _ _ (and_from _ _ (eq-eqb (length w.passes) 0 (omega arith)) (eq-eqb (length w.up) 0 (omega arith))) (eq-eqb (length w.held) 0 (omega arith))) (eq-eqb (length w.down) 0 (omega arith))) (eq-eqb _ _ d.acked))

pub drained_has_none : (setup : Setup) (w : State) → Consistent w → is_drained setup w ≡ true → next_event setup w ≡ None
drained_has_none setup w c drained =
    let parts = and_parts (eqb (length w.progress) setup.total) (is_quiet w) drained in
    let all : length w.progress ≡ setup.total = eqb-true (length w.progress) setup.total parts.0 in
    let q = quiet_parts w parts.1 in
    let i1 = c.counts.acked_in in let i2 = c.counts.done_in in let i3 = c.counts.sent_in in
    let acked = q.acked in
    let passes : length w.passes ≡ 0 = ap (λ l. length l) q.passes in
    let up : length w.up ≡ 0 = ap (λ l. length l) q.up in
    let down : length w.down ≡ 0 = ap (λ l. length l) q.down in
    let held : may_go (visible w.batches w.acked) (slice_get w.held 0) ≡ false = ap (λ l. may_go (visible w.batches w.acked) (slice_get l 0)) q.held in
    let waiting = waits w.passes (slice_get (commands_in w.batches) w.done) in
    none_left (applies setup w) drain_order (
      le-ltb 0 (length w.passes) (omega arith),
      (
        le-ltb w.acked w.done (omega arith),
        (
          ap (λ b. b && not waiting) (le-ltb w.done w.sent (omega arith)),
          (
            le-ltb w.sent (length (commands_in w.batches)) (omega arith),
            (
              le-ltb 0 (length w.down) (omega arith),
              (
                held,
                (
                  le-ltb 0 (length w.up) (omega arith),
                  (le-ltb (length w.progress) setup.total (omega arith), tt),
                ),
              ),
            ),
          ),
        ),
      ),
    )

none_or_some : {X : Type 0} (o : Option X) → (o ≡ None) ⊎ ((x : X) × (o ≡ Some x))
none_or_some None = inl refl
none_or_some (Some x) = inr (x, refl)

-- ---- drain

-- what is picked is within so many
pub picked_few : (setup : Setup) (a : Answers) (n : ℕ) (w : State) → length (picked_events setup a n w) ≤ n
picked_few setup a zero w = omega arith
picked_few setup a (suc n) w = elim (none_or_some (next_event setup w)) [
  | inl none ↦ rw none (omega arith)
  | inr some ↦ rw some.1 (let r = picked_few setup a n (step setup a w some.0) in omega arith)
]

-- there is one list of events that it picks
pub picked_are : (setup : Setup) (a : Answers) (n : ℕ) (w : State) (es : List Event) → Picks setup a w es → next_event setup (steps setup a w es) ≡ None → length es ≤ n → picked_events setup a n w ≡ es
picked_are setup a zero w [] d none le = refl
picked_are setup a zero w (e ∷ es) d none le = absurd (omega arith)
picked_are setup a (suc n) w [] d none le = rw none refl
picked_are setup a (suc n) w (e ∷ es) d none le = rw d.0 (ap (λ l. e ∷ l) (picked_are setup a n (step setup a w e) es d.1 none (omega arith)))

module _ (setup : Setup) (a : Answers) (few : AreFew setup a) where
  some_lowers : (w : State) (e : Event) → EveryState setup w → next_event setup w ≡ Some e → events_left setup (step setup a w e) < events_left setup w
  some_lowers w e k h =
      let t = passes_test (applies setup w) drain_order e (picks_first setup w e h) in
      rw t (lowers setup a few w e k t)

  pub picks_all : (n : ℕ) (w : State) → EveryState setup w → events_left setup w ≤ n → Drains setup a w (picked_events setup a n w)
  picks_all zero w k le = elim (none_or_some (next_event setup w)) [
    | inl none ↦ (tt, none)
    | inr some ↦ let low = some_lowers w some.0 k some.1 in absurd (omega arith)
  ]
  picks_all (suc n) w k le = elim (none_or_some (next_event setup w)) [
    | inl none ↦ subst (λ o. Drains setup a w (with_picked o (λ e. picked_events setup a n (step setup a w e)))) (sym none) (tt, none)
    | inr some ↦
        let low = some_lowers w some.0 k some.1 in
        subst (λ o. Drains setup a w (with_picked o (λ e. picked_events setup a n (step setup a w e)))) (sym some.1)
        (let rest = picks_all n (step setup a w some.0) (every_step setup a w some.0 k) (omega arith) in ((some.1, rest.0), rest.1))
  ]

  pub picks_within : (w : State) (es : List Event) → EveryState setup w → Picks setup a w es → length es ≤ events_left setup w
  picks_within w [] k d = omega arith
  picks_within w (e ∷ es) k d =
      let low = some_lowers w e k d.0 in
      let rest = picks_within (step setup a w e) es (every_step setup a w e k) d.1 in
      omega arith

  pub cost_now : (events : List Event) → events_left setup (state_of setup a events) ≤ drain_bound setup
  cost_now events =
      let begin = first_state (start_store setup.objects) in
      let le = cost_steps setup a few begin events (every_first setup a (start_store setup.objects)) in
      let all : setup.total - 0 ≡ setup.total = omega arith in
      let first : events_left setup begin ≡ drain_bound setup = rw all (omega arith) in
      omega arith

pub none_is_drained : (setup : Setup) (w : State) → EveryState setup w → next_event setup w ≡ None → is_drained setup w ≡ true
none_is_drained setup w k none = done_is_drained setup w (done_where_none setup w k.consistent k.few (none_picked (applies setup w) drain_order none))
