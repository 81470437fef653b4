-- What each effect of an event keeps, the event keeps.
use Rattle.std.proofs.Common.{◌≡◌, ℕ, ◌+◌, ◌<◌, ◌≤◌, true, false, ltb, leb, eqb, List, [], ◌∷◌, ◌++◌, Option, Some, None, inl, inr, refl, ◌∙◌, subst, length}
use Rattle.std.specs.Prelude.{slice_get, remove, not, ⊤}
use Rattle.std.proofs.lemmas.Bool.{cases_Bool, eqb-true, leb-true, ltb-true, and_parts, not-true}
use Rattle.packet_fields.specs.declared.verdict.Verdict.{Verdict}
use Rattle.writeback_table.specs.declared.command.Update.{Update}
use Rattle.run_model.specs.declared.event.Event.{Event}
use Rattle.run_model.specs.declared.event.Event.TheVariants.{Admit, Stage, Serve, Send, Apply, Ack, Hold, Down}
use Rattle.replay_state.specs.Answers.{Answers, Setup}
use Rattle.output_commit.specs.Batches.{commands_in, visible}
use Rattle.replay_state.specs.State.{State, Entered, Pass, store_at, seen}
use Rattle.replay_state.specs.Step.{applies, waits, may_go, happens, step, steps, tick, idled}
use Rattle.replay_state.specs.Step.{came_in, ended, pass_of, entered, staged, with_changes, ran, served, let_go, came_down}
use Rattle.replay_state.proofs.Lists.{remove_push}
use Rattle.replay_state.proofs.Steps.{let_in, let_down, finished_at, up_at, out_at, moved_at, run_at, go_at, sent_one, applied_one, acked_one}
use Rattle.lemmas.proofs.Lists.{get_pushed}

-- of each packet that goes up at an event this holds
abbrev pub EndsWell : Setup → Answers → (ℕ → Type 0) → State → Event → Type 0
EndsWell setup a Q w Admit = setup.pre_stages ≡ 0 → a.pre (store_at w.stores (seen w)) (length w.progress) ≡ None → Q (length w.progress)
EndsWell setup a Q w (Stage j) =
    (x : Pass) → x.left ≤ 1 → slice_get w.passes j ≡ Some x → x.pre ≡ true → a.pre (store_at w.stores x.version) x.number ≡ None → Q x.number
EndsWell setup a Q w event = ⊤

pub ends_any : (setup : Setup) (a : Answers) (w : State) (e : Event) → EndsWell setup a (λ n. ⊤) w e
ends_any setup a w Admit = λ z none. tt
ends_any setup a w (Stage j) = λ x low g t none. tt
ends_any setup a w e = tt

pub same_turn : (setup : Setup) (w : State) (e : Event) → applies setup (tick w) e ≡ applies setup w e
same_turn setup w Admit = refl
same_turn setup w e = refl

-- a fact of a state, with another that rests on it
pub record Both (S T : State → Type 0) (w : State) : Type 0 where
  pub base : S w
  pub own : T w

module _ (setup : Setup) (a : Answers) (Q : ℕ → Type 0) where
  -- Each effect leads from a state of which P holds to one of which R holds, where it comes; one that lets a pass in, which
  -- may end at once, leads to one of which M holds.
  pub record Leads (P M R : State → Type 0) : Type 0 where
    pub let_in : (w : State) → length w.progress < setup.total → P w → M (let_in w setup.pre_stages)
    pub let_down : (w : State) (j p : ℕ) → slice_get w.down j ≡ Some p → P w → M (let_down w j p setup.post_stages)
    pub finished : (w : State) (j : ℕ) (x : Pass) (y : Verdict) → slice_get w.passes j ≡ Some x → x.pre ≡ true
        → a.pre (store_at w.stores x.version) x.number ≡ Some y → P w → R (finished_at w j x y)
    pub sent_up : (w : State) (j : ℕ) (x : Pass) → slice_get w.passes j ≡ Some x → x.pre ≡ true → a.pre (store_at w.stores x.version) x.number ≡ None
        → Q x.number → P w → R (up_at w j x)
    pub out : (w : State) (j : ℕ) (x : Pass) → slice_get w.passes j ≡ Some x → x.pre ≡ false → P w → R (out_at a w j x)
    pub moved : (w : State) (j : ℕ) (x : Pass) → slice_get w.passes j ≡ Some x → P w → R (moved_at w j x)
    pub unseen : (w : State) (j p : ℕ) → slice_get w.up j ≡ Some p → a.changes w.store p ≡ [] → P w → R (run_at a w j p w.version w.stores w.batches)
    pub shown : (w : State) (j p : ℕ) (u : Update) (us : List Update) → slice_get w.up j ≡ Some p → a.changes w.store p ≡ u ∷ us → P w
        → R (run_at a w j p (w.version + 1) (w.stores ++ a.after w.store p ∷ []) (w.batches ++ (record { updates = u ∷ us; versions = 1 }) ∷ []))
    pub go : (w : State) (j p need : ℕ) → slice_get w.held j ≡ Some (p, need) → need ≤ visible w.batches w.acked → P w → R (go_at w j p)
    pub sent : (w : State) → w.sent < length (commands_in w.batches) → P w → R (sent_one w setup.fits)
    pub applied : (w : State) → w.done < w.sent → waits w.passes (slice_get (commands_in w.batches) w.done) ≡ false → P w → R (applied_one w)
    pub acked : (w : State) → w.acked < w.done → P w → R (acked_one w)

  -- each effect keeps P, where it comes
  abbrev pub Closed : (State → Type 0) → Type 0
  Closed P = Leads P P P

  -- what S holds of beside it, each effect keeps beside it
  pub beside : (S P M R : State → Type 0) → Closed S → Leads (Both S P) M R → Leads (Both S P) (Both S M) (Both S R)
  beside S P M R s t = record {
    let_in = λ w low h. record { base = s.let_in w low h.base; own = t.let_in w low h };
    let_down = λ w j p g h. record { base = s.let_down w j p g h.base; own = t.let_down w j p g h };
    finished = λ w j x y g pre e h. record { base = s.finished w j x y g pre e h.base; own = t.finished w j x y g pre e h };
    sent_up = λ w j x g pre e q h. record { base = s.sent_up w j x g pre e q h.base; own = t.sent_up w j x g pre e q h };
    out = λ w j x g post h. record { base = s.out w j x g post h.base; own = t.out w j x g post h };
    moved = λ w j x g h. record { base = s.moved w j x g h.base; own = t.moved w j x g h };
    unseen = λ w j p g e h. record { base = s.unseen w j p g e h.base; own = t.unseen w j p g e h };
    shown = λ w j p u us g e h. record { base = s.shown w j p u us g e h.base; own = t.shown w j p u us g e h };
    go = λ w j p need g low h. record { base = s.go w j p need g low h.base; own = t.go w j p need g low h };
    sent = λ w low h. record { base = s.sent w low h.base; own = t.sent w low h };
    applied = λ w low free h. record { base = s.applied w low free h.base; own = t.applied w low free h };
    acked = λ w low h. record { base = s.acked w low h.base; own = t.acked w low h };
  }

  module _ (P R : State → Type 0) (weaker : (w : State) → P w → R w) (c : Leads P P R) where
    closed_ended : (w : State) (j : ℕ) (x : Pass) → slice_get w.passes j ≡ Some x
        → (x.pre ≡ true → a.pre (store_at w.stores x.version) x.number ≡ None → Q x.number) → P w → R (ended a (record w { passes = remove w.passes j }) x)
    closed_ended w j x g q h = elim (cases_Bool x.pre) [
      | inl t ↦ rw t (go (a.pre (store_at w.stores x.version) x.number) refl t)
      | inr t ↦ rw t (c.out w j x g t h)
    ]
      where
        go : (o : Option Verdict) → a.pre (store_at w.stores x.version) x.number ≡ o → x.pre ≡ true
            → R (came_in (record w { passes = remove w.passes j }) x.number o)
        go None e t = c.sent_up w j x g t e (q t e) h
        go (Some y) e t = c.finished w j x y g t e h

    -- a pass enters, behind all others, and may end at once
    pub closed_entered : (w : State) (x : Pass) → (x.left ≡ 0 → x.pre ≡ true → a.pre (store_at w.stores x.version) x.number ≡ None → Q x.number)
        → P (record w { passes = w.passes ++ x ∷ [] }) → R (entered a w x)
    closed_entered w x q h = elim (cases_Bool (eqb x.left 0)) [
      | inl t ↦ rw t (subst (λ l. R (ended a (record w { passes = l }) x)) (remove_push w.passes x)
          (closed_ended (record w { passes = w.passes ++ x ∷ [] }) (length w.passes) x (get_pushed w.passes x) (q (eqb-true x.left 0 t)) h))
      | inr t ↦ rw t (weaker (record w { passes = w.passes ++ x ∷ [] }) h)
    ]

    closed_staged : (w : State) (j : ℕ) (o : Option Pass) → slice_get w.passes j ≡ o
        → ((x : Pass) → x.left ≤ 1 → o ≡ Some x → x.pre ≡ true → a.pre (store_at w.stores x.version) x.number ≡ None → Q x.number) → P w → R (staged a w j o)
    closed_staged w j None g q h = weaker w h
    closed_staged w j (Some x) g q h = elim (cases_Bool (leb x.left 1)) [
      | inl t ↦ rw t (closed_ended w j x g (q x (leb-true x.left 1 t) refl) h)
      | inr t ↦ rw t (c.moved w j x g h)
    ]

    closed_ran : (w : State) (j p : ℕ) (us : List Update) → slice_get w.up j ≡ Some p → a.changes w.store p ≡ us → P w
        → R (ran a w (with_changes (a.after w.store p) us w) j p)
    closed_ran w j p [] g e h = c.unseen w j p g e h
    closed_ran w j p (u ∷ us) g e h = c.shown w j p u us g e h

    closed_served : (w : State) (j : ℕ) (o : Option ℕ) → slice_get w.up j ≡ o → P w → R (served a w j o)
    closed_served w j None g h = weaker w h
    closed_served w j (Some p) g h = closed_ran w j p (a.changes w.store p) g refl h

    closed_go : (w : State) (j : ℕ) (o : Option (ℕ × ℕ)) → slice_get w.held j ≡ o → may_go (visible w.batches w.acked) o ≡ true → P w → R (let_go w j o)
    closed_go w j None g t h = weaker w h
    closed_go w j (Some (p, need)) g t h = c.go w j p need g (leb-true need (visible w.batches w.acked) t) h

    closed_down : (w : State) (j : ℕ) (o : Option ℕ) → slice_get w.down j ≡ o → P w → R (came_down setup a w j o)
    closed_down w j None g h = weaker w h
    closed_down w j (Some p) g h = closed_entered (record w { down = remove w.down j }) (pass_of w false p setup.post_stages) (λ z t. cc) (c.let_down w j p g h)

    pub closed_happens : (w : State) (e : Event) → applies setup w e ≡ true → EndsWell setup a Q w e → P w → R (happens setup a w e)
    closed_happens w Admit t q h = closed_entered (record w { progress = w.progress ++ Entered w.events (seen w) ∷ [] }) (pass_of w true (length w.progress) setup.pre_stages) (λ z t. q z) (c.let_in w (ltb-true _ _ t) h)
    closed_happens w (Stage j) t q h = closed_staged w j (slice_get w.passes j) refl q h
    closed_happens w (Serve j) t q h = closed_served w j (slice_get w.up j) refl h
    closed_happens w Send t q h = c.sent w (ltb-true _ _ t) h
    closed_happens w Apply t q h =
        let both = and_parts (ltb w.done w.sent) (not (waits w.passes (slice_get (commands_in w.batches) w.done))) t in
        c.applied w (ltb-true _ _ both.0) (not-true (waits w.passes (slice_get (commands_in w.batches) w.done)) both.1) h
    closed_happens w Ack t q h = c.acked w (ltb-true _ _ t) h
    closed_happens w (Hold j) t q h = closed_go w j (slice_get w.held j) refl t h
    closed_happens w (Down j) t q h = closed_down w j (slice_get w.down j) refl h

    same_ends : (w : State) (e : Event) → EndsWell setup a Q w e → EndsWell setup a Q (tick w) e
    same_ends w Admit q = q
    same_ends w e q = q

    -- a whole step, where counting the event leads back to P
    pub leads_step : ((w : State) → R w → P (tick w)) → ((w : State) → P w → R (idled w)) → (w : State) (e : Event)
        → (applies setup w e ≡ true → EndsWell setup a Q w e) → R w → R (step setup a w e)
    leads_step ticked idle w e q h = elim (cases_Bool (applies setup w e)) [
      | inl t ↦ rw t (closed_happens (tick w) e (same_turn setup w e ∙ t) (same_ends w e (q t)) (ticked w h))
      | inr t ↦ rw t (idle (tick w) (ticked w h))
    ]

  -- counting the event, and an idle one, keep it too
  pub closed_step : (P : State → Type 0) → Closed P → ((w : State) → P w → P (tick w)) → ((w : State) → P w → P (idled w)) → (w : State) (e : Event)
      → (applies setup w e ≡ true → EndsWell setup a Q w e) → P w → P (step setup a w e)
  closed_step P c ticked idle = leads_step P P (λ w h. h) c ticked idle

-- so do events one after the other
module _ (setup : Setup) (a : Answers) (P R : State → Type 0) (weaker : (w : State) → P w → R w) (c : Leads setup a (λ n. ⊤) P P R)
    (ticked : (w : State) → R w → P (tick w)) (idle : (w : State) → P w → R (idled w)) where
  pub leads_steps : (w : State) (es : List Event) → R w → R (steps setup a w es)
  leads_steps w [] h = h
  leads_steps w (e ∷ es) h =
      leads_steps (step setup a w e) es (leads_step setup a (λ n. ⊤) P R weaker c ticked idle w e (λ t. ends_any setup a w e) h)
