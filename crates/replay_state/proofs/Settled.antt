-- A packet that was finished stays so, and one that went up is never finished by the switch.
use Rattle.std.proofs.Common.{◌≡◌, ℕ, ◌+◌, ◌<◌, Bool, true, false, List, [], ◌∷◌, ◌++◌, ◌⊎◌, Option, Some, None, inl, inr, refl, sym, ◌∙◌, ap, subst, arith, length, set}
use Rattle.std.specs.Prelude.{⊤, slice_get, is_some}
use Rattle.std.proofs.lemmas.Bool.{cases_eq, ltb-true}
use Rattle.packet_fields.specs.declared.verdict.Verdict.{Verdict}
use Rattle.state_store.specs.Store.{Store}
use Rattle.replay_state.specs.Answers.{Answers, Setup}
use Rattle.replay_state.specs.State.{State, Pass, Progress, Entered, Up, Fast, seen, store_at}
use Rattle.run_model.specs.declared.event.Event.{Event}
use Rattle.run_model.specs.declared.event.Event.TheVariants.{Admit}
use Rattle.replay_state.specs.Step.{applies, step, steps, tick}
use Rattle.replay_state.specs.Step.{finished, went_up, decided, released, entered, pass_of}
use Rattle.run_model.proofs.Members.{get_member}
use Rattle.replay_state.proofs.Lists.{get_push_other}
use Rattle.std.specs.Option.{option_map}
use Rattle.std.proofs.lemmas.Option.{none-some, slice_get-map}
use Rattle.std.proofs.lemmas.List.{get_or_append_left, length_push}
use Rattle.state_store.specs.Store.{start_store}
use Rattle.run_model.specs.Serialises as run
use Rattle.replay_state.specs.State.{fate_of, first_state}
use Rattle.replay_state.specs.Step.{state_of}
use Rattle.replay_state.specs.Run.{job_run, seen_store}
use Rattle.replay_state.proofs.AtOnce.{fast_at_once, slow_at_once}
use Rattle.replay_state.proofs.Effects.{shown_le}
use Rattle.replay_state.proofs.EveryState.{EveryState, every_closed, every_idle, every_of, every_tick}
use Rattle.replay_state.proofs.Walk.{Both, Closed, Leads, beside, closed_entered, leads_steps}
use Rattle.replay_state.proofs.Steps.{let_in, steps_append}
use Rattle.lemmas.proofs.Lists.{get_past, get_pushed, get_set_other, get_set_same}
use Rattle.lemmas.proofs.Tests.{true_not_false}

-- the switch finished it
abbrev pub is_fast : Option Progress → Bool
is_fast o = run.is_fast (option_map fate_of o)

-- its preprocessing has ended
abbrev pub is_settled : Option Progress → Bool
is_settled None = false
is_settled (Some (Entered a v)) = false
is_settled (Some old) = true

abbrev pub Stays : Option Progress → Option Progress → Type 0
Stays o p = is_settled o ≡ true → (is_fast p ≡ is_fast o) × (is_settled p ≡ true)

set_stays : (xs : List Progress) (n : ℕ) (f : Option Progress → Progress) → ((old : Progress) → Stays (Some old) (Some (f (Some old)))) → (m : ℕ) → Stays (slice_get xs m) (slice_get (set xs n (f (slice_get xs n))) m)
set_stays xs n f h m = elim (cases_eq m n) [
  | inl e ↦ rw e (go (slice_get xs n) refl)
  | inr d ↦ subst (λ o. Stays (slice_get xs m) o) (sym (get_set_other xs n m (f (slice_get xs n)) d)) (λ s. (refl, s))
]
  where
    go : (o : Option Progress) → slice_get xs n ≡ o → Stays (slice_get xs n) (slice_get (set xs n (f (slice_get xs n))) n)
    go None g = λ s. let bad : false ≡ true = sym (ap is_settled g) ∙ s in cc
    go (Some old) g =
        let now : slice_get (set xs n (f (slice_get xs n))) n ≡ Some (f (Some old)) = get_set_same xs n old (f (slice_get xs n)) g ∙ ap (λ o. Some (f o)) g in
        subst (λ o. Stays o (slice_get (set xs n (f (slice_get xs n))) n)) (sym g) (subst (λ p. Stays (Some old) p) (sym now) (h old))

up_stays : (old : Progress) → Stays (Some old) (Some (went_up (Some old)))
up_stays (Entered a v) s = cc
up_stays old s = (refl, refl)

finished_stays : (event : ℕ) (verdict : Verdict) (old : Progress) → Stays (Some old) (Some (finished event verdict (Some old)))
finished_stays event verdict (Entered a v) s = cc
finished_stays event verdict old s = (refl, refl)

decided_stays : (event version : ℕ) (store : Store) (old : Progress) → Stays (Some old) (Some (decided event version store (Some old)))
decided_stays event version store (Entered a v) s = cc
decided_stays event version store old s = (refl, refl)

released_stays : (f : Store → Verdict) (event : ℕ) (old : Progress) → Stays (Some old) (Some (released f event (Some old)))
released_stays f event (Entered a v) s = cc
released_stays f event old s = (refl, refl)

-- ---- from its entry on

-- its preprocessing is under way, where it may be, or has ended so
abbrev pub Fated : Bool → ℕ → Bool → Option Progress → Type 0
Fated may v quick o = ((e : ℕ) × (o ≡ Some (Entered e v)) × (may ≡ true)) ⊎ ((is_settled o ≡ true) × (is_fast o ≡ quick))

-- an edit of one packet
fated_set : (xs : List Progress) (k n v : ℕ) (may quick : Bool) (f : Option Progress → Progress) → ((old : Progress) → Stays (Some old) (Some (f (Some old))))
    → (k ≡ n → (e : ℕ) → slice_get xs n ≡ Some (Entered e v) → may ≡ true → Fated may v quick (Some (f (Some (Entered e v)))))
    → Fated may v quick (slice_get xs n) → Fated may v quick (slice_get (set xs k (f (slice_get xs k))) n)
fated_set xs k n v may quick f stays enter (inr h) =
    let s = set_stays xs k f stays n h.0 in inr (s.1, s.0 ∙ h.1)
fated_set xs k n v may quick f stays enter (inl h) = elim (cases_eq n k) [
  | inl e ↦
      let there : slice_get xs k ≡ Some (Entered h.0 v) = subst (λ z. slice_get xs z ≡ Some (Entered h.0 v)) e h.1 in
      let now : slice_get (set xs k (f (slice_get xs k))) n ≡ Some (f (Some (Entered h.0 v))) =
      ap (slice_get (set xs k (f (slice_get xs k)))) e ∙ get_set_same xs k (Entered h.0 v) (f (slice_get xs k)) there ∙ ap (λ o. Some (f o)) there in
      subst (Fated may v quick) (sym now) (enter (sym e) h.0 h.1 h.2)
  | inr d ↦ inl (h.0, get_set_other xs k n (f (slice_get xs k)) d ∙ h.1, h.2)
]

module _ (setup : Setup) (a : Answers) (n v : ℕ) (first : Store) (may : Bool) where
  abbrev pub quick : Bool
  quick = is_some (a.pre first n)

  -- its version began with this store, and it entered over it or has ended so
  pub record Traced (stores : List Store) (fates : List Progress) : Type 0 where
    pub low : v < length stores
    pub same : store_at stores v ≡ first
    pub fate : Fated may v quick (slice_get fates n)

  abbrev pub IsTraced : State → Type 0
  IsTraced w = Traced w.stores w.progress

  -- the packet was there before, so one that comes in is another
  fated_there : (o : Option Progress) → Fated may v quick o → o ≡ None → ⊥
  fated_there None (inl h) is = absurd (none-some _ h.1)
  fated_there None (inr h) is = cc
  fated_there (Some p) h is = cc

  traced_push : (w : State) (p : Progress) → IsTraced w → Traced w.stores (w.progress ++ p ∷ [])
  traced_push w p t = record {
    low = t.low;
    same = t.same;
    fate = elim (cases_eq n (length w.progress)) [
      | inl e ↦ absurd (fated_there (slice_get w.progress n) t.fate (ap (slice_get w.progress) e ∙ get_past w.progress))
      | inr d ↦ subst (Fated may v quick) (sym (get_push_other w.progress p n d)) t.fate
    ];
  }

  traced_set : (w : State) (k : ℕ) (f : Option Progress → Progress) → ((old : Progress) → Stays (Some old) (Some (f (Some old))))
      → (k ≡ n → (e : ℕ) → slice_get w.progress n ≡ Some (Entered e v) → may ≡ true → Fated may v quick (Some (f (Some (Entered e v))))) → IsTraced w
      → Traced w.stores (set w.progress k (f (slice_get w.progress k)))
  traced_set w k f stays enter t = record { low = t.low; same = t.same; fate = fated_set w.progress k n v may quick f stays enter t.fate }

  -- what ended its pass is what is answered over that store
  says : (w : State) (j : ℕ) (x : Pass) (o : Option Verdict) → Both (EveryState setup) IsTraced w → slice_get w.passes j ≡ Some x → x.pre ≡ true
      → a.pre (store_at w.stores x.version) x.number ≡ o
      → x.number ≡ n → (e : ℕ) → slice_get w.progress n ≡ Some (Entered e v) → is_some o ≡ quick
  says w j x o h g pre answer is e here =
      let there = subst (λ z. slice_get w.progress z ≡ Some (Entered e v)) (sym is) here in
      let version = sym (h.base.consistent.needs.firsts x e v (get_member w.passes j x g) pre there) in
      ap is_some (sym answer ∙ ap (λ z. a.pre (store_at w.stores z) x.number) version ∙ ap (λ s. a.pre s x.number) h.own.same ∙ ap (a.pre first) is)

  traces : Leads setup a (λ k. ⊤) (Both (EveryState setup) IsTraced) IsTraced IsTraced
  traces = record {
    let_in = λ w low h. traced_push w (Entered w.events (seen w)) h.own;
    let_down = λ w j p g h. h.own;
    finished = λ w j x y g t e h. traced_set w x.number (finished w.events y) (finished_stays w.events y)
        (λ i k there m. inr (refl, says w j x (Some y) h g t e i k there)) h.own;
    sent_up = λ w j x g t e q h. traced_set w x.number went_up up_stays (λ i k there m. inr (refl, says w j x None h g t e i k there)) h.own;
    out = λ w j x g t h.
        let post : Store → Verdict = λ over. a.post over x.number in
        traced_set w x.number (released post w.events) (released_stays post w.events) (λ i e there m. inl (e, refl, m)) h.own;
    moved = λ w j x g h. h.own;
    unseen = λ w j m g e h.
        traced_set w m (decided w.events w.version w.store) (decided_stays w.events w.version w.store) (λ i k there still. inl (k, refl, still)) h.own;
    shown = λ w j m u us g e h.
        let now = traced_set w m (decided w.events (w.version + 1) w.store) (decided_stays w.events (w.version + 1) w.store)
        (λ i k there still. inl (k, refl, still)) h.own in
        record {
          low = let l = length_push w.stores (a.after w.store m) in let k = h.own.low in omega arith;
          same = get_or_append_left w.stores (a.after w.store m ∷ []) [] v h.own.low ∙ h.own.same;
          fate = now.fate;
        };
    go = λ w j p need g low h. h.own;
    sent = λ w low h. h.own;
    applied = λ w low free h. h.own;
    acked = λ w low h. h.own;
  }

  -- the same, in a state that is one of a run
  abbrev pub Followed : State → Type 0
  Followed = Both (EveryState setup) IsTraced

  followed_closed : Closed setup a (λ k. ⊤) Followed
  followed_closed = beside setup a (λ k. ⊤) (EveryState setup) IsTraced IsTraced IsTraced (every_closed setup a) traces

  pub followed_ended : (w : State) (x : Pass) → Followed (record w { passes = w.passes ++ x ∷ [] }) → Followed (entered a w x)
  followed_ended w x h = closed_entered setup a (λ k. ⊤) Followed Followed (λ w h. h) followed_closed w x (λ z t e. tt) h

  pub followed_steps : (w : State) (es : List Event) → Followed w → Followed (steps setup a w es)
  followed_steps =
      leads_steps setup a Followed Followed (λ w h. h) followed_closed (λ x k. record { base = every_tick setup a x k.base; own = k.own })
      (λ x k. record { base = every_idle setup a x k.base; own = k.own })

-- ---- what is told of it

settled_told : (o : Option Progress) → is_settled o ≡ true → run.is_passing (option_map fate_of o) ≡ false
settled_told (Some (Entered a v)) h = cc
settled_told o h = refl

fated_told : (may : Bool) (v : ℕ) (b : Bool) (o : Option Progress) → Fated may v b o → run.is_passing (option_map fate_of o) ≡ false → run.is_fast (option_map fate_of o) ≡ b
fated_told may v b o (inl h) k = absurd (true_not_false (sym (ap (λ z. run.is_passing (option_map fate_of z)) h.1) ∙ k))
fated_told may v b o (inr h) k = h.1

-- one that has ended is under way no more
only_settled : (v : ℕ) (b : Bool) (o : Option Progress) → is_settled o ≡ true → Fated true v b o → Fated false v b o
only_settled v b o s (inl h) = absurd (true_not_false (sym s ∙ ap is_settled h.1))
only_settled v b o s (inr h) = inr h

settled_if : (v : ℕ) (b : Bool) (o : Option Progress) → Fated false v b o → is_settled o ≡ true
settled_if v b o (inl h) = absurd (true_not_false (sym h.2))
settled_if v b o (inr h) = h.0

module _ (setup : Setup) (a : Answers) (events more : List Event) where
  abbrev now : State
  now = state_of setup a events

  abbrev last : Option Progress
  last = slice_get (state_of setup a (events ++ Admit ∷ more)).progress (length now.progress)

  last_is : last ≡ slice_get (steps setup a (step setup a now Admit) more).progress (length now.progress)
  last_is = ap (λ (w : State). slice_get w.progress (length now.progress)) (steps_append setup a (first_state (start_store setup.objects)) events (Admit ∷ more))

  fate_is : slice_get (job_run setup a (events ++ Admit ∷ more)).fates (length now.progress) ≡ option_map fate_of last
  fate_is = slice_get-map fate_of (state_of setup a (events ++ Admit ∷ more)).progress (length now.progress)

  entered_traced : applies setup now Admit ≡ true → Followed setup a (length now.progress) (seen now) (seen_store now) true (step setup a now Admit)
  entered_traced t =
      let n = length now.progress in
      let w = tick now in
      let p : Progress = Entered w.events (seen now) in
      let within = shown_le now now.done (every_of setup a events).consistent in
      let stores = (every_of setup a events).consistent.counts.all in
      let low = ltb-true (length now.progress) setup.total t in
      let start : Followed setup a n (seen now) (seen_store now) true (let_in w setup.pre_stages) = record {
        base = (every_closed setup a).let_in w low (every_tick setup a now (every_of setup a events));
        own = record { low = omega arith; same = refl; fate = inl (w.events, get_pushed now.progress p, refl) };
      } in
      rw t (followed_ended setup a n (seen now) (seen_store now) true (record w { progress = w.progress ++ p ∷ [] }) (pass_of w true n setup.pre_stages) start)

  pub fast_by_seen : applies setup now Admit ≡ true → run.is_passing (slice_get (job_run setup a (events ++ Admit ∷ more)).fates (length now.progress)) ≡ false
      → run.is_fast (slice_get (job_run setup a (events ++ Admit ∷ more)).fates (length now.progress)) ≡ is_some (a.pre (seen_store now) (length now.progress))
  fast_by_seen t passing =
      let quick = is_some (a.pre (seen_store now) (length now.progress)) in
      let traced = (followed_steps setup a (length now.progress) (seen now) (seen_store now) true (step setup a now Admit) more (entered_traced t)).own in
      let fate = subst (Fated true (seen now) quick) (sym last_is) traced.fate in
      ap run.is_fast fate_is ∙ fated_told true (seen now) quick last fate (sym (ap run.is_passing fate_is) ∙ passing)

  settled_once : setup.pre_stages ≡ 0 → applies setup now Admit ≡ true → (o : Option Verdict) → a.pre (seen_store now) (length now.progress) ≡ o → is_settled (slice_get (step setup a now Admit).progress (length now.progress)) ≡ true
  settled_once none t None h =
      ap (λ (w : State). is_settled (slice_get w.progress (length now.progress))) (slow_at_once setup a now none t h) ∙ ap is_settled (get_pushed now.progress (Up (now.events + 1)))
  settled_once none t (Some y) h =
      ap (λ (w : State). is_settled (slice_get w.progress (length now.progress))) (fast_at_once setup a now y none t h)
      ∙ ap is_settled (get_pushed now.progress (Fast (now.events + 1) (now.events + 1) (seen now) y))

  pub settled_at_once : setup.pre_stages ≡ 0 → applies setup now Admit ≡ true → run.is_passing (slice_get (job_run setup a (events ++ Admit ∷ more)).fates (length now.progress)) ≡ false
  settled_at_once none t =
      let n = length now.progress in
      let v = seen now in
      let quick = is_some (a.pre (seen_store now) n) in
      let once = settled_once none t (a.pre (seen_store now) n) refl in
      let h = entered_traced t in
      let start : Followed setup a n v (seen_store now) false (step setup a now Admit) = record {
        base = h.base;
        own = record { low = h.own.low; same = h.own.same; fate = only_settled v quick (slice_get (step setup a now Admit).progress n) once h.own.fate };
      } in
      let traced = (followed_steps setup a n v (seen_store now) false (step setup a now Admit) more start).own in
      ap run.is_passing fate_is ∙ settled_told last (settled_if v quick last (subst (Fated false v quick) (sym last_is) traced.fate))
