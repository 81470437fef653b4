-- What lookups see at each point of a run, and what the switch has at its end.
use Rattle.std.proofs.Common.{◌≡◌, ℕ, ◌+◌, ◌≤◌, ◌⊎◌, true, false, List, [], ◌∷◌, ◌++◌, Option, Some, inl, inr, refl, sym, ◌∙◌, ap, subst, arith, zero, suc, set, take, length}
use Rattle.std.specs.Prelude.{⊤, slice_get}
use Rattle.std.specs.FinMap as fin
use Rattle.std.proofs.lemmas.Option.{same_Some, none-some, slice_get_within}
use Rattle.std.proofs.lemmas.List.{take_all, length-map}
use Rattle.state_store.specs.Kept.{IsKept}
use Rattle.state_store.specs.Store.{Store, object_at, start_store}
use Rattle.writeback_table.specs.Pair.{first_pair}
use Rattle.writeback_table.specs.Commands.{ons, bit_through, pair_through}
use Rattle.writeback_table.specs.Batches.{object_after, changed_by, count_of, TakesAll, IsReady}
use Rattle.replay_state.specs.Answers.{Answers, Setup}
use Rattle.output_commit.specs.Batches.{Batch, commands_in, visible}
use Rattle.replay_state.specs.State.{State, Progress, Entered, Held, seen, store_at, first_state}
use Rattle.run_model.specs.declared.event.Event.{Event}
use Rattle.replay_state.specs.Step.{decided, finished, idled, released, state_of, tick, went_up}
use Rattle.replay_state.specs.SoundAnswers.{AreSound, IsSoundAt}
use Rattle.replay_state.specs.Tables.{IsSeen, HasNewestTables}
use Rattle.replay_state.proofs.Fates.{at_first, at_last, at_up}
use Rattle.replay_state.proofs.EveryState.{EveryState, every_closed, every_tick, every_idle, every_first}
use Rattle.replay_state.proofs.Walk.{Both, Closed, Leads, beside, leads_steps}
use Rattle.replay_state.proofs.Serialised.{QuietParts}
use Rattle.replay_state.proofs.Steady.{all_bit}
use Rattle.replay_state.proofs.History.{Begun, updates_in, versions_first, begun_merged, begun_push, begun_now, begun_taken, begun_end, begun_at, ons_most}
use Rattle.replay_state.proofs.Visible.{visible_counts}
use Rattle.lemmas.proofs.Lists.{get_before_pushed}
use Rattle.writeback_table.proofs.Laws.{batches_are_seen_in_order}

-- the store that runs start with
abbrev pub begin : Setup → Store
begin setup = start_store setup.objects

abbrev pub History : Setup → List Store → Store → List Batch → Type 0
History setup stores now batches =
    (o : ℕ) → setup.replicated o ≡ true → Begun o setup.writeback stores now 0 (object_at (begin setup) o) batches

-- the stores over which held packets were run keep what was declared
abbrev pub OverAll : Setup → List Progress → Type 0
OverAll setup fates = (n e d v : ℕ) (over : Store) → slice_get fates n ≡ Some (Held e d v over) → IsKept setup.objects over

pub record Stores (setup : Setup) (now : Store) (stores : List Store) (batches : List Batch) (fates : List Progress) : Type 0 where
  pub kept : IsKept setup.objects now
  pub over : OverAll setup fates
  pub history : History setup stores now batches

-- what every state of a run has of the server's stores
abbrev pub Stored : Setup → State → Type 0
Stored setup = Both (EveryState setup) (λ w. Stores setup w.store w.stores w.batches w.progress)

-- ---- held packets

set_any : {X : Type 0} (xs : List X) (k p : ℕ) (y z : X) → slice_get (set xs k y) p ≡ Some z → (y ≡ z) ⊎ (slice_get xs p ≡ Some z)
set_any [] k p y z h = inr h
set_any (x ∷ xs) zero zero y z h = inl (same_Some _ _ h)
set_any (x ∷ xs) zero (suc p) y z h = inr h
set_any (x ∷ xs) (suc k) zero y z h = inr h
set_any (x ∷ xs) (suc k) (suc p) y z h = set_any xs k p y z h

over_set : (setup : Setup) (fates : List Progress) (n : ℕ) (p : Progress) → ((e d v : ℕ) (over : Store) → p ≡ Held e d v over → IsKept setup.objects over)
    → OverAll setup fates
    → OverAll setup (set fates n p)
over_set setup fates n p here h m e d v over g = elim (set_any fates n m p (Held e d v over) g) [
  | inl new ↦ here e d v over new
  | inr old ↦ h m e d v over old
]

over_push : (setup : Setup) (fates : List Progress) (e d : ℕ) → OverAll setup fates → OverAll setup (fates ++ Entered e d ∷ [])
over_push setup fates e d h m e' d' v over g = elim (get_before_pushed fates (Entered e d) (Held e' d' v over) m g) [
  | inl new ↦ cc (new.1)
  | inr old ↦ h m e' d' v over old
]

-- a packet that changes to no held one, by what it was
over_ended : (setup : Setup) (fates : List Progress) (n : ℕ) (old : Progress) (f : Option Progress → Progress) → slice_get fates n ≡ Some old
    → ((e d v : ℕ) (over : Store) → f (Some old) ≡ Held e d v over → ⊥) → OverAll setup fates → OverAll setup (set fates n (f (slice_get fates n)))
over_ended setup fates n old f there apart =
    over_set setup fates n (f (slice_get fates n)) (λ e d v over k. absurd (apart e d v over (sym (ap f there) ∙ k)))

module _ (setup : Setup) (a : Answers) (law : AreSound setup a) where
  sound_at : (w : State) (j p : ℕ) → slice_get w.up j ≡ Some p → Stored setup w → IsSoundAt setup a w.store p
  sound_at w j p g h =
      let fate = at_up w j p h.base.consistent.places g in
      let within = slice_get_within w.progress p _ fate.1 in
      let few = h.base.few in
      law.each p w.store (omega arith) h.own.kept

  over_run : (w : State) (j p v : ℕ) → slice_get w.up j ≡ Some p → Stored setup w
      → OverAll setup (set w.progress p (decided w.events v w.store (slice_get w.progress p)))
  over_run w j p v g h =
      let fate = at_up w j p h.base.consistent.places g in
      over_set setup w.progress p (decided w.events v w.store (slice_get w.progress p))
      (λ e d u over k. subst (IsKept setup.objects) (held_store fate.0 w.events v e d u w.store over (sym (ap (decided w.events v w.store) fate.1)
      ∙ k)) h.own.kept) h.own.over
    where
      held_store : (b c v e d u : ℕ) (s over : Store) → Held b c v s ≡ Held e d u over → s ≡ over
      held_store b c v e d u s over h = cc

  stores_kept : Leads setup a (λ n. ⊤) (Stored setup) (λ w. Stores setup w.store w.stores w.batches w.progress)
      (λ w. Stores setup w.store w.stores w.batches w.progress)
  stores_kept = record {
    let_in = λ w low h. record { kept = h.own.kept; over = over_push setup w.progress w.events (seen w) h.own.over; history = h.own.history };
    let_down = λ w j p g h. h.own;
    finished = λ w j x y g t e h.
        let fate = at_first w j x h.base.consistent.places g t in
        let over = over_ended setup w.progress x.number (Entered fate.0 fate.1) (finished w.events y) fate.2 (λ e' d v over k. cc) h.own.over in
        record { kept = h.own.kept; over = over; history = h.own.history };
    sent_up = λ w j x g t e q h.
        let fate = at_first w j x h.base.consistent.places g t in
        let over = over_ended setup w.progress x.number (Entered fate.0 fate.1) went_up fate.2 (λ e' d v over k. cc) h.own.over in
        record { kept = h.own.kept; over = over; history = h.own.history };
    out = λ w j x g t h.
        let fate = at_last w j x h.base.consistent.places g t in
        let old : Progress = Held fate.0 fate.1 fate.2 fate.3 in
        let over = over_ended setup w.progress x.number old (released (λ over. a.post over x.number) w.events) fate.4 (λ e' d v over k. cc) h.own.over in
        record { kept = h.own.kept; over = over; history = h.own.history };
    moved = λ w j x g h. h.own;
    unseen = λ w j p g none h.
        let r = sound_at w j p g h in
        record {
          kept = r.kept;
          over = over_run w j p w.version g h;
          history = λ o rep. begun_now o setup.writeback w.stores w.store (a.after w.store p) (r.changed o rep ∙ ap (changed_by o (object_at w.store o)) none)
              0 (object_at (begin setup) o) w.batches (h.own.history o rep);
        };
    shown = λ w j p u us g same h.
        let r = sound_at w j p g h in
        let b : Batch = record { updates = u ∷ us; versions = 1 } in
        record {
          kept = r.kept;
          over = over_run w j p (w.version + 1) g h;
          history = λ o rep.
              let v = h.base.consistent.counts.versions in
              let l = h.base.consistent.counts.all in
              begun_push o setup.writeback w.stores w.store (a.after w.store p) b refl
              (subst (λ z. count_of o z ≤ setup.writeback) same (r.room o rep))
              (subst (λ z. TakesAll o (object_at w.store o) z) same (r.taken o rep))
              (r.changed o rep ∙ ap (changed_by o (object_at w.store o)) same)
              0 (object_at (begin setup) o) w.batches (omega arith) (h.own.history o rep);
        };
    go = λ w j p need g low h. h.own;
    sent = λ w low h. record {
      kept = h.own.kept;
      over = h.own.over;
      history = λ o rep. begun_merged o setup.writeback w.stores w.store setup.fits (λ us f. law.fits us o f rep) w.sent 0
          (object_at (begin setup) o) w.batches (h.own.history o rep);
    };
    applied = λ w low free h. h.own;
    acked = λ w low h. h.own;
  }

  pub stored_closed : Closed setup a (λ n. ⊤) (Stored setup)
  stored_closed =
      let Own : State → Type 0 = λ w. Stores setup w.store w.stores w.batches w.progress in
      beside setup a (λ n. ⊤) (EveryState setup) Own Own Own (every_closed setup a) stores_kept

  pub stored_tick : (w : State) → Stored setup w → Stored setup (tick w)
  stored_tick w h = record { base = every_tick setup a w h.base; own = h.own }

  pub stored_idle : (w : State) → Stored setup w → Stored setup (idled w)
  stored_idle w h = record { base = every_idle setup a w h.base; own = h.own }

  pub stored_first : Stored setup (first_state (begin setup))
  stored_first = record {
    base = every_first setup a (begin setup);
    own = record { kept = law.start; over = λ n e d v over g. absurd (none-some _ g); history = λ o rep. (refl, refl) };
  }

  pub stored_of : (es : List Event) → Stored setup (state_of setup a es)
  stored_of es = leads_steps setup a (Stored setup) (Stored setup) (λ w h. h) stored_closed stored_tick stored_idle (first_state (begin setup)) es stored_first

-- ---- lookups see the visible version

pub ready_from : (setup : Setup) (w : State) → History setup w.stores w.store w.batches → (o : ℕ) → setup.replicated o ≡ true
    → IsReady o (first_pair setup.objects setup.writeback o) (updates_in w.batches)
ready_from setup w h o rep = record { empty = refl; taken = begun_taken o setup.writeback w.stores w.store 0 (object_at (begin setup) o) w.batches (h o rep) }

pub seen_from : (setup : Setup) (w : State) → History setup w.stores w.store w.batches → IsSeen setup w
seen_from setup w h = record {
  shows = λ o rep.
      let kept = batches_are_seen_in_order o (first_pair setup.objects setup.writeback o) (updates_in w.batches) (ready_from setup w h o rep) in
      let k : ℕ = ons (take w.done (commands_in w.batches)) in
      let most = ons_most (commands_in w.batches) w.done in
      let all : ons (commands_in w.batches) ≡ length w.batches = kept.all ∙ length-map w.batches (λ b. b.updates) in
      let here = begun_at o setup.writeback w.stores w.store k 0 (object_at (begin setup) o) w.batches (omega arith) (h o rep) in
      let version : 0 + versions_first w.batches k ≡ visible w.batches w.done = let v = visible_counts w.batches w.done in omega arith in
      let begun : object_at (store_at w.stores (visible w.batches w.done)) o ≡ object_after o (object_at (begin setup) o) (take k (updates_in w.batches)) =
      ap (λ v. object_at (store_at w.stores v) o) (sym version) ∙ here in
      kept.seen w.done ∙ ap (λ x. x.contents) (sym begun);
  room = λ o command rep here.
      let kept = batches_are_seen_in_order o (first_pair setup.objects setup.writeback o) (updates_in w.batches) (ready_from setup w h o rep) in
      kept.room w.done command here;
}

-- ---- when nothing is on its way

pub newest_tables : (setup : Setup) (w : State) → Stored setup w → QuietParts w → HasNewestTables setup w
newest_tables setup w k q =
    let low = k.base.consistent.counts.acked_in in
    let h = k.own.history in
    let here = q.acked in
    let all : take w.done (commands_in w.batches) ≡ commands_in w.batches = take_all w.done (commands_in w.batches) (omega arith) in
    record {
      bit = ap (bit_through false) all ∙ all_bit (updates_in w.batches);
      each = λ o rep.
          let kept = batches_are_seen_in_order o (first_pair setup.objects setup.writeback o) (updates_in w.batches) (ready_from setup w h o rep) in
          ap (pair_through o (first_pair setup.objects setup.writeback o)) all ∙ kept.pair_ends
          ∙ ap (λ m. record { main = m; staged = fin.empty; room = setup.writeback }) (sym (begun_end o setup.writeback w.stores w.store 0 (object_at (begin setup) o) w.batches (h o rep)));
    }
