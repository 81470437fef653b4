-- Every step keeps the whole invariant.
use Rattle.std.proofs.Common.{◌≡◌, ℕ, ◌+◌, List, [], ◌∷◌, ◌++◌, Some, refl, sym, ap, subst, arith, set}
use Rattle.std.specs.Prelude.{⊤, slice_get}
use Rattle.std.proofs.lemmas.Option.{none-some}
use Rattle.packet_fields.specs.declared.verdict.Verdict.{Verdict}
use Rattle.state_store.specs.Store.{Store, start_store}
use Rattle.run_model.specs.declared.event.Event.{Event}
use Rattle.replay_state.specs.Answers.{Answers, Setup}
use Rattle.replay_state.specs.SoundAnswers.{AreSound}
use Rattle.replay_state.specs.State.{State, Progress, Entered, Up, Held, Slow, seen, first_state}
use Rattle.replay_state.specs.Step.{released, state_of, tick, went_up}
use Rattle.replay_state.proofs.Words.{entry_of, verdict_at}
use Rattle.replay_state.proofs.Lists.{kept_push, kept_set}
use Rattle.replay_state.proofs.Fates.{at_first, at_last}
use Rattle.replay_state.proofs.Runs.{Fresh, InOrder, Ordered, in_order_fast, in_order_seen, in_order_unseen, order_stays}
use Rattle.replay_state.proofs.EveryState.{EveryState, every_closed, every_first, every_idle, every_tick}
use Rattle.replay_state.proofs.Walk.{Both, Leads, beside, leads_steps}

-- what every state of a run has, with the order of its packets
abbrev pub Kept : Setup → Answers → State → Type 0
Kept setup a = Both (EveryState setup) (InOrder setup a (start_store setup.objects))

-- the order, while nothing was decided at this event
pub record Undecided (setup : Setup) (a : Answers) (start : Store) (w : State) : Type 0 where
  pub order : InOrder setup a start w
  pub fresh : Fresh w order.entries

module _ (setup : Setup) (a : Answers) (law : AreSound setup a) where
  abbrev start : Store
  start = start_store setup.objects

  -- a packet changed, and neither its entry nor its verdict
  order_changed : (w : State) (n : ℕ) (old new : Progress) → slice_get w.progress n ≡ Some old → ((m : ℕ) → entry_of m (Some new) ≡ entry_of m (Some old))
      → ((m : ℕ) → n ≡ m → verdict_at a m (Some new) ≡ verdict_at a m (Some old)) → InOrder setup a start w
      → Ordered setup a start w.store w.version w.stores w.events (set w.progress n new)
  order_changed w n old new there entry verdict =
      order_stays setup a start law law.start w.store w.version w.stores w.events w.events w.progress (set w.progress n new) (omega arith)
      (λ m. kept_set (entry_of m) w.progress n old new there m (λ e. entry m)) (λ m. kept_set (verdict_at a m) w.progress n old new there m (λ e. verdict m (sym e)))

  orders : Leads setup a (λ n. ⊤) (Both (EveryState setup) (Undecided setup a start)) (Undecided setup a start) (InOrder setup a start)
  unfolding order_stays
  orders = record {
    let_in = λ w low r.
        let f : Progress = Entered w.events (seen w) in
        record {
          order = order_stays setup a start law law.start w.store w.version w.stores w.events w.events w.progress (w.progress ++ f ∷ []) (omega arith)
              (λ n. kept_push (entry_of n) w.progress f refl n) (λ n. kept_push (verdict_at a n) w.progress f refl n) r.own.order;
          fresh = r.own.fresh;
        };
    let_down = λ w j p g r. record { order = r.own.order; fresh = r.own.fresh };
    finished = λ w j x y g t e r. in_order_fast setup a start law law.start w j x y r.base.consistent r.base.few r.own.order r.own.fresh g t e;
    sent_up = λ w j x g t e q r.
        let fate = at_first w j x r.base.consistent.places g t in
        subst (Ordered setup a start w.store w.version w.stores w.events) (sym (ap (λ o. set w.progress x.number (went_up o)) fate.2))
        (order_changed w x.number (Entered fate.0 fate.1) (Up fate.0) fate.2 (λ m. refl) (λ m e. refl) r.own.order);
    out = λ w j x g t r.
        let fate = at_last w j x r.base.consistent.places g t in
        let post : Store → Verdict = λ over. a.post over x.number in
        subst (Ordered setup a start w.store w.version w.stores w.events) (sym (ap (λ o. set w.progress x.number (released post w.events o)) fate.4))
        (order_changed w x.number (Held fate.0 fate.1 fate.2 fate.3) (Slow fate.0 fate.1 fate.2 (post fate.3) w.events) fate.4
        (λ m. refl) (λ m e. ap (λ n. Some (a.post fate.3 n)) e) r.own.order);
    moved = λ w j x g r. r.own.order;
    unseen = λ w j p g none r. in_order_unseen setup a start law law.start w j p r.base.consistent r.base.few r.own.order r.own.fresh g none;
    shown = λ w j p u us g some r.
        in_order_seen setup a start law law.start w j p (w.batches ++ (record { updates = u ∷ us; versions = 1 }) ∷ []) r.base.consistent r.base.few r.own.order r.own.fresh g;
    go = λ w j p need g low r. r.own.order;
    sent = λ w low r. r.own.order;
    applied = λ w low free r. r.own.order;
    acked = λ w low r. r.own.order;
  }

  ticked : (w : State) → Kept setup a w → Both (EveryState setup) (Undecided setup a start) (tick w)
  unfolding order_stays
  ticked w k = record {
    base = every_tick setup a w k.base;
    own = record {
      order = order_stays setup a start law law.start w.store w.version w.stores w.events (w.events + 1) w.progress w.progress (omega arith) (λ n. refl)
          (λ n. refl) k.own;
      fresh = λ e m. let h = k.own.past e m in omega arith;
    };
  }

  kept_first : Kept setup a (first_state start)
  kept_first = record {
    base = every_first setup a start;
    own = record {
      entries = [];
      order = record { rising = tt; sound = λ e m. absurd m; complete = λ e h. absurd (none-some _ h) };
      store = refl;
      verdicts = refl;
      begun = λ v h. let none : v ≡ 0 = omega arith in rw none (λ o t. refl);
      kept = λ v h. let none : v ≡ 0 = omega arith in rw none law.start;
      here = λ e m. absurd m;
      past = λ e m. absurd m;
      apart = λ x y m. absurd m;
    };
  }

  pub kept_of : (es : List Event) → Kept setup a (state_of setup a es)
  kept_of es =
      let Before : State → Type 0 = Both (EveryState setup) (Undecided setup a start) in
      leads_steps setup a Before (Kept setup a) (λ w k. record { base = k.base; own = k.own.order })
      (beside setup a (λ n. ⊤) (EveryState setup) (Undecided setup a start) (Undecided setup a start) (InOrder setup a start) (every_closed setup a) orders)
      ticked (λ w k. record { base = every_idle setup a w k.base; own = k.own.order }) (first_state start) es kept_first
