-- Every state has what the lists, the packets and the counts say, whatever the answers.
use Rattle.std.proofs.Common.{ℕ, ◌+◌, ◌≤◌, List, [], ◌∷◌, ◌++◌, refl, arith, length, set}
use Rattle.std.specs.Prelude.{⊤, slice_get}
use Rattle.std.proofs.lemmas.Option.{none-some}
use Rattle.std.proofs.lemmas.List.{length_push, length-set}
use Rattle.state_store.specs.Store.{Store, start_store}
use Rattle.run_model.specs.declared.event.Event.{Event}
use Rattle.replay_state.specs.Answers.{Answers, Setup}
use Rattle.output_commit.specs.Batches.{Batch}
use Rattle.replay_state.specs.State.{State, Progress, Entered, seen, first_state}
use Rattle.replay_state.specs.Step.{idled, state_of, step, steps, tick}
use Rattle.replay_state.specs.Step.{finished, went_up, released, decided}
use Rattle.output_commit.proofs.VisibleVersions.{visible_front}
use Rattle.replay_state.proofs.Effects.{Consistent, consistent_tick, consistent_idled, consistent_sent, consistent_applied, consistent_acked, consistent_moved, consistent_let_in, consistent_finished, consistent_sent_up, consistent_came_down, consistent_let_go, consistent_let_down, consistent_run}
use Rattle.replay_state.proofs.Walk.{Closed, closed_step, ends_any, leads_steps}
use Rattle.replay_state.proofs.Steps.{counts_seen}

pub record EveryState (setup : Setup) (w : State) : Type 0 where
  pub consistent : Consistent w
  pub few : length w.progress ≤ setup.total

module _ (setup : Setup) (a : Answers) where
  -- no more packets than there were
  same_few : (w : State) (n : ℕ) (p : Progress) → EveryState setup w → length (set w.progress n p) ≤ setup.total
  same_few w n p h = let l = length-set w.progress n p in let k = h.few in omega arith

  pub every_closed : Closed setup a (λ n. ⊤) (EveryState setup)
  every_closed = record {
    let_in = λ w low h. record { consistent = consistent_let_in w setup.pre_stages h.consistent; few = let l = length_push w.progress (Entered w.events (seen w)) in omega arith };
    let_down = λ w j p g h. record { consistent = consistent_let_down w j p setup.post_stages g h.consistent; few = h.few };
    finished = λ w j x y g t e h. record { consistent = consistent_finished w j x y g t h.consistent; few = same_few w x.number (finished w.events y (slice_get w.progress x.number)) h };
    sent_up = λ w j x g t e q h. record { consistent = consistent_sent_up w j x g t h.consistent; few = same_few w x.number (went_up (slice_get w.progress x.number)) h };
    out = λ w j x g t h. record { consistent = consistent_came_down a w j x g t h.consistent; few = same_few w x.number (released (λ over. a.post over x.number) w.events (slice_get w.progress x.number)) h };
    moved = λ w j x g h. record { consistent = consistent_moved w j x g h.consistent; few = h.few };
    unseen = λ w j p g e h. record {
      consistent = consistent_run a w j p w.version w.stores w.batches g (omega arith) (λ n l. refl) h.consistent.counts h.consistent;
      few = same_few w p (decided w.events w.version w.store (slice_get w.progress p)) h;
    };
    shown = λ w j p u us g e h.
        let b : Batch = record { updates = u ∷ us; versions = 1 } in
        record {
          consistent = consistent_run a w j p (w.version + 1) (w.stores ++ a.after w.store p ∷ []) (w.batches ++ b ∷ []) g (omega arith) (λ n l. visible_front w.batches (b ∷ []) n l) (counts_seen a w j p b refl h.consistent.counts) h.consistent;
          few = same_few w p (decided w.events (w.version + 1) w.store (slice_get w.progress p)) h;
        };
    go = λ w j p need g low h. record { consistent = consistent_let_go w j p need g low h.consistent; few = h.few };
    sent = λ w low h. record { consistent = consistent_sent w setup.fits low h.consistent; few = h.few };
    applied = λ w low free h. record { consistent = consistent_applied w low h.consistent; few = h.few };
    acked = λ w low h. record { consistent = consistent_acked w low h.consistent; few = h.few };
  }

  pub every_tick : (w : State) → EveryState setup w → EveryState setup (tick w)
  every_tick w h = record { consistent = consistent_tick w h.consistent; few = h.few }

  pub every_idle : (w : State) → EveryState setup w → EveryState setup (idled w)
  every_idle w h = record { consistent = consistent_idled w h.consistent; few = h.few }

  pub every_step : (w : State) (e : Event) → EveryState setup w → EveryState setup (step setup a w e)
  every_step w e h =
      closed_step setup a (λ n. ⊤) (EveryState setup) every_closed every_tick every_idle w e (λ t. ends_any setup a w e) h

  pub every_steps : (w : State) (es : List Event) → EveryState setup w → EveryState setup (steps setup a w es)
  every_steps = leads_steps setup a (EveryState setup) (EveryState setup) (λ w h. h) every_closed every_tick every_idle

  pub every_first : (start : Store) → EveryState setup (first_state start)
  every_first start = record {
    consistent = record {
      counts = record { versions = refl; all = refl; sent_in = omega arith; done_in = omega arith; acked_in = omega arith };
      places = record { firsts = λ p. refl; ups = λ p. refl; helds = λ p. refl };
      needs = record { firsts = λ x b v m. absurd m; helds = λ p n b d v y m. absurd m; downs = λ p b d v y m. absurd m; lasts = λ x b d v y m. absurd m };
      each = λ p f g. absurd (none-some _ g);
      pairs = λ p q f g i k. absurd (none-some _ i);
    };
    few = omega arith;
  }

  pub every_of : (es : List Event) → EveryState setup (state_of setup a es)
  every_of es = every_steps (first_state (start_store setup.objects)) es (every_first (start_store setup.objects))
