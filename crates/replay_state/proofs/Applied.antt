-- What happens changes neither count of events.
use Rattle.std.proofs.Common.{◌∙◌, ◌≡◌, ℕ, ◌+◌, true, refl}
use Rattle.std.specs.Prelude.{⊤}
use Rattle.run_model.specs.declared.event.Event.{Event}
use Rattle.replay_state.specs.Answers.{Answers, Setup}
use Rattle.replay_state.specs.State.{State}
use Rattle.replay_state.specs.Step.{applies, happens, tick}
use Rattle.replay_state.proofs.Walk.{Closed, closed_happens, ends_any, same_turn}

-- these counts
abbrev Counted : ℕ → ℕ → State → Type 0
Counted n i w = (w.events ≡ n) × (w.idle ≡ i)

module _ (setup : Setup) (a : Answers) where
  counted : (n i : ℕ) → Closed setup a (λ k. ⊤) (Counted n i)
  counted n i = record {
    let_in = λ w low h. h;
    let_down = λ w j p g h. h;
    finished = λ w j x y g t e h. h;
    sent_up = λ w j x g t e q h. h;
    out = λ w j x g t h. h;
    moved = λ w j x g h. h;
    unseen = λ w j p g e h. h;
    shown = λ w j p u us g e h. h;
    go = λ w j p need g low h. h;
    sent = λ w low h. h;
    applied = λ w low free h. h;
    acked = λ w low h. h;
  }

  pub counted_so : (w : State) (e : Event) → applies setup w e ≡ true → Counted (w.events + 1) w.idle (happens setup a (tick w) e)
  counted_so w e t =
      closed_happens setup a (λ k. ⊤) (Counted (w.events + 1) w.idle) (Counted (w.events + 1) w.idle) (λ x h. h) (counted (w.events + 1) w.idle) (tick w) e
      (same_turn setup w e ∙ t) (ends_any setup a (tick w) e) (refl, refl)
