-- What the answers say that ended passes before the server.
use Rattle.std.proofs.Common.{◌≡◌, ℕ, eqb, List, [], ◌∷◌, ◌⊎◌, Option, Some, None, inl, inr, refl, ◌∙◌, ap, subst, arith}
use Rattle.std.specs.Prelude.{is_some, ⊤}
use Rattle.std.proofs.lemmas.Bool.{cases_Bool, eqb-true}
use Rattle.replay_state.specs.Journal.{UpAnswer, SentUp, GoingUp, Call, CalledUp, CalledStageUp}
use Rattle.replay_state.specs.Journal.{one_if, up_ends, down_ends, or_else, only_for, up_end, ends_up, ends_down, up_answer, down_answer, verdict_in}
use Rattle.replay_state.specs.Journal.{GoesUpSo, FramesAre, HasGoneUp}

-- ---- what an answer that ended a pass says

module _ (P : ℕ → List ℕ → Type 0) where
  -- the answer that ended the pass of packet n
  abbrev pub Ended : ℕ → Option UpAnswer → Type 0
  Ended n (Some (SentUp frame)) = P n frame
  Ended n (Some GoingUp) = ⊥
  Ended n u = ⊤

  ended_or : (n : ℕ) (a b : Option UpAnswer) → Ended n a → Ended n b → Ended n (or_else a b)
  ended_or n None b h k = k
  ended_or n (Some x) b h k = h

  ended_only : (m n : ℕ) (answer : UpAnswer) → GoesUpSo P m answer → Ended n (only_for m n (up_end answer))
  ended_only m n answer h = elim (cases_Bool (eqb m n)) [
    | inl t ↦ rw t (subst (λ k. Ended k (up_end answer)) (eqb-true m n t) (go answer h))
    | inr t ↦ rw t tt
  ]
    where
      go : (answer : UpAnswer) → GoesUpSo P m answer → Ended m (up_end answer)
      go (SentUp frame) h = h
      go answer h = tt

  pub ended_so : (calls : List Call) (n : ℕ) → FramesAre P calls → Ended n (up_answer calls n)
  ended_so [] n h = tt
  ended_so (CalledUp fine m packet answer ∷ calls) n h = ended_or n (only_for m n (up_end answer)) (up_answer calls n) (ended_only m n answer h.0) (ended_so calls n h.1)
  ended_so (CalledStageUp m answer ∷ calls) n h = ended_or n (only_for m n (up_end answer)) (up_answer calls n) (ended_only m n answer h.0) (ended_so calls n h.1)
  ended_so (call ∷ calls) n h = ended_so calls n h

any_up : (n : ℕ) (answer : UpAnswer) → GoesUpSo (λ n frame. ⊤) n answer
any_up n (SentUp frame) = tt
any_up n answer = tt

all_frames : (calls : List Call) → FramesAre (λ n frame. ⊤) calls
all_frames [] = tt
all_frames (CalledUp fine n packet answer ∷ calls) = (any_up n answer, all_frames calls)
all_frames (CalledStageUp n answer ∷ calls) = (any_up n answer, all_frames calls)
all_frames (call ∷ calls) = all_frames calls

frame_of : (n : ℕ) (o : Option UpAnswer) → Ended (λ n frame. ⊤) n o → ((x : UpAnswer) × (o ≡ Some x)) → verdict_in o ≡ None → (frame : List ℕ) × (o ≡ Some (SentUp frame))
frame_of n (Some (SentUp frame)) h known none = (frame, refl)
frame_of n (Some GoingUp) h known none = absurd h
frame_of n o h known none = cc

-- an answer that ended a pass without a verdict sent a frame up
pub sent_up : (calls : List Call) (n : ℕ) → ((x : UpAnswer) × (up_answer calls n ≡ Some x)) → verdict_in (up_answer calls n) ≡ None → HasGoneUp calls n
sent_up calls n = frame_of n (up_answer calls n) (ended_so (λ n frame. ⊤) calls n (all_frames calls))

pub or_found : {X : Type 0} (a b : Option X) (x : X) → or_else a b ≡ Some x → (a ≡ Some x) ⊎ (b ≡ Some x)
or_found None b x h = inr h
or_found (Some y) b x h = inl h

none_where : {X : Type 0} (o : Option X) → one_if (is_some o) ≡ 0 → o ≡ None
none_where None h = refl
none_where (Some x) h = absurd (omega arith)

-- calls that end no pass of a packet answer nothing of it
pub none_up : (calls : List Call) (n : ℕ) → up_ends n calls ≡ 0 → up_answer calls n ≡ None
none_up [] n h = refl
none_up (call ∷ calls) n h = ap (λ o. or_else o (up_answer calls n)) (none_where (ends_up n call) (omega arith)) ∙ none_up calls n (omega arith)

pub none_down : (calls : List Call) (n : ℕ) → down_ends n calls ≡ 0 → down_answer calls n ≡ None
none_down [] n h = refl
none_down (call ∷ calls) n h = ap (λ o. or_else o (down_answer calls n)) (none_where (ends_down n call) (omega arith)) ∙ none_down calls n (omega arith)
