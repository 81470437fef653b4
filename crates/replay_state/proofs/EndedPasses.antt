-- Questions that end passes, and the calls that answer them.
use Rattle.std.proofs.Common.{◌≡◌, ℕ, ◌+◌, ◌<◌, Bool, true, false, eqb, List, [], ◌∷◌, ◌++◌, Option, Some, None, inl, inr, refl, ◌∙◌, ap, arith, map}
use Rattle.std.specs.Prelude.{is_some}
use Rattle.std.proofs.lemmas.Bool.{cases_Bool}
use Rattle.packet_fields.specs.declared.verdict.Verdict.{Verdict}
use Rattle.run_model.specs.Members.{Member}
use Rattle.replay_state.specs.Journal.{UpAnswer, GoingUp, DownAnswer, Released, GoingDown, Call, CalledUp, CalledStageUp, CalledDown, CalledStageDown}
use Rattle.replay_state.specs.Journal.{or_else, only_for, up_end, down_end, ends_up, ends_down, up_answer, down_answer, is_up_end, is_down_end, question_of}
use Rattle.replay_state.specs.Journal.{Question, AsksUp, AsksStageUp, AsksDown, AsksStageDown, one_if, up_ends, down_ends}
use Rattle.replay_state.proofs.Lists.{is, is_self}

-- ---- a question that ends a pass

abbrev pub ending : Bool → ℕ → Option ℕ
ending true n = Some n
ending false n = None

abbrev pub up_of : Question → Option ℕ
up_of (AsksUp fine n packet ends) = ending ends n
up_of (AsksStageUp n ends) = ending ends n
up_of question = None

abbrev pub down_of : Question → Option ℕ
down_of (AsksDown fine n frame ends) = ending ends n
down_of (AsksStageDown n ends) = ending ends n
down_of question = None

abbrev pub mark : Option ℕ → ℕ → ℕ
mark None n = 0
mark (Some m) n = is m n

-- how many of the questions end such a pass of packet n
abbrev pub marks : (Question → Option ℕ) → ℕ → List Question → ℕ
marks of n [] = 0
marks of n (q ∷ qs) = mark (of q) n + marks of n qs

pub marks_append : (of : Question → Option ℕ) (n : ℕ) (qs more : List Question) → marks of n (qs ++ more) ≡ marks of n qs + marks of n more
marks_append of n [] more = omega arith
marks_append of n (q ∷ qs) more = let r = marks_append of n qs more in omega arith

only_counts : {X : Type 0} (m n : ℕ) (x : X) → one_if (is_some (only_for m n (Some x))) ≡ is m n
only_counts m n x = elim (cases_Bool (eqb m n)) [ inl t ↦ rw t refl | inr t ↦ rw t refl ]

none_counts : (X : Type 0) (m n : ℕ) → one_if (is_some (only_for {X = X} m n None)) ≡ 0
none_counts X m n = elim (cases_Bool (eqb m n)) [ inl t ↦ rw t refl | inr t ↦ rw t refl ]

up_counts : (m n : ℕ) (answer : UpAnswer) → one_if (is_some (only_for m n (up_end answer))) ≡ mark (ending (is_up_end answer) m) n
up_counts m n GoingUp = none_counts UpAnswer m n
up_counts m n answer = only_counts m n answer

down_counts : (m n : ℕ) (answer : DownAnswer) → one_if (is_some (only_for m n (down_end answer))) ≡ mark (ending (is_down_end answer) m) n
down_counts m n (Released y) = only_counts m n y
down_counts m n GoingDown = none_counts Verdict m n

call_ups : (call : Call) (n : ℕ) → one_if (is_some (ends_up n call)) ≡ mark (up_of (question_of call)) n
call_ups (CalledUp fine m packet answer) n = up_counts m n answer
call_ups (CalledStageUp m answer) n = up_counts m n answer
call_ups call n = refl

call_downs : (call : Call) (n : ℕ) → one_if (is_some (ends_down n call)) ≡ mark (down_of (question_of call)) n
call_downs (CalledDown fine m frame answer) n = down_counts m n answer
call_downs (CalledStageDown m answer) n = down_counts m n answer
call_downs call n = refl

pub calls_up : (calls : List Call) (n : ℕ) → up_ends n calls ≡ marks up_of n (map question_of calls)
calls_up [] n = refl
calls_up (call ∷ calls) n = let one = call_ups call n in let rest = calls_up calls n in omega arith

pub calls_down : (calls : List Call) (n : ℕ) → down_ends n calls ≡ marks down_of n (map question_of calls)
calls_down [] n = refl
calls_down (call ∷ calls) n = let one = call_downs call n in let rest = calls_down calls n in omega arith

-- ---- an answer that stands in the journal

abbrev pub KnownUp : List Call → ℕ → Type 0
KnownUp calls n = (x : UpAnswer) × (up_answer calls n ≡ Some x)

abbrev pub KnownDown : List Call → ℕ → Type 0
KnownDown calls n = (y : Verdict) × (down_answer calls n ≡ Some y)

member_marks : (of : Question → Option ℕ) (n : ℕ) (qs : List Question) (q : Question) → Member q qs → of q ≡ Some n → 0 < marks of n qs
member_marks of n [] q m h = absurd m
member_marks of n (x ∷ qs) q (inl e) h = let one : mark (of x) n ≡ 1 = ap (λ o. mark o n) (ap of e ∙ h) ∙ is_self n in omega arith
member_marks of n (x ∷ qs) q (inr m) h = let rest = member_marks of n qs q m h in omega arith

or_known : {X : Type 0} (a b : Option X) → (one_if (is_some a) ≡ 0 → (x : X) × (b ≡ Some x)) → (x : X) × (or_else a b ≡ Some x)
or_known None b later = later refl
or_known (Some x) b later = (x, refl)

ended_up : (calls : List Call) (n : ℕ) → 0 < up_ends n calls → KnownUp calls n
ended_up [] n some = absurd (omega arith)
ended_up (call ∷ calls) n some = or_known (ends_up n call) (up_answer calls n) (λ none. ended_up calls n (omega arith))

ended_down : (calls : List Call) (n : ℕ) → 0 < down_ends n calls → KnownDown calls n
ended_down [] n some = absurd (omega arith)
ended_down (call ∷ calls) n some = or_known (ends_down n call) (down_answer calls n) (λ none. ended_down calls n (omega arith))

pub known_up : (calls : List Call) (q : Question) (n : ℕ) → Member q (map question_of calls) → up_of q ≡ Some n → KnownUp calls n
known_up calls q n m h = let some = member_marks up_of n (map question_of calls) q m h in let all = calls_up calls n in ended_up calls n (omega arith)

pub known_down : (calls : List Call) (q : Question) (n : ℕ) → Member q (map question_of calls) → down_of q ≡ Some n → KnownDown calls n
known_down calls q n m h = let some = member_marks down_of n (map question_of calls) q m h in let all = calls_down calls n in ended_down calls n (omega arith)
