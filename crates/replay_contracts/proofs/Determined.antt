-- The journal determines the calls.
use Rattle.std.proofs.Common.{◌≡◌, ℕ, true, false, List, [], ◌∷◌, refl, sym, ◌∙◌, ap}
use Rattle.std.specs.Prelude.{⊤, Result, Ok, Err}
use Rattle.std.specs.List.{AllByRecursion as Each}
use Rattle.writeback_table.specs.declared.command.Command.TheVariants.{On}
use Rattle.switch_ir.specs.declared.journal.Entry.{Entry}
use Rattle.switch_ir.specs.declared.journal.Entry.TheVariants as entry
use Rattle.switch_ir.specs.declared.port.UpEnd.{UpEnd}
use Rattle.switch_ir.specs.declared.port.DownEnd.{DownEnd}
use Rattle.switch_ir.specs.declared.port.PortError.{PortError}
use Rattle.replay_state.specs.Program.{SplitProgram}
use Rattle.replay_state.specs.Journal.{Call, CalledUp, CalledStageUp, CalledCommand, CalledDown, CalledStageDown, UpAnswer, GoingUp, DownAnswer, GoingDown}
use Rattle.replay_state.specs.Journal.{DownFramesAre, IsNumbered}
use Rattle.split_answers.specs.Through.{answer_of, down_answer_of, down_end_of, end_of}
use Rattle.replay_contracts.specs.Called.{entry_of, journal_of}

-- ---- the call of an entry; of one that is none of a replay, any

abbrev answer_in : Result UpEnd PortError → UpAnswer
answer_in (Ok end) = answer_of end
answer_in (Err error) = GoingUp

abbrev down_answer_in : Result DownEnd PortError → DownAnswer
down_answer_in (Ok end) = down_answer_of end
down_answer_in (Err error) = GoingDown

abbrev call_of : (List ℕ → ℕ) → Entry → Call
call_of number (entry.Up n port packet answer) = CalledUp false n (record { port = port; bytes = packet }) (answer_in answer)
call_of number (entry.Down frame answer) = CalledDown false (number frame) frame (down_answer_in answer)
call_of number (entry.BeginUp n port packet answer) = CalledUp true n (record { port = port; bytes = packet }) (answer_in answer)
call_of number (entry.StageUp n answer) = CalledStageUp n (answer_in answer)
call_of number (entry.BeginDown frame answer) = CalledDown true (number frame) frame (down_answer_in answer)
call_of number (entry.StageDown n answer) = CalledStageDown n (down_answer_in answer)
call_of number (entry.Command c end) = CalledCommand c
call_of number entry = CalledCommand On

up_back : (answer : UpAnswer) → answer_of (end_of answer) ≡ answer
up_back GoingUp = refl
up_back answer = refl

down_back : (answer : DownAnswer) → down_answer_of (down_end_of answer) ≡ answer
down_back GoingDown = refl
down_back answer = refl

pub same_head : {X : Type 0} (x y : X) (xs ys : List X) → ◌≡◌ {A = List X} (x ∷ xs) (y ∷ ys) → (x ≡ y) × (xs ≡ ys)
same_head x y xs ys e = (cc, cc)

module _ (s : SplitProgram) where
  -- frames that come down have the numbers of their packets
  abbrev pub Numbered : Call → Type 0
  Numbered (CalledDown fine n frame answer) = IsNumbered s n frame
  Numbered call = ⊤

  pub numbered_each : (calls : List Call) → DownFramesAre (IsNumbered s) calls → Each Numbered calls
  numbered_each [] h = tt
  numbered_each (CalledDown fine n frame answer ∷ calls) h = (h.0, numbered_each calls h.1)
  numbered_each (call ∷ calls) h = (tt, numbered_each calls h)

  back : (call : Call) → Numbered call → call_of s.number_of (entry_of call) ≡ call
  back (CalledUp false n packet answer) h = ap (λ a. CalledUp false n packet a) (up_back answer)
  back (CalledUp true n packet answer) h = ap (λ a. CalledUp true n packet a) (up_back answer)
  back (CalledStageUp n answer) h = ap (λ a. CalledStageUp n a) (up_back answer)
  back (CalledCommand c) h = refl
  back (CalledDown false n frame answer) h = λ i. CalledDown false (h i) frame (down_back answer i)
  back (CalledDown true n frame answer) h = λ i. CalledDown true (h i) frame (down_back answer i)
  back (CalledStageDown n answer) h = ap (λ a. CalledStageDown n a) (down_back answer)

  -- lists of calls with the same journal
  pub same_calls : (cs ds : List Call) → Each Numbered cs → Each Numbered ds → journal_of cs ≡ journal_of ds → cs ≡ ds
  same_calls [] [] one two e = refl
  same_calls (c ∷ cs) (d ∷ ds) one two e =
      let both = same_head (entry_of c) (entry_of d) (journal_of cs) (journal_of ds) e in
      let heads = sym (back c one.0) ∙ ap (call_of s.number_of) both.0 ∙ back d two.0 in
      let tails = same_calls cs ds one.1 two.1 both.1 in
      λ i. heads i ∷ tails i
  same_calls cs ds one two e = cc
