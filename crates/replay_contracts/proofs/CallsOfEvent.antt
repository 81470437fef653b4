-- A replay goes on by the calls that an event asks.
use Rattle.std.proofs.Common.{◌≡◌, ◌≤◌, ℕ, false, true, length, arith, List, [], ◌∷◌, ◌++◌, Option, Some, None, inl, inr, refl, sym, ◌∙◌, ap, subst, map}
use Rattle.std.specs.Prelude.{slice_get}
use Rattle.std.specs.Option.{option_map}
use Rattle.std.specs.List.{AllByRecursion as Each}
use Rattle.std.proofs.lemmas.Bool.{cases_Bool}
use Rattle.std.proofs.lemmas.Option.{same_Some, none-some}
use Rattle.std.proofs.lemmas.List.{append-nil, append_assoc, length-map}
use Rattle.packet_fields.specs.declared.packet.Packet.{Packet}
use Rattle.writeback_table.specs.declared.command.Command.{Command}
use Rattle.run_model.specs.declared.event.Event.{Event}
use Rattle.run_model.specs.declared.event.Event.TheVariants.{Stage, Apply, Down}
use Rattle.switch_ir.specs.Code.{Code}
use Rattle.switch_ir.specs.Port.{PortState}
use Rattle.switch_ir.specs.Tables.{Told, told_after}
use Rattle.switch_ir.specs.declared.journal.Entry.TheVariants as entry
use Rattle.replay_state.specs.Answers.{Answers, Setup}
use Rattle.replay_state.specs.Commands.{applied_by, commands_at, one_or_none}
use Rattle.replay_state.specs.Journal.{Call, CalledUp, CalledCommand, CalledDown}
use Rattle.replay_state.specs.Journal.{Question, AsksCommand, asks, asked, asks_stage, asks_command, asks_down, question_of}
use Rattle.replay_state.specs.Program.{SplitProgram}
use Rattle.output_commit.specs.Batches.{commands_in}
use Rattle.replay_state.specs.declared.pass.Pass.{Pass}
use Rattle.replay_state.specs.State.{State, applied_commands}
use Rattle.replay_state.specs.Step.{applies, step}
use Rattle.replay_state.specs.Tied.{IsTied}
use Rattle.split_answers.specs.Over.{AreAnswersOver, IsAnswerOver, IsGiven}
use Rattle.split_answers.specs.Through.{IsThrough}
use Rattle.split_answers.specs.UnderWay.{KnowTheirOwn, SeeTheirOwn}
use Rattle.replay_contracts.specs.Called.{HasCalls, WasCalled, WasMade, command_in, commands_among, entry_of, journal_of, told_through}
use Rattle.split_answers.proofs.Laws.{a_told_command_goes_through}
use Rattle.replay_contracts.proofs.Calls.{called_leave}
use Rattle.replay_contracts.specs.Inputs.{Inputs, setup_for, whole, code_for}
use Rattle.replay_contracts.specs.Replay.{IsReplay, IsTold, answered}

-- ---- the commands among questions

abbrev commands_of : Question → List Command
commands_of (AsksCommand command) = command ∷ []
commands_of question = []

abbrev all_commands : List Question → List Command
all_commands [] = []
all_commands (q ∷ qs) = commands_of q ++ all_commands qs

call_commands : (call : Call) → commands_of (question_of call) ≡ command_in call
call_commands (CalledUp fine n packet answer) = refl
call_commands call = refl

calls_commands : (calls : List Call) → all_commands (map question_of calls) ≡ commands_among calls
calls_commands [] = refl
calls_commands (call ∷ calls) = λ i. call_commands call i ++ calls_commands calls i

stage_commands : (o : Option Pass) → all_commands (asks_stage o) ≡ []
stage_commands None = refl
stage_commands (Some x) = elim (cases_Bool x.pre) [ inl t ↦ rw t refl | inr t ↦ rw t refl ]

command_commands : (o : Option Command) → all_commands (asks_command o) ≡ one_or_none o
command_commands None = refl
command_commands (Some c) = refl

module _ (setup : Setup) (s : SplitProgram) (packets : List Packet) (calls : List Call) where
  down_commands : (w : State) (o : Option ℕ) → all_commands (asks_down setup s calls w o) ≡ []
  down_commands w None = refl
  down_commands w (Some n) = refl

  asks_commands : (w : State) (e : Event) → all_commands (asks setup s packets calls w e) ≡ commands_at w e
  asks_commands w (Stage j) = stage_commands (slice_get w.passes j)
  asks_commands w Apply = command_commands (slice_get (commands_in w.batches) w.done)
  asks_commands w (Down j) = down_commands w (slice_get w.down j)
  asks_commands w e = refl

  asked_commands : (w : State) (e : Event) → all_commands (asked setup s packets calls w e) ≡ applied_by setup w e
  asked_commands w e = elim (cases_Bool (applies setup w e)) [ inl t ↦ rw t (asks_commands w e) | inr t ↦ rw t refl ]

-- ---- the tables that are told

goes_through : (code : Code) (commands : List Command) (now : Told) (calls : List Call) → IsThrough code commands now → Each (IsGiven code) calls
    → IsThrough code (commands ++ commands_among calls) (told_through calls now)
goes_through code commands now [] h given = subst (λ cs. IsThrough code cs now) (sym (append-nil commands)) h
goes_through code commands now (CalledCommand c ∷ calls) h given =
    subst (λ cs. IsThrough code cs (told_through calls (told_after c now))) (append_assoc commands (c ∷ []) (commands_among calls))
    (goes_through code (commands ++ c ∷ []) (told_after c now) calls (a_told_command_goes_through code commands c now h given.0) given.1)
goes_through code commands now (call ∷ calls) h given = goes_through code commands now calls h given.1

-- tables that are told after calls were told before them
told_before : (calls : List Call) (o : Option Told) (tables : Told) → option_map (told_through calls) o ≡ Some tables → (before : Told) × (o ≡ Some before) × (told_through calls before ≡ tables)
told_before calls None tables h = absurd (none-some tables h)
told_before calls (Some before) tables h = (before, refl, same_Some _ _ h)

-- ---- the journal

pub journal_append : (calls more : List Call) → journal_of (calls ++ more) ≡ journal_of calls ++ journal_of more
journal_append [] more = refl
journal_append (call ∷ calls) more = ap (λ l. entry_of call ∷ l) (journal_append calls more)

pub more_calls : (code : Code) (calls one : List Call) (old new : PortState) → HasCalls code calls old → WasCalled code one old new → HasCalls code (calls ++ one) new
more_calls code calls one old new h called = let c = called_leave code one old new called in record {
  loaded = c.loaded ∙ h.loaded;
  journal = c.journal ∙ ap (λ l. l ++ journal_of one) h.journal ∙ ap (λ l. entry.Load ∷ l) (sym (journal_append calls one));
}

-- ---- what the calls are given, and what they answer

pub all_given : (code : Code) (calls : List Call) (old new : PortState) → WasCalled code calls old new → Each (IsGiven code) calls
all_given code [] old new h = tt
all_given code (call ∷ calls) old new h = (h.1, all_given code calls h.0 new h.3)

made_answers : (code : Code) (call : Call) (told : Told) (old new : PortState) → old.code ≡ Some code → old.told ≡ Some told → WasMade call old new → IsAnswerOver code told call
made_answers code (CalledUp false n packet answer) told old new loaded is h = h.told code told loaded is
made_answers code (CalledUp true n packet answer) told old new loaded is h = h.1.told code told loaded is
made_answers code (CalledDown false n frame answer) told old new loaded is h = h.told code told loaded is
made_answers code (CalledDown true n frame answer) told old new loaded is h = h.1.told code told loaded is
made_answers code call told old new loaded is h = tt

-- one call at most
pub one_answers : (code : Code) (calls : List Call) (told : Told) (old new : PortState) → length calls ≤ 1 → old.code ≡ Some code → old.told ≡ Some told → WasCalled code calls old new → AreAnswersOver code told calls
one_answers code [] told old new few loaded is h = tt
one_answers code (call ∷ []) told old new few loaded is h = (made_answers code call told old h.0 loaded is h.2, tt)
one_answers code (call ∷ (other ∷ calls)) told old new few loaded is h = absurd (omega arith)

-- an event asks one call at most
stage_few : (o : Option Pass) → length (asks_stage o) ≤ 1
stage_few None = omega arith
stage_few (Some x) = elim (cases_Bool x.pre) [ inl t ↦ rw t (omega arith) | inr t ↦ rw t (omega arith) ]

command_few : (o : Option Command) → length (asks_command o) ≤ 1
command_few None = omega arith
command_few (Some c) = omega arith

module _ (setup : Setup) (s : SplitProgram) (packets : List Packet) (calls : List Call) where
  down_few : (w : State) (o : Option ℕ) → length (asks_down setup s calls w o) ≤ 1
  down_few w None = omega arith
  down_few w (Some n) = omega arith

  asks_few : (w : State) (e : Event) → length (asks setup s packets calls w e) ≤ 1
  asks_few w (Stage j) = stage_few (slice_get w.passes j)
  asks_few w Apply = command_few (slice_get (commands_in w.batches) w.done)
  asks_few w (Down j) = down_few w (slice_get w.down j)
  asks_few w e = omega arith

  asked_few : (w : State) (e : Event) → length (asked setup s packets calls w e) ≤ 1
  asked_few w e = elim (cases_Bool (applies setup w e)) [ inl t ↦ rw t (asks_few w e) | inr t ↦ rw t (omega arith) ]

pub few_calls : (setup : Setup) (s : SplitProgram) (packets : List Packet) (calls one : List Call) (w : State) (e : Event) → map question_of one ≡ asked setup s packets calls w e → length one ≤ 1
few_calls setup s packets calls one w e asks =
    let few = asked_few setup s packets calls w e in
    let same : length one ≡ length (asked setup s packets calls w e) = sym (length-map one question_of) ∙ ap length asks in
    omega arith

-- ---- one event more

module _ (x : Inputs) (events : List Event) (event : Event) (calls one : List Call) (st : State) (old new : PortState)
    (h : IsReplay x events calls st old)
    (asks_so : map question_of one ≡ asked (setup_for x) (whole x) x.packets (calls ++ one) st event)
    (called : WasCalled (code_for x) one old new) where
  abbrev setup : Setup
  setup = setup_for x

  abbrev a : Answers
  a = answered x (calls ++ one)

  abbrev next : State
  next = step setup a st event

  next_through : applied_commands next ≡ applied_commands st ++ applied_by setup st event
      → (before : Told) → IsThrough (code_for x) (applied_commands st) before → IsThrough (code_for x) (applied_commands next) (told_through one before)
  next_through order before through =
      let asked_is = ap all_commands asks_so ∙ asked_commands setup (whole x) x.packets (calls ++ one) st event in
      let same : commands_among one ≡ applied_by setup st event = sym (calls_commands one) ∙ asked_is in
      subst (λ cs. IsThrough (code_for x) cs (told_through one before)) (ap (λ cs. applied_commands st ++ cs) same ∙ sym order)
      (goes_through (code_for x) (applied_commands st) before one through (all_given (code_for x) one old new called))

  pub next_told : applied_commands next ≡ applied_commands st ++ applied_by setup st event
      → ((before : Told) → old.told ≡ Some before → IsTold x events calls st before old.passes → Each (IsGiven (code_for x)) one → AreAnswersOver (code_for x) before one
      → IsTied setup (whole x) x.packets (calls ++ one) (events ++ event ∷ []) next
      × KnowTheirOwn x.program x.split x.writeback x.packets (calls ++ one) next new.passes)
      → ((tables : Told) → IsThrough (code_for x) (applied_commands next) tables → IsTied setup (whole x) x.packets (calls ++ one) (events ++ event ∷ []) next → SeeTheirOwn x.program x.split next tables)
      → (tables : Told) → new.told ≡ Some tables → IsTold x (events ++ event ∷ []) (calls ++ one) next tables new.passes
  next_told order tie see tables is =
      let leave = called_leave (code_for x) one old new called in
      let was = told_before one old.told tables (sym leave.told ∙ is) in
      let before = was.0 in
      let told = h.told before was.1 in
      let given = all_given (code_for x) one old new called in
      let few = few_calls setup (whole x) x.packets (calls ++ one) one st event asks_so in
      let both = tie before was.1 told given (one_answers (code_for x) one before old new few h.called.loaded was.1 called) in
      let through = subst (IsThrough (code_for x) (applied_commands next)) was.2 (next_through order before told.through) in
      record {
        tied = both.0;
        through = through;
        views = see tables through both.0;
        knows = both.1;
      }
