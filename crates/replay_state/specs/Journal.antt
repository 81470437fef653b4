-- The run that the calls of a switch determine, whatever it answers.
use Rattle.std.specs.Prelude.{◌≡◌, ⊤, ℕ, ◌+◌, Bool, true, false, ◌==◌}
use Rattle.std.specs.Prelude.{nat_le, if◌then◌else◌, is_some, List, [], ◌∷◌, ◌++◌, map}
use Rattle.std.specs.Prelude.{Option, Some, None, length, slice_get}
use Rattle.packet_fields.specs.declared.packet.Packet.{Packet}
use Rattle.packet_fields.specs.declared.verdict.Verdict.{Verdict}
use Rattle.packet_fields.specs.declared.verdict.Verdict.TheVariants as verdict
use Rattle.state_store.specs.Store.{Store, start_store}
use Rattle.writeback_table.specs.declared.command.Command.{Command}
use Rattle.replay_state.specs.Answers.{Answers, Setup}
use Rattle.output_commit.specs.Batches.{commands_in}
use Rattle.replay_state.specs.State.{State, Pass, Progress, Entered, Held, Slow, first_state}
use Rattle.run_model.specs.declared.event.Event.{Event}
use Rattle.run_model.specs.declared.event.Event.TheVariants.{Admit, Stage, Apply, Down}
use Rattle.replay_state.specs.Step.{applies, step, state_of}
use Rattle.run_model.specs.Meaning.{packet_at}
use Rattle.replay_state.specs.Program.{SplitProgram}

-- ## Calls, and what they answer

-- a packet is finished or sent up in a frame, or its pass has stages left
pub data UpAnswer : Type 0 where
  Finished : (verdict : Verdict) → UpAnswer
  SentUp : (frame : List ℕ) → UpAnswer
  GoingUp : UpAnswer

pub data DownAnswer : Type 0 where
  Released : (verdict : Verdict) → DownAnswer
  GoingDown : DownAnswer

-- A call of the switch, with what it was given and what it answered. One that takes a packet or a frame says whether it
-- begins a pass that goes on stage by stage.
pub data Call : Type 0 where
  CalledUp : (fine : Bool) (number : ℕ) (packet : Packet) (answer : UpAnswer) → Call
  CalledStageUp : (number : ℕ) (answer : UpAnswer) → Call
  CalledCommand : (command : Command) → Call
  CalledDown : (fine : Bool) (number : ℕ) (frame : List ℕ) (answer : DownAnswer) → Call
  CalledStageDown : (number : ℕ) (answer : DownAnswer) → Call

-- ## The answers of a journal

abbrev pub or_else : {X : Type 0} → Option X → Option X → Option X
or_else None other = other
or_else (Some x) other = Some x

abbrev pub only_for : {X : Type 0} → ℕ → ℕ → Option X → Option X
only_for m n answer = if m == n then answer else None

abbrev pub up_end : UpAnswer → Option UpAnswer
up_end GoingUp = None
up_end answer = Some answer

abbrev pub down_end : DownAnswer → Option Verdict
down_end (Released y) = Some y
down_end GoingDown = None

-- what the call answers, if it ends the pass before the server, or behind it, of packet n
abbrev pub ends_up : ℕ → Call → Option UpAnswer
ends_up n (CalledUp fine m packet answer) = only_for m n (up_end answer)
ends_up n (CalledStageUp m answer) = only_for m n (up_end answer)
ends_up n call = None

abbrev pub ends_down : ℕ → Call → Option Verdict
ends_down n (CalledDown fine m frame answer) = only_for m n (down_end answer)
ends_down n (CalledStageDown m answer) = only_for m n (down_end answer)
ends_down n call = None

-- the answer that ended that pass
abbrev pub up_answer : List Call → ℕ → Option UpAnswer
up_answer [] n = None
up_answer (call ∷ calls) n = or_else (ends_up n call) (up_answer calls n)

abbrev pub down_answer : List Call → ℕ → Option Verdict
down_answer [] n = None
down_answer (call ∷ calls) n = or_else (ends_down n call) (down_answer calls n)

abbrev pub verdict_in : Option UpAnswer → Option Verdict
verdict_in (Some (Finished y)) = Some y
verdict_in answer = None

abbrev pub frame_in : Option UpAnswer → List ℕ
frame_in (Some (SentUp frame)) = frame
frame_in answer = []

abbrev pub told : Option Verdict → Verdict
told None = verdict.Drop
told (Some y) = y

-- the switch answers what stands in the journal, and the server runs the frame which the packet's pass answered
abbrev pub journal : SplitProgram → List Call → Answers
journal s calls = record {
  pre = λ store n. verdict_in (up_answer calls n);
  after = λ store n. s.serve_after store (frame_in (up_answer calls n));
  changes = λ store n. s.serve_changes store (frame_in (up_answer calls n));
  post = λ over n. told (down_answer calls n);
}

-- the frame in which a packet goes down, which the server ran over the store that its progress tells
abbrev pub over_in : Option Progress → Store
over_in (Some (Held a d v over)) = over
over_in progress = []

abbrev pub down_frame : SplitProgram → List Call → State → ℕ → List ℕ
down_frame s calls st n = s.serve_down (over_in (slice_get st.progress n)) (frame_in (up_answer calls n))

-- ## What is asked

-- a call without its answer, but for whether it ends a pass
pub data Question : Type 0 where
  AsksUp : (fine : Bool) (number : ℕ) (packet : Packet) (ends : Bool) → Question
  AsksStageUp : (number : ℕ) (ends : Bool) → Question
  AsksCommand : (command : Command) → Question
  AsksDown : (fine : Bool) (number : ℕ) (frame : List ℕ) (ends : Bool) → Question
  AsksStageDown : (number : ℕ) (ends : Bool) → Question

abbrev pub is_up_end : UpAnswer → Bool
is_up_end GoingUp = false
is_up_end answer = true

abbrev pub is_down_end : DownAnswer → Bool
is_down_end (Released y) = true
is_down_end GoingDown = false

abbrev pub question_of : Call → Question
question_of (CalledUp fine number packet answer) = AsksUp fine number packet (is_up_end answer)
question_of (CalledStageUp number answer) = AsksStageUp number (is_up_end answer)
question_of (CalledCommand command) = AsksCommand command
question_of (CalledDown fine number frame answer) = AsksDown fine number frame (is_down_end answer)
question_of (CalledStageDown number answer) = AsksStageDown number (is_down_end answer)

abbrev pub asks_stage : Option Pass → List Question
asks_stage None = []
asks_stage (Some pass) =
    if pass.pre then AsksStageUp pass.number (nat_le pass.left 1) ∷ []
    else AsksStageDown pass.number (nat_le pass.left 1) ∷ []

abbrev pub asks_command : Option Command → List Question
asks_command None = []
asks_command (Some command) = AsksCommand command ∷ []

abbrev pub asks_down : Setup → SplitProgram → List Call → State → Option ℕ → List Question
asks_down setup s calls st None = []
asks_down setup s calls st (Some n) = AsksDown setup.fine n (down_frame s calls st n) (setup.post_stages == 0) ∷ []

-- what an event asks that applies
abbrev pub asks : Setup → SplitProgram → List Packet → List Call → State → Event → List Question
asks setup s packets calls st Admit =
    AsksUp setup.fine (length st.progress) (packet_at packets (length st.progress)) (setup.pre_stages == 0) ∷ []
asks setup s packets calls st (Stage j) = asks_stage (slice_get st.passes j)
asks setup s packets calls st Apply = asks_command (slice_get (commands_in st.batches) st.done)
asks setup s packets calls st (Down j) = asks_down setup s calls st (slice_get st.down j)
asks setup s packets calls st event = []

abbrev pub asked : Setup → SplitProgram → List Packet → List Call → State → Event → List Question
asked setup s packets calls st event = if applies setup st event then asks setup s packets calls st event else []

abbrev pub questions : Setup → SplitProgram → List Packet → List Call → State → List Event → List Question
questions setup s packets calls st [] = []
questions setup s packets calls st (event ∷ events) =
    asked setup s packets calls st event
    ++ questions setup s packets calls (step setup (journal s calls) st event) events

-- The state is that of these events by the answers of these calls, and these calls are what is asked on the way.
pub record IsAnswered (setup : Setup) (s : SplitProgram) (packets : List Packet) (events : List Event)
    (calls : List Call) (st : State) : Type 0 where
  pub run : st ≡ state_of setup (journal s calls) events
  pub asked : map question_of calls
      ≡ questions setup s packets calls (first_state (start_store setup.objects)) events

-- ## What holds of the frames

-- the frame in an answer to a call for packet n, where it is one
abbrev pub GoesUpSo : (ℕ → List ℕ → Type 0) → ℕ → UpAnswer → Type 0
GoesUpSo P n (SentUp frame) = P n frame
GoesUpSo P n answer = ⊤

-- so it is of each frame that the switch sent up for a packet
abbrev pub FramesAre : (ℕ → List ℕ → Type 0) → List Call → Type 0
FramesAre P [] = ⊤
FramesAre P (CalledUp fine n packet answer ∷ calls) = GoesUpSo P n answer × FramesAre P calls
FramesAre P (CalledStageUp n answer ∷ calls) = GoesUpSo P n answer × FramesAre P calls
FramesAre P (call ∷ calls) = FramesAre P calls

-- so it is of each frame that the switch was given for a packet that comes down
abbrev pub DownFramesAre : (ℕ → List ℕ → Type 0) → List Call → Type 0
DownFramesAre P [] = ⊤
DownFramesAre P (CalledDown fine n frame answer ∷ calls) = P n frame × DownFramesAre P calls
DownFramesAre P (call ∷ calls) = DownFramesAre P calls

-- the packet went up in a frame
abbrev pub HasGoneUp : List Call → ℕ → Type 0
HasGoneUp calls n = (frame : List ℕ) × (up_answer calls n ≡ Some (SentUp frame))

-- one of the calls answered so, and ended the pass of packet n before the server
abbrev pub IsAnswerIn : List Call → ℕ → UpAnswer → Type 0
IsAnswerIn calls n answer =
    (i : ℕ) × (call : Call) × (slice_get calls i ≡ Some call) × (ends_up n call ≡ Some answer)

-- the frame has the number of its packet
abbrev pub IsNumbered : SplitProgram → ℕ → List ℕ → Type 0
IsNumbered s n frame = s.number_of frame ≡ n

-- ## How often passes end

abbrev pub one_if : Bool → ℕ
one_if b = if b then 1 else 0

-- how many of the calls end the pass before the server, or behind it, of packet n
abbrev pub up_ends : ℕ → List Call → ℕ
up_ends n [] = 0
up_ends n (call ∷ calls) = one_if (is_some (ends_up n call)) + up_ends n calls

abbrev pub down_ends : ℕ → List Call → ℕ
down_ends n [] = 0
down_ends n (call ∷ calls) = one_if (is_some (ends_down n call)) + down_ends n calls

-- its pass before the server has ended, or that behind it
abbrev pub has_passed : Option Progress → Bool
has_passed None = false
has_passed (Some (Entered a v)) = false
has_passed (Some old) = true

abbrev pub has_come_down : Option Progress → Bool
has_come_down (Some (Slow a d v y r)) = true
has_come_down o = false

-- one call has ended each pass that has ended, and none any other
pub record EndOnce (calls : List Call) (st : State) : Type 0 where
  pub up : (n : ℕ) → up_ends n calls ≡ one_if (has_passed (slice_get st.progress n))
  pub down : (n : ℕ) → down_ends n calls ≡ one_if (has_come_down (slice_get st.progress n))
