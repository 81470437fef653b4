-- What stands in a course between its events, whatever its switch answered, and what an event does to it and to its port.
use Rattle.std.specs.Prelude.{◌≡◌, ◌≤◌, ◌<◌, ◌+◌, ◌-◌, ◌*◌, ◌^◌, ℕ, List, ◌++◌, Option, Some, None, length, map}
use Rattle.std.specs.Prelude.{Bool, true, false, ⊤, [], ◌∷◌, suc, count_by, slice_get, if◌then◌else◌, Result}
use Rattle.std.specs.List.{AllByRecursion as Each}
use Rattle.packet_fields.specs.declared.packet.Packet.{Packet}
use Rattle.split_model.specs.Bounds.{HasFewStages}
use Rattle.split_model.specs.Layouts.{down_layout, up_layout}
use Rattle.transfer_header.specs.Frames.{IsFrame}
use Rattle.output_commit.specs.Commit.{IsInOrder, bit, commands, visible, next as next_command}
use Rattle.output_commit.specs.Laws.{changes_in, versions_in}
use Rattle.output_commit.specs.declared.output.Output.{Output}
use Rattle.run_model.specs.declared.event.Event.{Event}
use Rattle.server_runtime.specs.Views.{server_of}
use Rattle.switch_ir.specs.declared.port.UpEnd.{UpEnd}
use Rattle.switch_ir.specs.declared.port.UpEnd.TheVariants as up
use Rattle.switch_ir.specs.declared.port.DownEnd.{DownEnd}
use Rattle.switch_ir.specs.declared.port.DownEnd.TheVariants as down
use Rattle.switch_ir.specs.declared.port.PortError.{PortError}
use Rattle.switch_ir.specs.Port.{BeginsDown, BeginsUp, PassesDown, PassesUp}
use Rattle.switch_ir.specs.Port.{PortState, HasNoDownPassOf, HasNoUpPass, HasRoomFor, IsUpdateOf, WaitsForNone}
use Rattle.split_answers.specs.UnderWay.{IsOnSwitch}
use Rattle.transfer_header.specs.Told.{number_in}
use Rattle.writeback_table.specs.declared.command.Command.{Command}
use Rattle.replay_state.specs.Carried.{Carried}
use Rattle.replay_state.specs.Journal.{Call, HasGoneUp, asked, question_of}
use Rattle.replay_state.specs.Places.{HavePlaces, IsHeld}
use Rattle.replay_state.specs.Program.{manner_of}
use Rattle.replay_state.specs.declared.pass.Pass.{Pass}
use Rattle.replay_state.specs.State.{Entered, State}
use Rattle.replay_state.specs.Answers.{Answers}
use Rattle.replay_state.specs.Step.{applies, ended, step, waits}
use Rattle.replay_contracts.specs.Called.{KeepsCalls, WasCalled}
use Rattle.replay_contracts.specs.Inputs.{Inputs, IsReady, code_for, setup_for, whole}
use Rattle.replay_contracts.specs.Replay.{IsReplay, answered}
use Rattle.replay_contracts.specs.Replayer.{StaysTold, stepped_by}
use Rattle.replay_contracts.specs.declared.job.Stepped.{Stepped}
use Rattle.replay_course.specs.declared.course.Course.{Course}
use Rattle.replay_course.specs.Shown.{IsShown}

-- ## How far a replay can go

-- how many commands a packet brings at most
abbrev pub most_commands : Inputs → ℕ
most_commands x = 3 * (whole x).writes + 2

-- the packets that aren't decided: those of passes before the server, those that went up, and those that are to come
abbrev pub undecided : Inputs → Course → ℕ
undecided x c =
    count_by (λ (pass : Pass). pass.pre) c.passes + length c.up.items + (length x.packets - length c.fates.items)

-- the commands that aren't applied
abbrev pub unapplied : Course → ℕ
unapplied c = length (commands c.commit) - c.commit.done

-- each packet makes one version and one batch of commands at most, and batches that take up others have fewer
pub record IsWithin (x : Inputs) (c : Course) : Type 0 where
  pub idle : c.idle ≤ c.events
  pub admitted : length c.fates.items ≤ length x.packets
  pub versions : c.server.version + undecided x c ≤ length x.packets
  pub commands : length (commands c.commit) + undecided x c * most_commands x ≤ length x.packets * most_commands x

-- ## What stands

-- each batch takes up those behind it that fit, and all commands of all packets can be counted
pub record IsPrepared (x : Inputs) : Type 0 where
  pub ready : IsReady x
  pub stages : HasFewStages x.split
  pub manner : x.manner ≡ manner_of x.manner.fine
  pub few : length x.packets * most_commands x < 2 ^ 32

pub record IsSound (x : Inputs) (c : Course) : Type 0 where
  -- the server has the program and its split
  pub program : (server_of c.server).program ≡ x.program
  pub split : (server_of c.server).split ≡ x.split
  -- passes enter with all stages left above 0, and those under way have some left
  pub pre_stages : c.pre_stages ≡ (setup_for x).pre_stages
  pub post_stages : c.post_stages ≡ (setup_for x).post_stages
  pub left : Each (λ (pass : Pass). 0 < pass.left) c.passes
  -- frames have the layouts of their ways
  pub up : Each (λ item. IsFrame 1 (up_layout x.program x.split) item.1) c.up.items
  pub held : Each (λ (o : Output). IsFrame 2 (down_layout x.program x.split) o.frame) c.commit.held
  pub down : Each (λ item. IsFrame 2 (down_layout x.program x.split) item.1) c.down.items
  -- changes are those of the switch's code, and a batch has no more of them than may be staged
  pub updates : Each (IsUpdateOf (code_for x)) (changes_in c.commit.batches)
  pub writeback : c.commit.writeback ≡ x.writeback
  pub order : IsInOrder c.commit
  -- the batches make all versions, and no output needs a later one
  pub version : c.server.version ≡ versions_in c.commit.batches
  pub needs : Each (λ (o : Output). o.need ≤ c.server.version) c.commit.held
  pub within : IsWithin x c

-- the port has the code, and memory for the commands that aren't applied
pub record CanGoOn (x : Inputs) (c : Course) (port : PortState) : Type 0 where
  pub prepared : IsPrepared x
  pub sound : IsSound x c
  pub loaded : port.code ≡ Some (code_for x)
  pub spare : unapplied c ≤ port.spare

-- the first command that was sent and isn't applied, unless it has to wait for a pass under way
abbrev pub unless_waits : List Pass → Option Command → Option Command
unless_waits passes None = None
unless_waits passes (Some command) = if waits passes (Some command) then None else Some command

abbrev pub ready_next : Course → Option Command
ready_next c = unless_waits c.passes (next_command c.commit)

-- What the next calls of the port ask for.
pub record MayCall (x : Inputs) (c : Course) (port : PortState) : Type 0 where
  -- the next command finds room where the tables are told, and disturbs no pass
  pub room : (command : Command) → ready_next c ≡ Some command → HasRoomFor port command
  pub waits : (command : Command) → ready_next c ≡ Some command → WaitsForNone port command
  -- no pass is under way over the packet that comes in next, or over one that comes down
  pub arrives : HasNoUpPass port (length c.fates.items)
  pub comes_down : (j : ℕ) (item : ℕ × List ℕ) → slice_get c.down.items j ≡ Some item
      → HasNoDownPassOf port item.1 × (number_in item.1 ≡ item.0)
  -- the passes of the course are under way there
  pub under_way : (j : ℕ) (pass : Pass) → slice_get c.passes j ≡ Some pass
      → IsOnSwitch (setup_for x) x.packets port.passes pass

-- the port made room for so many commands, and was called for nothing else
pub record MadeRoom (commands : ℕ) (old new : PortState) : Type 0 where
  pub kept : KeepsCalls old new
  pub spare : commands ≤ new.spare

-- ## Calls for passes

-- a packet arrives, in a pass of one call or in the first call of one that goes on stage by stage
abbrev pub TakesUp : Bool → Result UpEnd PortError → ℕ → Packet → PortState → PortState → Type 0
TakesUp false answer number packet old new = PassesUp answer number packet.port packet.bytes old new
TakesUp true answer number packet old new =
    HasNoUpPass old number × BeginsUp answer number packet.port packet.bytes old new

-- a frame comes down so
abbrev pub TakesDown : Bool → Result DownEnd PortError → List ℕ → PortState → PortState → Type 0
TakesDown false answer frame old new = PassesDown answer frame old new
TakesDown true answer frame old new = HasNoDownPassOf old frame × BeginsDown answer frame old new

-- a packet more may be undecided, though it is among no others yet
pub record TakesOneMore (x : Inputs) (c : Course) : Type 0 where
  pub versions : c.server.version + suc (undecided x c) ≤ length x.packets
  pub commands : length (commands c.commit) + suc (undecided x c) * most_commands x ≤ length x.packets * most_commands x

-- A pass that goes on has stages left, and a packet that goes up has a frame of its layout.
abbrev pub FitsUp : Inputs → Pass → UpEnd → Type 0
FitsUp x pass (up.Finished verdict) = ⊤
FitsUp x pass (up.Up frame) = IsFrame 1 (up_layout x.program x.split) frame
FitsUp x pass up.Going = 0 < pass.left

abbrev pub FitsDown : Pass → DownEnd → Type 0
FitsDown pass (down.Verdict verdict) = ⊤
FitsDown pass down.Going = 0 < pass.left

-- the pass with which the packet of this number enters now
abbrev pub pass_for : Course → Bool → ℕ → Pass
pass_for c pre number = record {
  pre = pre;
  number = number;
  version = visible c.commit;
  bit = bit c.commit;
  left = if pre then c.pre_stages else c.post_stages;
}

-- a pass that isn't among those under way has ended, or goes last among them
abbrev pub came_to : Answers → State → Pass → Bool → State
came_to a st pass true = ended a st pass
came_to a st pass false = record st { passes = st.passes ++ pass ∷ [] }

-- The packet of a pass before the server came in with the version of the pass, and each packet that is at the server,
-- or comes down, went up by these calls.
pub record IsUpPassOf (calls : List Call) (st : State) (pass : Pass) : Type 0 where
  pub gone : Carried (HasGoneUp calls) st
  pub pre : pass.pre ≡ true
  pub entered : (admitted : ℕ) × (slice_get st.progress pass.number ≡ Some (Entered admitted pass.version))

-- The packet of a pass behind the server was run by it, and is none of those that are at the server then, or come down.
pub record IsDownPassOf (calls : List Call) (st : State) (pass : Pass) (after : State) : Type 0 where
  pub gone : Carried (HasGoneUp calls) st
  pub post : pass.pre ≡ false
  pub held : IsHeld st pass.number
  pub places : HavePlaces after

-- a pass with one stage less left
abbrev pub less_one : Pass → Pass
less_one pass = record pass { left = pass.left - 1 }

-- ## One event

-- by the calls that it asked, the event led from what the course showed to what it shows
pub record TakesStep (x : Inputs) (event : Event) (stepped : Stepped) (calls : List Call) (st : State) (old : PortState)
    (after : Course) (new : PortState) : Type 0 where
  pub one : List Call
  pub asks : map question_of one ≡ asked (setup_for x) (whole x) x.packets (calls ++ one) st event
  pub called : WasCalled (code_for x) one old new
  pub stepped_so : stepped ≡ stepped_by (applies (setup_for x) st event)
  pub shown : IsShown (whole x) (calls ++ one) (step (setup_for x) (answered x (calls ++ one)) st event) after

-- so it is of each replay that the course showed
pub record HasAdvanced (x : Inputs) (event : Event) (stepped : Stepped) (c : Course) (old : PortState) (after : Course)
    (new : PortState) : Type 0 where
  pub going : CanGoOn x after new
  pub stays : StaysTold old new
  pub counted : after.events ≡ c.events + 1
  pub turns : (events : List Event) (calls : List Call) (st : State)
      → IsReplay x events calls st old → IsShown (whole x) calls st c → TakesStep x event stepped calls st old after new
