-- What comes of a replay over links.
use Rattle.std.specs.Prelude.{◌≡◌, ℕ, List, [], ◌∷◌, ◌++◌, if◌then◌else◌, map, slice_get, take, Option, Some, None, true}
use Rattle.lossy_link.specs.CommandBytes.{bytes_of}
use Rattle.output_commit.specs.Batches.{commands_in}
use Rattle.run_model.specs.declared.event.Event.{Event}
use Rattle.run_model.specs.declared.event.Event.TheVariants.{Admit, Stage, Serve, Send, Apply, Ack, Hold, Down}
use Rattle.run_model.specs.declared.link_event.LinkEvent.{LinkEvent}
use Rattle.state_store.specs.Store.{start_store}
use Rattle.switch_ir.specs.Port.{PortState}
use Rattle.replay_state.specs.Drain.{is_quiet}
use Rattle.replay_state.specs.Journal.{Call, EndOnce, down_frame, frame_in, over_in, up_answer}
use Rattle.replay_state.specs.Journal.{CalledUp, CalledStageUp, CalledCommand, CalledDown, CalledStageDown}
use Rattle.replay_state.specs.Journal.{Finished, SentUp, GoingUp}
use Rattle.replay_state.specs.Program.{SplitProgram, packet_at}
use Rattle.replay_state.specs.State.{State, applied_commands, first_state}
use Rattle.replay_state.specs.Step.{applies, state_of, step}
use Rattle.split_answers.specs.Through.{HasTables}
use Rattle.switch_ir.specs.Tables.{Told}
use Rattle.replay_contracts.specs.Inputs.{Inputs, setup_for, whole}
use Rattle.replay_contracts.specs.Promise.{Promises, Reports, state_for}
use Rattle.replay_contracts.specs.Replay.{IsReplay, answered}
use Rattle.lossy_replay.specs.Linked.{World, Linked, TakeWhatCame, linked_of, through}
use Rattle.lossy_replay.specs.Lines.{IsEnd}
use Rattle.lossy_replay.specs.declared.run.LossyRun.{LossyRun}

-- ## Over any switch

-- the world that the calls of a switch determine, with the frames that they answered
abbrev pub world_by : Inputs → List Call → World
world_by x calls = record {
  at = state_of (setup_for x) (answered x calls);
  up = λ n. frame_in (up_answer calls n);
  down = down_frame (whole x) calls;
}

abbrev pub linked_by : Inputs → List Call → List LinkEvent → Linked
linked_by x calls schedule = linked_of (setup_for x) (world_by x calls) schedule

-- the frames in which calls answered that a packet goes up, in order
abbrev pub frames_in : List Call → List (List ℕ)
frames_in [] = []
frames_in (CalledUp fine n packet (SentUp frame) ∷ calls) = frame ∷ frames_in calls
frames_in (CalledUp fine n packet (Finished verdict) ∷ calls) = frames_in calls
frames_in (CalledUp fine n packet GoingUp ∷ calls) = frames_in calls
frames_in (CalledStageUp n (SentUp frame) ∷ calls) = frame ∷ frames_in calls
frames_in (CalledStageUp n (Finished verdict) ∷ calls) = frames_in calls
frames_in (CalledStageUp n GoingUp ∷ calls) = frames_in calls
frames_in (CalledCommand command ∷ calls) = frames_in calls
frames_in (CalledDown fine n frame answer ∷ calls) = frames_in calls
frames_in (CalledStageDown n answer ∷ calls) = frames_in calls

-- the frame in which an output goes down that the server holds, if there is one
abbrev pub frame_let_go : SplitProgram → List Call → State → Option (ℕ × ℕ) → List (List ℕ)
frame_let_go s calls st None = []
frame_let_go s calls st (Some (n, need)) = down_frame s calls st n ∷ []

-- what an event sends down: the frame of the output that the server lets go, where it may
abbrev pub sent_down : Inputs → List Call → State → Event → List (List ℕ)
sent_down x calls st Admit = []
sent_down x calls st (Stage j) = []
sent_down x calls st (Serve j) = []
sent_down x calls st Send = []
sent_down x calls st Apply = []
sent_down x calls st Ack = []
sent_down x calls st (Hold j) =
    if applies (setup_for x) st (Hold j) then frame_let_go (whole x) calls st (slice_get st.held j) else []
sent_down x calls st (Down j) = []

-- the frames that events send down, in order: from a state on, and from the first
abbrev pub sent_down_from : Inputs → List Call → State → List Event → List (List ℕ)
sent_down_from x calls st [] = []
sent_down_from x calls st (event ∷ events) =
    sent_down x calls st event ++ sent_down_from x calls (step (setup_for x) (answered x calls) st event) events

abbrev pub frames_down : Inputs → List Call → List Event → List (List ℕ)
frames_down x calls events = sent_down_from x calls (first_state (start_store x.program.objects)) events

-- All that was given: the frames in which calls answered that packets go up, those of the outputs that the server let go,
-- the bytes of the commands that were sent, and an empty item for each that was applied.
pub record HasItems (x : Inputs) (l : Linked) (calls : List Call) (last : State) : Type 0 where
  pub up : l.up.items ≡ frames_in calls
  pub down : l.down.items ≡ frames_down x calls l.events
  pub ctl : l.ctl.items ≡ map bytes_of (take last.sent (commands_in last.batches))
  pub ack : l.ack.items ≡ map (λ command. []) (applied_commands last)

-- the ends that are answered are those of the links
pub record HasEnds (l : Linked) (run : LossyRun) : Type 0 where
  pub up : IsEnd l.up run.up
  pub down : IsEnd l.down run.down
  pub ctl : IsEnd l.ctl run.ctl
  pub ack : IsEnd l.ack run.ack

-- The report is that of the replay of the events that came through, as the switch's calls determine it, and the ends are
-- those of the links behind the schedule. One call has ended each pass that has ended.
pub record IsLinkedReplay (x : Inputs) (schedule : List LinkEvent) (run : LossyRun) (port : PortState) : Type 0 where
  pub calls : List Call
  pub last : State
  pub commands : ℕ
  pub replay : IsReplay x (linked_by x calls schedule).events calls last port
  pub reports : Reports x last port port run.run commands
  pub once : EndOnce calls last
  pub ends : HasEnds (linked_by x calls schedule) run
  pub items : HasItems x (linked_by x calls schedule) calls last
  -- at each event of the schedule a frame that was delivered is run, or taken, as the one that it is
  pub came : (before behind : List LinkEvent) → schedule ≡ before ++ behind
      → TakeWhatCame (world_by x calls) (linked_by x calls before)

-- ## Over a switch that tells its tables

-- the world of whole packets, each in the frame of its values
abbrev pub world_of : Inputs → World
world_of x = record {
  at = state_for x;
  up = λ n. (whole x).up_frame n (packet_at x.packets n);
  down = λ st n. (whole x).serve_down (over_in (slice_get st.progress n)) ((whole x).up_frame n (packet_at x.packets n));
}

-- the events that come through over links, of whole packets
abbrev pub events_through : Inputs → List LinkEvent → List Event
events_through x schedule = through (setup_for x) (world_of x) schedule

-- The report is that of whole packets by the events that come through, which keeps its promises, and the ends are those of
-- the links of whole packets; where nothing is left on its way, the switch has the server's tables.
pub record IsLinkedRun (x : Inputs) (schedule : List LinkEvent) (run : LossyRun) (port : PortState) : Type 0 where
  pub promises : Promises x (events_through x schedule) run.run
  pub ends : HasEnds (linked_of (setup_for x) (world_of x) schedule) run
  pub tables : (let last = state_for x (events_through x schedule) in
      is_quiet last ≡ true → (tables : Told) × (port.told ≡ Some tables)
      × HasTables x.program x.split x.writeback last.store tables)
