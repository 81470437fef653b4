-- What ties the run over a switch that tells its tables to the run of whole packets.
use Rattle.std.specs.Prelude.{◌≡◌, ◌<◌, ◌≤◌, ⊤, ℕ, true, false, List, Option, Some, length, slice_get}
use Rattle.packet_fields.specs.declared.packet.Packet.{Packet}
use Rattle.state_store.specs.Store.{Store}
use Rattle.state_store.specs.Kept.{IsKept}
use Rattle.replay_state.specs.Answers.{Setup}
use Rattle.replay_state.specs.State.{State, Pass, store_at}
use Rattle.run_model.specs.declared.event.Event.{Event}
use Rattle.run_model.specs.declared.event.Event.TheVariants.{Admit, Stage, Down}
use Rattle.replay_state.specs.Step.{pass_of, state_of}
use Rattle.run_model.specs.Meaning.{packet_at}
use Rattle.replay_state.specs.Program.{SplitProgram, plain}
use Rattle.replay_state.specs.Journal.{Call, UpAnswer, Finished, SentUp}
use Rattle.replay_state.specs.Journal.{IsNumbered, up_answer, down_answer, told, down_frame}
use Rattle.replay_state.specs.Carried.{Carried}

-- ## The server

-- its run of the frame of a packet, and what the switch makes of the frame that comes down, are the run of the packet
pub record IsFramed (s : SplitProgram) (store : Store) (n : ℕ) (packet : Packet) : Type 0 where
  pub numbered : s.number_of (s.up_frame n packet) ≡ n
  pub after : s.serve_after store (s.up_frame n packet) ≡ s.after store packet
  pub changes : s.serve_changes store (s.up_frame n packet) ≡ s.changes store packet
  pub verdict : s.post (s.serve_down store (s.up_frame n packet)) ≡ s.verdict store packet

pub record HasFrames (s : SplitProgram) (packets : List Packet) : Type 0 where
  pub each : (n : ℕ) (packet : Packet) (store : Store) → slice_get packets n ≡ Some packet → IsKept s.objects store
      → IsFramed s store n packet
  -- what comes down has the number of what came up, whatever else that was
  pub numbered : (n : ℕ) (frame : List ℕ) (store : Store) → n < length packets → IsNumbered s n frame
      → IsNumbered s n (s.serve_down store frame)

-- ## The switch

-- a packet that is fast over the store is finished with its verdict, and any other goes up in its frame
abbrev pub IsRight : SplitProgram → Store → ℕ → Packet → Option UpAnswer → Type 0
IsRight s store n packet (Some (Finished verdict)) =
    (s.is_fast store packet ≡ true) × (verdict ≡ s.verdict store packet)
IsRight s store n packet (Some (SentUp frame)) = (s.is_fast store packet ≡ false) × (frame ≡ s.up_frame n packet)
IsRight s store n packet answer = ⊥

-- the answer that ends a pass is that of the version with which it entered, or that of the frame which came down
pub record EndsRight (s : SplitProgram) (packets : List Packet) (calls : List Call) (st : State) (pass : Pass)
    : Type 0 where
  pub pre : pass.pre ≡ true → IsRight s (store_at st.stores pass.version) pass.number (packet_at packets pass.number)
      (up_answer calls pass.number)
  pub post : pass.pre ≡ false
      → told (down_answer calls pass.number) ≡ s.post (down_frame s calls st pass.number)

-- the switch answers so at an event
abbrev pub Tells : Setup → SplitProgram → List Packet → List Call → State → Event → Type 0
Tells setup s packets calls st Admit =
    setup.pre_stages ≡ 0 → EndsRight s packets calls st (pass_of st true (length st.progress) setup.pre_stages)
Tells setup s packets calls st (Stage j) =
    (pass : Pass) → pass.left ≤ 1 → slice_get st.passes j ≡ Some pass → EndsRight s packets calls st pass
Tells setup s packets calls st (Down j) =
    (n : ℕ) → setup.post_stages ≡ 0 → slice_get st.down j ≡ Some n
    → EndsRight s packets calls st (pass_of st false n setup.post_stages)
Tells setup s packets calls st event = ⊤

-- ## The tie

-- the packet went up in its frame
abbrev pub IsSentUp : SplitProgram → List Packet → List Call → ℕ → Type 0
IsSentUp s packets calls n = up_answer calls n ≡ Some (SentUp (s.up_frame n (packet_at packets n)))

-- The state is that of whole packets, and the packets that the server has, or had, went up in their frames.
pub record IsTied (setup : Setup) (s : SplitProgram) (packets : List Packet) (calls : List Call)
    (events : List Event) (st : State) : Type 0 where
  pub same : st ≡ state_of setup (plain s packets) events
  pub framed : Carried (IsSentUp s packets calls) st
