-- A split program: what it does to whole packets, and what its parts on the switch and on the server do.
use Rattle.std.specs.Prelude.{◌≡◌, ◌≤◌, ◌<◌, ℕ, Bool, true}
use Rattle.std.specs.Prelude.{◌&&◌, if◌then◌else◌, List, length, Some, None}
use Rattle.std.specs.Prelude.{slice_get}
use Rattle.packet_fields.specs.declared.packet.Packet.{Packet}
use Rattle.packet_fields.specs.declared.verdict.Verdict.{Verdict}
use Rattle.state_store.specs.declared.object.ObjectDecl.{ObjectDecl}
use Rattle.state_store.specs.Store.{Store, object_at, start_store}
use Rattle.state_store.specs.Kept.{IsKept}
use Rattle.writeback_table.specs.declared.command.Update.{Update}
use Rattle.writeback_table.specs.Batches.{changed_by, count_of, TakesAll}
use Rattle.output_commit.specs.Batches.{fits}
use Rattle.replay_state.specs.Answers.{Answers, Setup}
use Rattle.replay_state.specs.SoundAnswers.{IsAlike}
pub use Rattle.run_model.specs.Meaning.{packet_at}

-- frames are lists of bytes
pub record SplitProgram : Type 0 where
  -- the declared objects, those of them that the switch keeps too, and how many rows of each may be staged there
  pub objects : List ObjectDecl
  pub replicated : ℕ → Bool
  pub writeback : ℕ
  -- how many instructions change objects that the switch keeps
  pub writes : ℕ
  -- the highest stages of its passes before the server and behind it
  pub pre_stages : ℕ
  pub post_stages : ℕ
  -- the run of a packet from a store: the store that it leaves, its verdict, its changes of objects that the switch
  -- keeps, and whether the switch can finish it
  pub after : Store → Packet → Store
  pub verdict : Store → Packet → Verdict
  pub changes : Store → Packet → List Update
  pub is_fast : Store → Packet → Bool
  -- the frame in which a packet goes up under a number, and the number in a frame
  pub up_frame : ℕ → Packet → List ℕ
  pub number_of : List ℕ → ℕ
  -- the server's run of a frame from a store: the store that it leaves, its changes, and the frame that it sends down
  pub serve_after : Store → List ℕ → Store
  pub serve_changes : Store → List ℕ → List Update
  pub serve_down : Store → List ℕ → List ℕ
  -- the verdict of the switch on a frame that comes down
  pub post : List ℕ → Verdict

-- ## What the layers below show

-- What holds of a packet and a store that keeps what was declared.
pub record IsSplitRun (s : SplitProgram) (store : Store) (packet : Packet) : Type 0 where
  -- the run leaves a store that keeps what was declared
  pub kept : IsKept s.objects (s.after store packet)
  -- a packet that is fast leaves the store
  pub stays : s.is_fast store packet ≡ true → s.after store packet ≡ store
  -- it is fast, and has its verdict then, over each store with the same replicated objects
  pub fast : (other : Store) → IsKept s.objects other → IsAlike s.replicated other store
      → s.is_fast other packet ≡ s.is_fast store packet
  pub verdict : (other : Store) → IsKept s.objects other → IsAlike s.replicated other store
      → s.is_fast store packet ≡ true → s.verdict other packet ≡ s.verdict store packet
  -- the changes turn each replicated object into the one that the run leaves; each finds room there in turn, and there
  -- is room to stage them
  pub changed : (o : ℕ) → s.replicated o ≡ true
      → object_at (s.after store packet) o ≡ changed_by o (object_at store o) (s.changes store packet)
  pub taken : (o : ℕ) → s.replicated o ≡ true → TakesAll o (object_at store o) (s.changes store packet)
  pub few : (o : ℕ) → s.replicated o ≡ true → count_of o (s.changes store packet) ≤ s.writeback

-- What the layers below show of a split program and the packets of a trace.
pub record IsSplitProgram (s : SplitProgram) (packets : List Packet) : Type 0 where
  pub start : IsKept s.objects (start_store s.objects)
  pub within : (o : ℕ) → s.replicated o ≡ true → o < length s.objects
  pub runs : (n : ℕ) (packet : Packet) (store : Store) → slice_get packets n ≡ Some packet → IsKept s.objects store
      → IsSplitRun s store packet
  -- no run makes more changes than there are instructions for them, whatever comes up
  pub few : (store : Store) (packet : Packet) → length (s.changes store packet) ≤ s.writes
  pub few_served : (store : Store) (frame : List ℕ) → length (s.serve_changes store frame) ≤ s.writes

-- ## Its runs over a trace

-- whole packets run over whole stores
abbrev pub plain : SplitProgram → List Packet → Answers
plain s packets = record {
  pre = λ store n.
      if s.is_fast store (packet_at packets n) then Some (s.verdict store (packet_at packets n)) else None;
  after = λ store n. s.after store (packet_at packets n);
  changes = λ store n. s.changes store (packet_at packets n);
  post = λ store n. s.verdict store (packet_at packets n);
}

-- How a run goes: whether each pass takes an event for each of its stages, and whether batches take up those behind
-- them.
pub record Manner : Type 0 where
  pub fine : Bool
  pub merges : Bool

-- a fine run or a plain one, in which each batch takes up those behind it that fit
abbrev pub manner_of : Bool → Manner
manner_of fine = record { fine = fine; merges = true }

abbrev pub setup_of : SplitProgram → List Packet → Manner → Setup
setup_of s packets manner = record {
  objects = s.objects;
  replicated = s.replicated;
  writeback = s.writeback;
  total = length packets;
  fine = manner.fine;
  pre_stages = if manner.fine then s.pre_stages else 0;
  post_stages = if manner.fine then s.post_stages else 0;
  writes = s.writes;
  fits = λ updates. manner.merges && fits s.writeback updates;
}

-- what fits into one batch: changes of a run whose batches take up others, and of each object no more than may be
-- staged; changes are of objects that the switch keeps
pub record Fits (s : SplitProgram) (manner : Manner) (updates : List Update) : Type 0 where
  pub merges : manner.merges ≡ true
  pub room : (o : ℕ) → count_of o updates ≤ s.writeback
