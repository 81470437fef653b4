-- A flat program and a legal split of it, as the state of a replay asks for them.
use Rattle.std.specs.Prelude.{◌≤◌, ℕ, List}
use Rattle.state_store.specs.Kept.{IsKept}
use Rattle.state_store.specs.Store.{start_store}
use Rattle.flat_ir.specs.Program.{Program}
use Rattle.flat_ir.specs.Run.{flat_changes, flat_store, flat_verdict}
use Rattle.split_model.specs.declared.split.Part.{Part}
use Rattle.split_model.specs.Bounds.{IsBounded}
use Rattle.split_model.specs.Counts.{writes}
use Rattle.split_model.specs.Legal.{IsLegal}
use Rattle.split_model.specs.Passes.{is_fast}
use Rattle.split_model.specs.Shown.{is_replicated}
use Rattle.transfer_header.specs.Told.{number_in}
use Rattle.server_runtime.specs.Serving.{followed_writes, frame_verdict, packet_frame, updates_of}
use Rattle.server_runtime.specs.Serving.{served_frame, served_store, served_updates}
use Rattle.switch_ir.specs.Emitted.{pre_code, post_code}
use Rattle.replay_state.specs.Program.{SplitProgram}

-- the whole program's runs, and what its parts make of frames, with room for so many rows in each write-back table
abbrev pub whole_of : Program → List Part → ℕ → SplitProgram
whole_of f split writeback = record {
  objects = f.objects;
  replicated = is_replicated f split;
  writeback = writeback;
  writes = followed_writes f split;
  pre_stages = (pre_code f split).highest;
  post_stages = (post_code f split).highest;
  after = flat_store f;
  verdict = flat_verdict f;
  changes = λ st packet. updates_of f split (flat_changes f st packet);
  is_fast = is_fast f split;
  up_frame = packet_frame f split (start_store f.objects);
  number_of = number_in;
  serve_after = served_store f split;
  serve_changes = served_updates f split;
  serve_down = served_frame f split;
  post = frame_verdict f split (start_store f.objects);
}

-- A program within bounds and a legal split of it, with at most so many writes to each replicated object as its
-- write-back table has rows, over objects whose declared rows are kept.
pub record IsSplit (f : Program) (split : List Part) (writeback : ℕ) : Type 0 where
  pub bounded : IsBounded f
  pub legal : IsLegal f split
  pub kept : IsKept f.objects (start_store f.objects)
  pub few : (o : ℕ) → writes f split o ≤ writeback
