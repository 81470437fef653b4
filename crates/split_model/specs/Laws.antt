-- What holds of the parts of a split program.
use Rattle.std.specs.Prelude.{◌≡◌, ◌<◌, ◌^◌, ℕ, Bool, true, false, not, ◌&&◌, ◌||◌, List, [], Option, Some, None}
use Rattle.std.specs.Prelude.{if◌then◌else◌, length, slice_get}
use Rattle.packet_fields.specs.declared.packet.Packet.{Packet}
use Rattle.state_store.specs.declared.object.ObjectDecl.{ObjectDecl}
use Rattle.state_store.specs.Kept.{IsKept}
use Rattle.state_store.specs.Kinds.{is_table}
use Rattle.state_store.specs.Store.{Store, object_at, start_object}
use Rattle.flat_ir.specs.declared.program.ValueId.{ValueId}
use Rattle.flat_ir.specs.Program.{Program, step_at, operands, width_of_value}
use Rattle.flat_ir.specs.Blocks.{Reading}
use Rattle.flat_ir.specs.Kinds.{is_const, is_input, is_mutable_look, is_write}
use Rattle.flat_ir.specs.Run.{flat_run, flat_store, flat_changes, flat_verdict}
use Rattle.split_model.specs.declared.split.Part.{Part}
use Rattle.split_model.specs.Split.{is_carried, is_post, is_pre, any_step}
use Rattle.split_model.specs.Counts.{is_post_shown}
use Rattle.split_model.specs.Crossing.{crosses_up, crosses_down, is_among, is_written_value}
use Rattle.split_model.specs.Passes.{pre_verdict, pre_values, is_fast, meets_rest, AgreeOnShown, IsHanded, server_run}
use Rattle.split_model.specs.Passes.{replicated_changes, post_values, post_verdict, sent_down, down_verdict}
use Rattle.split_model.specs.Shown.{is_shown, is_replicated}

-- Preprocessing finishes a packet exactly where it is fast over the store that the tables show, with the whole run's
-- verdict; and a fast packet leaves the store.
pub record IsExact (f : Program) (split : List Part) (st tables : Store) (packet : Packet) : Type 0 where
  pub finishes : not (meets_rest f split (pre_values f split tables packet)) ≡ is_fast f split st packet
  pub verdict : pre_verdict f split tables packet
      ≡ (if is_fast f split st packet then Some (flat_verdict f st packet) else None)
  pub store : is_fast f split st packet ≡ true → flat_store f st packet ≡ st
  pub changes : is_fast f split st packet ≡ true → flat_changes f st packet ≡ []

-- the constant tables that a pass looks up have their declared rows
pub record HasDeclaredTables (f : Program) (split : List Part) (tables : Store) : Type 0 where
  pub rows : (o : ℕ) (d : ObjectDecl) → slice_get f.objects o ≡ Some d → is_table d.kind ≡ true
      → (is_shown f split o || is_post_shown f split o) ≡ true → object_at tables o ≡ start_object d

-- the tables have the store's replicated objects
abbrev pub ShowsReplicated : Program → List Part → Store → Store → Type 0
ShowsReplicated f split st tables = (o : ℕ) → is_replicated f split o ≡ true → object_at tables o ≡ object_at st o

-- the carried values of a pass over any tables are those of the whole run over any store
abbrev pub CarriedStand : Program → List Part → Store → Store → Packet → Type 0
CarriedStand f split st tables packet =
    (v : ValueId) → is_carried split v.instruction ≡ true
    → pre_values f split tables packet v ≡ (flat_run f st packet).reads v

-- A packet that goes up with the numbers of a pass over any tables, through the server and down leaves the store, the
-- changes and the verdict of the whole run from the server's store.
pub record IsWhole (f : Program) (split : List Part) (st tables : Store) (packet : Packet) (up down : Reading)
    : Type 0 where
  pub store : (server_run f split up st packet).store ≡ flat_store f st packet
  pub changes : (server_run f split up st packet).changes ≡ flat_changes f st packet
  pub verdict : IsHanded (crosses_down f split) (server_run f split up st packet).reads down
      → post_verdict f split (server_run f split up st packet).reads down tables packet ≡ flat_verdict f st packet

-- Whether a packet is fast, and its verdict then, hang on what preprocessing reads of the store alone; and a run that
-- changes no replicated object leaves what it reads.
pub record IsShownAlone (f : Program) (split : List Part) (st : Store) (packet : Packet) : Type 0 where
  pub fast : (other : Store) → AgreeOnShown f split other st → is_fast f split other packet ≡ is_fast f split st packet
  pub verdict : (other : Store) → AgreeOnShown f split other st → is_fast f split st packet ≡ true
      → flat_verdict f other packet ≡ flat_verdict f st packet
  pub leaves : replicated_changes f split (flat_changes f st packet) ≡ [] → AgreeOnShown f split (flat_store f st packet) st

-- Where the numbers that are handed up are the same, so are the store and the changes that the server leaves, and its
-- numbers of values that cross down or that it sets fields to.
pub record IsServedAlike (f : Program) (split : List Part) (st : Store) (packet : Packet) (up other : Reading)
    : Type 0 where
  pub store : (server_run f split other st packet).store ≡ (server_run f split up st packet).store
  pub changes : (server_run f split other st packet).changes ≡ (server_run f split up st packet).changes
  pub down : IsHanded (crosses_down f split) (server_run f split up st packet).reads
      (server_run f split other st packet).reads
  pub written : IsHanded (is_written_value f split) (server_run f split up st packet).reads
      (server_run f split other st packet).reads

-- Where the numbers that are handed down are the same, and the server's numbers for fields, so are the values of
-- postprocessing and its verdict.
pub record IsSentAlike (f : Program) (split : List Part) (tables : Store) (packet : Packet)
    (server down other_server other_down : Reading) : Type 0 where
  pub values : (v : ValueId) → post_values f split other_down tables packet v ≡ post_values f split down tables packet v
  pub verdict : post_verdict f split other_server other_down tables packet
      ≡ post_verdict f split server down tables packet

-- Postprocessing reads the packet that the server sends down as it would read the packet that arrived, and with its own
-- fields it makes of it the packet with all fields set.
pub record IsSentDown (f : Program) (split : List Part) (tables : Store) (packet : Packet) (server down : Reading)
    : Type 0 where
  pub values : (v : ValueId) → post_values f split down tables (sent_down f split server packet) v
      ≡ post_values f split down tables packet v
  pub verdict : down_verdict f split down tables (sent_down f split server packet)
      ≡ post_verdict f split server down tables packet

-- Over other tables that have the declared constant ones, postprocessing has the same values and the same verdict.
pub record IsPostedAlike (f : Program) (split : List Part) (tables other : Store) (packet : Packet) (down : Reading)
    : Type 0 where
  pub values : (v : ValueId) → post_values f split down other packet v ≡ post_values f split down tables packet v
  pub verdict : down_verdict f split down other packet ≡ down_verdict f split down tables packet

-- where values cross, the numbers have no more bits than the values' widths
abbrev pub FitAcross : Program → (ValueId → Bool) → Reading → Type 0
FitAcross f crosses reads = (v : ValueId) → crosses v ≡ true → reads v < 2 ^ width_of_value f v

-- the server leaves a store that keeps what was declared, and its numbers of values that cross down or that it sets
-- fields to fit
pub record IsServedWithin (f : Program) (split : List Part) (st : Store) (packet : Packet) (up : Reading) : Type 0 where
  pub kept : IsKept f.objects (server_run f split up st packet).store
  pub down : FitAcross f (crosses_down f split) (server_run f split up st packet).reads
  pub written : FitAcross f (is_written_value f split) (server_run f split up st packet).reads

-- Every part of the split has work: preprocessing looks up rows that can change, the server writes, values cross up and
-- down, and postprocessing computes more than it is handed.
pub record HasEveryPart (f : Program) (split : List Part) : Type 0 where
  pub looks : any_step f (λ i. is_pre split i && is_mutable_look f (step_at f i).work) ≡ true
  pub writes : any_step f (λ i. is_write (step_at f i).work) ≡ true
  pub up : (v : ValueId) × (crosses_up f split v ≡ true)
  pub down : (v : ValueId) × (crosses_down f split v ≡ true)
  pub adds : any_step f (λ i. is_post split i && not (is_const (step_at f i).work)) ≡ true

-- A pass goes by stages: consts and fields have stage 0, all else a stage above it, and what an instruction reads of
-- its own pass is written at a lower stage.
pub record GoesByStages (f : Program) (stage : ℕ → Option ℕ) : Type 0 where
  pub inputs : (i own : ℕ) → i < length f.code → stage i ≡ Some own → is_input (step_at f i).work ≡ true → own ≡ 0
  pub others : (i own : ℕ) → i < length f.code → stage i ≡ Some own → is_input (step_at f i).work ≡ false → 0 < own
  pub reads : (i own written : ℕ) (v : ValueId) → i < length f.code → stage i ≡ Some own
      → is_among v (operands (step_at f i).work) ≡ true → stage v.instruction ≡ Some written → written < own
