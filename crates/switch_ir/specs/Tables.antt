-- The tables on a switch, and what lookups see of them.
use Rattle.std.specs.Prelude.{◌≡◌, ◌<◌, length, ℕ, ◌==◌, Bool, true, false, List, [], ◌∷◌, map, Option, Some, None}
use Rattle.std.specs.Prelude.{if◌then◌else◌, unwrap_or, slice_get, slice_set}
use Rattle.std.specs.FinMap as finmap
use Rattle.state_store.specs.Kinds.{is_table}
use Rattle.state_store.specs.Store.{Object, Store, start_object, no_object}
use Rattle.state_store.specs.declared.object.ObjectDecl.{ObjectDecl}
use Rattle.writeback_table.specs.declared.command.Command.{Command}
use Rattle.writeback_table.specs.declared.command.Command.TheVariants.{Stage, Main, Clear}
use Rattle.writeback_table.specs.Pair.{Pair, visible, applied, has_room}
use Rattle.writeback_table.specs.Commands.{bit_after}
use Rattle.switch_ir.specs.Passes.{Code}
use Rattle.switch_ir.specs.declared.code.Table.{Table}

-- the tables of each object, by its number, and the bit
pub record Told : Type 0 where
  pub pairs : List Pair
  pub bit : Bool

-- tables without rows, and with room for none
abbrev pub no_pair : Pair
no_pair = record { main = no_object; staged = finmap.empty; room = 0 }

abbrev pub pair_at : List Pair → ℕ → Pair
pair_at pairs o = unwrap_or (slice_get pairs o) no_pair

-- ## What lookups see

-- an object as lookups see it
abbrev pub seen_object : Bool → Pair → Object
seen_object bit pair = record pair.main { contents = visible bit pair }

-- the tables as lookups see them that go by this bit
abbrev pub view_of : Bool → List Pair → Store
view_of bit pairs = map (seen_object bit) pairs

-- the tables as lookups see them now
abbrev pub seen_tables : Told → Store
seen_tables told = view_of told.bit told.pairs

-- ## What they start with

-- the declaration of an object, if the code looks it up
abbrev pub declared_at : List Table → ℕ → Option ObjectDecl
declared_at [] o = None
declared_at (t ∷ ts) o = if t.number == o then Some t.object else declared_at ts o

-- how many rows an object's write-back table has room for: none where the object can't change
abbrev pub staging_room : ℕ → ObjectDecl → ℕ
staging_room writeback d = if is_table d.kind then 0 else writeback

abbrev pub start_pair : ℕ → Option ObjectDecl → Pair
start_pair writeback None = no_pair
start_pair writeback (Some d) =
    record { main = start_object d; staged = finmap.empty; room = staging_room writeback d }

-- the tables before any command, with bit 0
pub record IsStart (code : Code) (told : Told) : Type 0 where
  -- there are tables for each object that the code looks up
  pub there : (o : ℕ) (d : ObjectDecl) → declared_at code.tables o ≡ Some d → o < length told.pairs
  pub pairs : (o : ℕ) → pair_at told.pairs o ≡ start_pair code.writeback (declared_at code.tables o)
  pub bit : told.bit ≡ false

-- ## Commands

-- the tables after a command that changes those of this object
abbrev pub with_command : List Pair → ℕ → Command → List Pair
with_command pairs o command = slice_set pairs o (applied (pair_at pairs o) command)

abbrev pub pairs_after : List Pair → Command → List Pair
pairs_after pairs (Stage update) = with_command pairs update.object (Stage update)
pairs_after pairs (Main update) = with_command pairs update.object (Main update)
pairs_after pairs (Clear object key) = with_command pairs object (Clear object key)
pairs_after pairs _ = pairs

abbrev pub told_after : Command → Told → Told
told_after command told = record { pairs = pairs_after told.pairs command; bit = bit_after told.bit command }

-- the table that a command touches has room for it
abbrev pub has_room_in : List Pair → Command → Bool
has_room_in pairs (Stage update) = has_room (pair_at pairs update.object) (Stage update)
has_room_in pairs (Main update) = has_room (pair_at pairs update.object) (Main update)
has_room_in pairs _ = true
