-- The two tables of one object on the switch, what a lookup sees of them, and what a command does to them.
use Rattle.std.specs.Prelude.{ℕ, Bool, true, false, ◌||◌, List, [], ◌∷◌, Option, Some, None, nat_lt, unwrap_or}
use Rattle.std.specs.Prelude.{replicate, if◌then◌else◌}
use Rattle.std.specs.FinMap as map
use Rattle.std.specs.FinMap.{FinMap}
use Rattle.state_store.specs.Store.{Contents, Object, key_cmp, object_at, put_answer, is_stored, put_row, del_row, rows_from, start_store}
use Rattle.state_store.specs.declared.object.ObjectDecl.{ObjectDecl}
use Rattle.state_store.specs.declared.object.Row.{Row}
use Rattle.writeback_table.specs.declared.command.To.{To}
use Rattle.writeback_table.specs.declared.command.To.TheVariants.{Value, Gone}
use Rattle.writeback_table.specs.declared.command.Update.{Update}
use Rattle.writeback_table.specs.declared.command.Command.{Command}
use Rattle.writeback_table.specs.declared.command.Command.TheVariants.{Stage, Main, Clear}

-- the rows of a write-back table: under a key the values that it is to have, or none where it is to be gone
abbrev pub Staged : Type 0
Staged = FinMap key_cmp (Option (List ℕ))

pub record Pair : Type 0 where
  pub main : Object
  pub staged : Staged
  -- how many rows may be staged
  pub room : ℕ

-- the tables of object o before any command: the main table is the object of the start store, and nothing is staged
abbrev pub first_pair : List ObjectDecl → ℕ → ℕ → Pair
first_pair objects writeback o = record { main = object_at (start_store objects) o; staged = map.empty; room = writeback }

-- ---- what a lookup sees

-- a table in which a key has these values, or no row
abbrev pub with_row : List ℕ → Option (List ℕ) → Contents → Contents
with_row key (Some values) rows = map.insert rows key values
with_row key None rows = map.remove rows key

-- a table in which each staged key has its values, or no row
abbrev pub with_staged : List (List ℕ × Option (List ℕ)) → Contents → Contents
with_staged [] rows = rows
with_staged (staged ∷ more) rows = with_row staged.0 staged.1 (with_staged more rows)

-- the table that lookups see: with bit 0 the main table, and with bit 1 that table with the write-back table over it
abbrev pub visible : Bool → Pair → Contents
visible false pair = pair.main.contents
visible true pair = with_staged (map.entries pair.staged) pair.main.contents

-- the values that a lookup sees under a key, if there are any
abbrev pub seen : Bool → Pair → List ℕ → Option (List ℕ)
seen bit pair key = map.get (visible bit pair) key

-- those values, or zeros
abbrev pub seen_or_zeros : Bool → Pair → List ℕ → List ℕ
seen_or_zeros bit pair key = unwrap_or (seen bit pair key) (replicate pair.main.count 0)

-- the rows that a lookup sees, in rising order of their keys
abbrev pub visible_rows : Bool → Pair → List Row
visible_rows bit pair = rows_from (map.entries (visible bit pair))

-- ---- what a command does

abbrev pub values_of : To → Option (List ℕ)
values_of (Value values) = Some values
values_of Gone = None

-- a change of an object
abbrev pub change_to : Object → List ℕ → To → Object
change_to object key (Value values) = put_row object key values
change_to object key Gone = del_row object key

abbrev pub changed : Object → Update → Object
changed object update = change_to object update.key update.to

-- whether an object has room for a change, as it always has for a row less
abbrev pub takes_to : Object → List ℕ → To → Bool
takes_to object key (Value values) = is_stored (put_answer object key)
takes_to object key Gone = true

abbrev pub takes : Object → Update → Bool
takes object update = takes_to object update.key update.to

-- whether a row may be staged under the key: one is already, or there is room for one more
abbrev pub can_stage : Staged → ℕ → List ℕ → Bool
can_stage rows room key = map.contains_key rows key || nat_lt (map.len rows) room

-- the staged rows with one more, where there is room for it
abbrev pub with_change : Staged → ℕ → Update → Staged
with_change rows room update =
    if can_stage rows room update.key then map.insert rows update.key (values_of update.to) else rows

-- whether the command finds room in the table that it touches
abbrev pub has_room : Pair → Command → Bool
has_room pair (Stage update) = can_stage pair.staged pair.room update.key
has_room pair (Main update) = takes pair.main update
has_room pair _ = true

-- the pair after a command that names its object, or none
abbrev pub applied : Pair → Command → Pair
applied pair (Stage update) = record pair { staged = with_change pair.staged pair.room update }
applied pair (Main update) = record pair { main = changed pair.main update }
applied pair (Clear object key) = record pair { staged = map.remove pair.staged key }
applied pair _ = pair
