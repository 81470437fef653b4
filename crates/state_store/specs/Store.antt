-- A store: for each object a finite map from key lists to value lists.
use Rattle.std.specs.Prelude.{ℕ, zero, suc, Bool, true, false, not, ◌&&◌, List, [], ◌∷◌, length, slice_index, slice_get}
use Rattle.std.specs.Prelude.{slice_set, replicate, Option, unwrap_or, nat_le, if◌then◌else◌}
use Rattle.std.specs.FinMap as map
pub use Rattle.slot_table.specs.Table.{key_cmp, Contents}
use Rattle.state_store.specs.declared.object.Kind.{Kind}
use Rattle.state_store.specs.declared.object.Kind.TheVariants.{Table, Map, Vector, Int}
use Rattle.state_store.specs.declared.store.Put.{Put}
use Rattle.state_store.specs.declared.store.Put.TheVariants.{Stored, Full, OutOfRange}
use Rattle.state_store.specs.declared.object.Row.{Row}
use Rattle.state_store.specs.declared.object.ObjectDecl.{ObjectDecl}

-- an object at work
pub record Object : Type 0 where
  pub kind : Kind
  -- the capacity of a map, and the length of a vector
  pub size : ℕ
  -- how many numbers a value has
  pub count : ℕ
  pub contents : Contents

abbrev pub Store : Type 0
Store = List Object

-- the rows of a declaration; of two with one key the later one counts
abbrev pub with_rows : List Row → Contents → Contents
with_rows [] contents = contents
with_rows (row ∷ rows) contents = with_rows rows (map.insert contents row.keys row.values)

-- a row of zeros for each index from i on, n of them
abbrev pub zeros_from : ℕ → ℕ → ℕ → Contents → Contents
zeros_from zero i width contents = contents
zeros_from (suc n) i width contents = zeros_from n (suc i) width (map.insert contents (i ∷ []) (replicate width 0))

-- what an object starts with
abbrev pub start_contents : Kind → ObjectDecl → Contents
start_contents Table object = with_rows object.rows map.empty
start_contents Map object = map.empty
start_contents Vector object = zeros_from object.size 0 (length object.values) map.empty
start_contents Int object = map.insert map.empty [] (object.start ∷ [])

abbrev pub start_object : ObjectDecl → Object
start_object object = record {
  kind = object.kind;
  size = object.size;
  count = length object.values;
  contents = start_contents object.kind object;
}

-- the store that a run starts with
abbrev pub start_store : List ObjectDecl → Store
start_store [] = []
start_store (object ∷ objects) = start_object object ∷ start_store objects

-- the values under a key, if there are any
abbrev pub look : Object → List ℕ → Option (List ℕ)
look object key = map.get object.contents key

-- what a look binds: the values under a key, or zeros
abbrev pub looked_up : Object → List ℕ → List ℕ
looked_up object key = unwrap_or (look object key) (replicate object.count 0)

-- a vector has no such index
abbrev pub is_out : Kind → ℕ → List ℕ → Bool
is_out Vector size key = nat_le size (slice_index key 0)
is_out _ size key = false

-- the key is new, and there is no room for one more
abbrev pub is_full : Object → List ℕ → Bool
is_full object key = not (map.contains_key object.contents key) && nat_le object.size (map.len object.contents)

-- what a put answers
abbrev pub put_answer : Object → List ℕ → Put
put_answer object key = if is_out object.kind object.size key then OutOfRange
    else (if is_full object key then Full else Stored)

-- whether a put had a place for its row
abbrev pub is_stored : Put → Bool
is_stored Stored = true
is_stored _ = false

-- a put sets one row, and changes nothing where the key has no place
abbrev pub put_row : Object → List ℕ → List ℕ → Object
put_row object key values =
    if is_out object.kind object.size key then object
    else (if is_full object key then object else record object { contents = map.insert object.contents key values })

-- a del removes one row
abbrev pub del_row : Object → List ℕ → Object
del_row object key = record object { contents = map.remove object.contents key }

-- the rows of an object, in rising order of keys
abbrev pub row_of : List ℕ × List ℕ → Row
row_of entry = record { keys = entry.0; values = entry.1 }

abbrev pub rows_from : List (List ℕ × List ℕ) → List Row
rows_from [] = []
rows_from (entry ∷ entries) = row_of entry ∷ rows_from entries

abbrev pub rows_of : Object → List Row
rows_of object = rows_from (map.entries object.contents)

-- the object of a number; where there is none, an object without rows
abbrev pub no_object : Object
no_object = record { kind = Map; size = 0; count = 0; contents = map.empty }

abbrev pub object_at : Store → ℕ → Object
object_at store number = unwrap_or (slice_get store number) no_object

-- a store in which the object of a number is another
abbrev pub with_object : Store → ℕ → Object → Store
with_object store number object = slice_set store number object
