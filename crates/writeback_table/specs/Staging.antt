-- A write-back table that is kept as two maps: the values that are staged, and the keys that are to be gone.
use Rattle.std.specs.Prelude.{◌≡◌, ◌≤◌, ◌+◌, ◌-◌, ℕ, Bool, if◌then◌else◌, List, [], ◌∷◌, Option, Some, None}
use Rattle.std.specs.FinMap as map
use Rattle.state_store.specs.Store.{Contents, Object, put_row, del_row}
use Rattle.state_store.specs.declared.object.Kind.TheVariants.{Map}
use Rattle.writeback_table.specs.declared.command.To.{To}
use Rattle.writeback_table.specs.declared.command.To.TheVariants.{Value, Gone}
use Rattle.writeback_table.specs.Pair.{Staged}

-- a write-back table: its rows, and how many it may have
pub record WriteBack : Type 0 where
  pub rows : Staged
  pub room : ℕ

-- all of the entries with their values put into other rows
abbrev pub put_all : (List ℕ → Option (List ℕ)) → List (List ℕ × List ℕ) → Staged → Staged
put_all f [] rows = rows
put_all f (e ∷ es) rows = map.insert (put_all f es rows) e.0 (f e.1)

abbrev pub joined : Contents → Contents → Staged
joined values gone = put_all (λ v. Some v) (map.entries values) (put_all (λ v. None) (map.entries gone) map.empty)

-- two maps of the same size, with so many rows in all
pub record IsCounted (values gone : Object) (count room : ℕ) : Type 0 where
  pub values_map : values.kind ≡ Map
  pub gone_map : gone.kind ≡ Map
  pub values_size : values.size ≡ room
  pub gone_size : gone.size ≡ room
  pub rows : map.len values.contents + map.len gone.contents ≤ count
  pub counted : map.len (joined values.contents gone.contents) ≡ count
  pub within : count ≤ room

-- the two maps after a change is staged
abbrev pub values_then : Object → List ℕ → To → Object
values_then values key (Value row) = put_row values key row
values_then values key Gone = del_row values key

abbrev pub gone_then : Object → List ℕ → To → Object
gone_then gone key (Value row) = del_row gone key
gone_then gone key Gone = put_row gone key []

-- the count after one row more, or one less
abbrev pub count_in : Bool → ℕ → ℕ
count_in known count = if known then count else count + 1

abbrev pub count_out : Bool → ℕ → ℕ
count_out known count = if known then count - 1 else count
