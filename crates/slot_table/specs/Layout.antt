-- Rows that are laid out anew.
use Rattle.std.specs.Prelude.{◌≡◌, ℕ, ◌<◌, ◌≤◌, List, [], ◌∷◌, ◌++◌, length, set, Some, None}
use Rattle.std.specs.FinMap as map
use Rattle.slot_table.specs.Place.{home, steps}
use Rattle.slot_table.specs.Table.{Contents, Entry, Slots, rows_in}
use Rattle.slot_table.specs.Probing.{count_rows, IsFirstGap, IsTable}

-- the rows that slots hold, from the first slot on
abbrev pub slot_rows : Slots → List Entry
slot_rows [] = []
slot_rows (None ∷ slots) = slot_rows slots
slot_rows (Some row ∷ slots) = row ∷ slot_rows slots

-- the map of listed rows
abbrev pub map_of : List Entry → Contents
map_of [] = map.empty
map_of (row ∷ rows) = map.insert (map_of rows) row.0 row.1

-- slots whose rows can be laid out: no key stands twice, and not all slots are full
pub record CanLayOut (s : Slots) : Type 0 where
  pub distinct : map.len (rows_in s) ≡ count_rows s
  pub spare : count_rows s < length s

-- the same rows, laid out by a seed; the furthest lies so many steps from its home
pub record IsLaidAnew (seed far : ℕ) (old new : Slots) : Type 0 where
  pub table : IsTable seed far new (count_rows old) (count_rows old)
  pub rows : rows_in new ≡ rows_in old
  pub size : length new ≡ length old

-- a row was stored in the first empty slot from its home on, so many steps from there
pub record IsSettled (seed : ℕ) (old : Slots) (row : Entry) (new : Slots) (walked : ℕ) : Type 0 where
  pub at : ℕ
  pub first : IsFirstGap old (home seed (length old) row.0) at
  pub stored : new ≡ set old at (Some row)
  pub far : walked ≡ steps (length old) (home seed (length old) row.0) at

-- while rows are laid out: the slots before, the slots now, and the rows that aren't laid yet
pub record IsLaying (seed far : ℕ) (old s : Slots) (left : List Entry) : Type 0 where
  pub laid : List Entry
  pub all : left ++ laid ≡ slot_rows old
  pub table : IsTable seed far s (length laid) (count_rows old)
  pub rows : rows_in s ≡ map_of laid
  pub size : length s ≡ length old

-- the slots of a table, and empty memory beside them with room for its rows
pub record IsKept (seed far : ℕ) (s : Slots) (len capacity : ℕ) (spare : List Entry) (room : ℕ) : Type 0 where
  pub table : IsTable seed far s len capacity
  pub empty : spare ≡ []
  pub enough : capacity ≤ room
