-- How rows lie in memory.
use Rattle.std.specs.Prelude.{◌≡◌, ⊤, ℕ, ◌+◌, ◌≤◌, List, map, take, drop}
use Rattle.state_store.specs.declared.object.Row.{Row}
use Rattle.state_store.specs.declared.rows.Form.{Form}
use Rattle.state_store.specs.declared.rows.Form.TheVariants.{Even, Mixed}

-- the row whose key has so many of these numbers
abbrev pub row_of_list : ℕ → List ℕ → Row
row_of_list keys numbers = record { keys = take keys numbers; values = drop keys numbers }

abbrev pub rows_in : Form → List Row
rows_in (Even keys values lists) = map (row_of_list keys) lists.lists
rows_in (Mixed rows) = rows.items

abbrev pub keys_in : Form → ℕ
keys_in (Even keys values lists) = keys
keys_in (Mixed rows) = 0

abbrev pub values_in : Form → ℕ
values_in (Even keys values lists) = values
values_in (Mixed rows) = 0

abbrev pub width_in : Form → ℕ
width_in (Even keys values lists) = lists.width
width_in (Mixed rows) = 0

-- each list is a key and its values, which have at most 8 numbers each
pub record IsShaped (form : Form) : Type 0 where
  pub keys : keys_in form ≤ 8
  pub values : values_in form ≤ 8
  pub width : width_in form ≡ keys_in form + values_in form

-- a row of so many numbers has as many as the others, where that matters
abbrev pub HasRoomFor : Form → ℕ → ℕ → Type 0
HasRoomFor (Even keys values lists) key_count value_count = (key_count ≡ keys) × (value_count ≡ values)
HasRoomFor (Mixed rows) key_count value_count = ⊤
