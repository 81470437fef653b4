-- The rows of an object in rising order of their keys, as they lie in memory.
use Rattle.std.specs.Prelude.{ℕ, ◌<◌, ◌≤◌, ◌^◌, List, map, All, IsTrue}
use Rattle.state_store.specs.declared.object.Row.{Row}
use Rattle.state_store.specs.Packing.{have_room, parts}

-- the row that two numbers hold
abbrev pub row_of_numbers : ℕ → ℕ → List ℕ → List ℕ → ℕ × ℕ → Row
row_of_numbers key_bits value_bits keys values numbers =
    record { keys = parts key_bits keys numbers.0; values = parts value_bits values numbers.1 }

abbrev pub rows_of_numbers : ℕ → ℕ → List ℕ → List ℕ → List (ℕ × ℕ) → List Row
rows_of_numbers key_bits value_bits keys values numbers = map (row_of_numbers key_bits value_bits keys values) numbers

-- the numbers have room for rows of these widths, and no more bits than that
pub record HoldsRows (key_bits value_bits : ℕ) (keys values : List ℕ) (numbers : List (ℕ × ℕ)) : Type 0 where
  pub few_key_bits : key_bits ≤ 128
  pub few_value_bits : value_bits ≤ 128
  pub key_room : IsTrue (have_room key_bits keys)
  pub value_room : IsTrue (have_room value_bits values)
  pub keys_fit : All (λ n. n.0 < 2 ^ key_bits) numbers
  pub values_fit : All (λ n. n.1 < 2 ^ value_bits) numbers
