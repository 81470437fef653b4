-- Rows by place.
use Rattle.std.specs.Prelude.{ℕ, suc, List, [], ◌∷◌, length}
use Rattle.std.specs.FinMap as map
use Rattle.state_store.specs.Fitted.{Fitted}
use Rattle.state_store.specs.Places.{Entries}
use Rattle.state_store.specs.Store.{Contents}

-- values with the numbers of their places, of which the first is i
unfoldable pub placed : ℕ → List (List ℕ) → Entries
placed i [] = []
placed i (values ∷ rows) = (i ∷ [], values) ∷ placed (suc i) rows

-- a row for each place: its number is the key
abbrev pub placed_contents : List (List ℕ) → Contents
placed_contents rows = map.from_sorted (placed 0 rows)

abbrev pub placed_rows : List ℕ → List ℕ → List (List ℕ) → Fitted
placed_rows keys values rows =
    record { keys = keys; values = values; capacity = length rows; contents = placed_contents rows }
