-- The values of a layout, and their bits.
use Rattle.std.specs.Prelude.{◌≡◌, ℕ, ◌%◌, ◌^◌, ◌<◌, List, [], ◌∷◌, ◌++◌}
use Rattle.std.specs.List.{All}
use Rattle.flat_ir.specs.Blocks.{Reading}
use Rattle.split_model.specs.declared.layout.Crossing.{Crossing}
pub use Rattle.split_model.specs.Counts.{total}
use Rattle.transfer_header.specs.Bits.{bits_of}

-- their bits, one value behind the other
unfoldable pub value_bits : List Crossing → (Crossing → ℕ) → List ℕ
value_bits [] values = []
value_bits (c ∷ cs) values = bits_of c.width (values c) ++ value_bits cs values

-- no value has more bits than its width
abbrev pub AreNarrow : List Crossing → (Crossing → ℕ) → Type 0
AreNarrow layout values = All (λ c. values c < 2 ^ c.width) layout

-- each value of the layout has the same number by both
abbrev pub Agree : List Crossing → (Crossing → ℕ) → (Crossing → ℕ) → Type 0
Agree layout values others = All (λ c. values c ≡ others c) layout

-- the number of a value in a reading
abbrev pub value_by : Reading → Crossing → ℕ
value_by reads c = reads c.value

-- of each value as many of its lowest bits as its width
abbrev pub low_bits : (Crossing → ℕ) → Crossing → ℕ
low_bits values c = values c % 2 ^ c.width
