-- Where a packet's fields are, what they say, and what it is to set one.
use Rattle.std.specs.Prelude.{◌≡◌, ◌≢◌, ◌⊎◌, ℕ, ◌+◌, ◌*◌, ◌≤◌, List, length, Option, Some, unwrap_or, is_some}
use Rattle.std.specs.Prelude.{if◌then◌else◌}
use Rattle.std.specs.Option.{option_map}
use Rattle.packet_fields.specs.declared.field.Field.{Field}
use Rattle.packet_fields.specs.declared.field.Field.TheVariants.{MetaPort, MetaLen, HasIp, HasTcp, HasUdp}
use Rattle.packet_fields.specs.declared.shape.Shape.{Shape}
use Rattle.packet_fields.specs.Bits.{number_at, with_number_at}
use Rattle.packet_fields.specs.Shape.{shape_of, start_of}
use Rattle.packet_fields.specs.Table.{row}

-- the first bit of a field, where its header is there
unfoldable pub place : Shape → Field → Option ℕ
place shape f = option_map (λ start. 8 * start + (row f).at) (start_of shape (row f).header)

-- what is known of a packet besides its bytes, by its length, its headers and its port; 0 for a field that stands in a
-- header
abbrev pub meta_value : ℕ → Shape → ℕ → Field → ℕ
meta_value bytes shape port MetaPort = port
meta_value bytes shape port MetaLen = bytes
meta_value bytes shape port HasIp = if is_some shape.ip then 1 else 0
meta_value bytes shape port HasTcp = if is_some shape.tcp then 1 else 0
meta_value bytes shape port HasUdp = if is_some shape.udp then 1 else 0
meta_value bytes shape port _ = 0

-- the value of a field: the number in its bits, where its header is there
unfoldable pub field_value : List ℕ → ℕ → Field → ℕ
field_value bytes port f =
    unwrap_or (option_map (λ first. number_at bytes first (row f).width) (place (shape_of bytes) f))
    (meta_value (length bytes) (shape_of bytes) port f)

-- the packet after a field is set: its bits alone are replaced, where its header is there
unfoldable pub with_field : List ℕ → Field → ℕ → List ℕ
with_field bytes f value =
    unwrap_or (option_map (λ first. with_number_at bytes first (row f).width value) (place (shape_of bytes) f)) bytes

-- no two fields that are there have a bit in common
abbrev pub NoneOverlap : Shape → Type 0
NoneOverlap shape = (f g : Field) (i j : ℕ) → f ≢ g → place shape f ≡ Some i → place shape g ≡ Some j →
    (i + (row f).width ≤ j) ⊎ (j + (row g).width ≤ i)
