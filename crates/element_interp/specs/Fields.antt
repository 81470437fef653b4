-- The fields of a packet as variables.
use Rattle.std.specs.Prelude.{◌≡◌, ℕ, ◌<◌, ◌^◌, List, [], ◌∷◌, map, length, get_or, unwrap_or, if◌then◌else◌, Option, Some, None}
use Rattle.packet_fields.specs.declared.field.Field.{Field}
use Rattle.packet_fields.specs.Table.{row, all_fields, field_count, field_index}
use Rattle.packet_fields.specs.Fields.{field_value}
use Rattle.packet_fields.specs.Several.{with_chosen}

-- there is a place for each field, and what is assigned fits its field
pub record AreAssigned (assigned : List (Option ℕ)) : Type 0 where
  pub sized : length assigned ≡ field_count
  pub fit : (f : Field) (value : ℕ) → get_or assigned (field_index f) None ≡ Some value → value < 2 ^ (row f).width

-- the values of the fields of a packet as it arrived
abbrev pub arrived : List ℕ → ℕ → List ℕ
arrived bytes port = map (field_value bytes port) all_fields

-- each value that is assigned, and else the one below it
abbrev pub over : List (Option ℕ) → List ℕ → List ℕ
over [] values = values
over (a ∷ more) [] = []
over (a ∷ more) (v ∷ vs) = unwrap_or a v ∷ over more vs

-- the values of the fields of a packet, of which some are assigned
unfoldable pub fields_over : List (Option ℕ) → List ℕ → ℕ → List ℕ
fields_over assigned bytes port = over assigned (arrived bytes port)

-- the packet after a field is written, if it is assigned and can be written
abbrev pub with_assigned : List (Option ℕ) → List ℕ → Field → List ℕ
with_assigned assigned bytes f =
    if (row f).writable then with_chosen bytes f (get_or assigned (field_index f) None) else bytes
