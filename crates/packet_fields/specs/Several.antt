-- Several fields of a packet, set one after another and in field order.
use Rattle.std.specs.Prelude.{◌≡◌, ◌≢◌, ◌⊎◌, ℕ, ◌==◌, ◌^◌, ◌<◌, List, [], ◌∷◌, length, slice_index, Option, Some, None}
use Rattle.std.specs.Prelude.{IsSome, IsTrue, if◌then◌else◌}
use Rattle.packet_fields.specs.declared.field.Field.{Field}
use Rattle.packet_fields.specs.Fields.{place, field_value, with_field}
use Rattle.packet_fields.specs.Shape.{shape_of}
use Rattle.packet_fields.specs.Table.{row, all_fields, field_index}

-- each number is that of a byte
abbrev pub AreBytes : List ℕ → Type 0
AreBytes bytes = (i : ℕ) → slice_index bytes i < 2 ^ 8

-- a field, and the value that it is to have
pub record Setting : Type 0 where
  pub field : Field
  pub value : ℕ

-- the packet after the fields of a list are set, one after another
abbrev pub with_settings : List ℕ → List Setting → List ℕ
with_settings bytes [] = bytes
with_settings bytes (s ∷ ss) = with_settings (with_field bytes s.field s.value) ss

-- each field of a list may be written, and its value has no more bits than the field
abbrev pub CanBeSet : List Setting → Type 0
CanBeSet [] = Unit {0}
CanBeSet (s ∷ ss) = IsTrue (row s.field).writable × (s.value < 2 ^ (row s.field).width) × CanBeSet ss

-- no entry of a list sets this field
abbrev pub IsUnset : List Setting → Field → Type 0
IsUnset [] f = Unit {0}
IsUnset (s ∷ ss) f = (s.field ≢ f) × IsUnset ss f

-- no field stands in a list twice
abbrev pub AreDistinct : List Setting → Type 0
AreDistinct [] = Unit {0}
AreDistinct (s ∷ ss) = IsUnset ss s.field × AreDistinct ss

-- some entry of a list sets this field to this value
abbrev pub IsSetTo : List Setting → Field → ℕ → Type 0
IsSetTo [] f value = ⊥
IsSetTo (s ∷ ss) f value = ((s.field ≡ f) × (s.value ≡ value)) ⊎ IsSetTo ss f value

-- for each field the value that it is to have, if it is to be set
abbrev pub Choice : Type 0
Choice = Field → Option ℕ

-- the packet after a field is set, if it is to be
abbrev pub with_chosen : List ℕ → Field → Option ℕ → List ℕ
with_chosen bytes f None = bytes
with_chosen bytes f (Some value) = with_field bytes f value

-- the packet after those of these fields are set that are to be, in this order
abbrev pub with_each : List ℕ → Choice → List Field → List ℕ
with_each bytes choice [] = bytes
with_each bytes choice (f ∷ fs) = with_each (with_chosen bytes f (choice f)) choice fs

-- the packet after all fields that are to be set are set, in field order
abbrev pub in_field_order : List ℕ → Choice → List ℕ
in_field_order bytes choice = with_each bytes choice all_fields

-- what a list sets; of entries for one field the first
abbrev pub choice_of : List Setting → Choice
choice_of [] f = None
choice_of (s ∷ ss) f = if field_index s.field == field_index f then Some s.value else choice_of ss f

-- what one choice sets, and what the other sets besides
abbrev pub or_else : Option ℕ → Option ℕ → Option ℕ
or_else None other = other
or_else (Some value) other = Some value

abbrev pub both_choices : Choice → Choice → Choice
both_choices first second f = or_else (first f) (second f)

-- only fields that may be written are set
abbrev pub MayBeWritten : Choice → Type 0
MayBeWritten choice = (f : Field) (value : ℕ) → choice f ≡ Some value → IsTrue (row f).writable

-- no field is set by both
abbrev pub AreApart : Choice → Choice → Type 0
AreApart first second = (f : Field) (value : ℕ) → first f ≡ Some value → second f ≡ None

-- what a packet becomes in which all fields that are to be set are set
pub record IsAsChosen (bytes next : List ℕ) (choice : Choice) : Type 0 where
  pub shape : shape_of next ≡ shape_of bytes
  pub same_length : length next ≡ length bytes
  pub others : (f : Field) (port : ℕ) → choice f ≡ None → field_value next port f ≡ field_value bytes port f
  pub chosen : (f : Field) (value port : ℕ) → choice f ≡ Some value → value < 2 ^ (row f).width
      → IsSome (place (shape_of bytes) f) → field_value next port f ≡ value
