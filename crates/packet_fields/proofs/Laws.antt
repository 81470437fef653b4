-- What holds of every packet in which fields are set, as the definitions give it.
use Rattle.std.specs.List.{filter}
use Rattle.std.specs.Prelude.{Bool, IsSome, IsTrue, List, length, not, ℕ, ◌<◌, ◌^◌, ◌≡◌, ◌≢◌, ◌≤◌}
use Rattle.packet_fields.proofs.Alone.{own_value, small_after}
use Rattle.packet_fields.proofs.AnyOrder.{as_chosen, choices_in_order, listed_in_order, other-with_field, set-with_fields, two_parts, unset-with_fields, with_field_swapped}
use Rattle.packet_fields.specs.Fields.{field_value, place, with_field}
use Rattle.packet_fields.specs.Fitting.{value_fits}
use Rattle.packet_fields.specs.Several.{AreApart, AreBytes, AreDistinct, CanBeSet, Choice, IsAsChosen, IsSetTo, IsUnset, MayBeWritten, Setting, both_choices, choice_of, in_field_order, with_settings}
use Rattle.packet_fields.specs.Shape.{shape_of}
use Rattle.packet_fields.specs.Sizes.{largest_packet}
use Rattle.packet_fields.specs.Table.{row}
use Rattle.packet_fields.specs.declared.field.Field.{Field}

-- A field's value has no more bits than the field. Set to its own value a field leaves the packet, and set to any
-- value it leaves the other fields. Bytes stay bytes.
pub fields_stand_alone-fits : (bytes : List ℕ) (port : ℕ) (f : Field) → length bytes ≤ largest_packet → port < 2 ^ 8
    → field_value bytes port f < 2 ^ (row f).width
fields_stand_alone-fits = value_fits

pub fields_stand_alone-own : (bytes : List ℕ) (port : ℕ) (f : Field) → AreBytes bytes
    → with_field bytes f (field_value bytes port f) ≡ bytes
fields_stand_alone-own = own_value

pub fields_stand_alone-others : (bytes : List ℕ) (port : ℕ) (f g : Field) (value : ℕ) → IsTrue (row f).writable → f ≢ g
    → field_value (with_field bytes f value) port g ≡ field_value bytes port g
fields_stand_alone-others = λ bytes port f g value. other-with_field bytes f g value port

pub fields_stand_alone-bytes : (bytes : List ℕ) (f : Field) (value : ℕ) → AreBytes bytes → AreBytes (with_field bytes f value)
fields_stand_alone-bytes = small_after

-- Fields make the same packet in whatever order they are set: two of them; those of a list and the same in field
-- order; those of a list that a test picks and then its others; some and then others, each time in field order.
pub fields_in_any_order-two : (bytes : List ℕ) (f g : Field) (v w : ℕ) → IsTrue (row f).writable → IsTrue (row g).writable → f ≢ g
    → with_field (with_field bytes f v) g w ≡ with_field (with_field bytes g w) f v
fields_in_any_order-two = with_field_swapped

pub fields_in_any_order-list : (bytes : List ℕ) (settings : List Setting) → CanBeSet settings → AreDistinct settings
    → with_settings bytes settings ≡ in_field_order bytes (choice_of settings)
fields_in_any_order-list = λ bytes settings. listed_in_order settings bytes

pub fields_in_any_order-parts : (bytes : List ℕ) (settings : List Setting) (test : Setting → Bool)
    → CanBeSet settings → AreDistinct settings
    → with_settings (with_settings bytes (filter test settings)) (filter (λ s. not (test s)) settings)
    ≡ with_settings bytes settings
fields_in_any_order-parts = λ bytes settings. two_parts settings bytes

pub fields_in_any_order-choices : (bytes : List ℕ) (first second : Choice)
    → MayBeWritten first → MayBeWritten second → AreApart first second
    → in_field_order (in_field_order bytes first) second ≡ in_field_order bytes (both_choices first second)
fields_in_any_order-choices = choices_in_order

-- A field that is there reads as it was set, and one that isn't set reads as before.
pub fields_read_as_set-set : (bytes : List ℕ) (settings : List Setting) (f : Field) (value port : ℕ)
    → CanBeSet settings → AreDistinct settings → IsSetTo settings f value → IsSome (place (shape_of bytes) f)
    → field_value (with_settings bytes settings) port f ≡ value
fields_read_as_set-set = λ bytes settings. set-with_fields settings bytes

pub fields_read_as_set-unset : (bytes : List ℕ) (settings : List Setting) (f : Field) (port : ℕ)
    → CanBeSet settings → IsUnset settings f
    → field_value (with_settings bytes settings) port f ≡ field_value bytes port f
fields_read_as_set-unset = λ bytes settings. unset-with_fields settings bytes

pub fields_read_as_set-chosen : (bytes : List ℕ) (choice : Choice) → MayBeWritten choice
    → IsAsChosen bytes (in_field_order bytes choice) choice
fields_read_as_set-chosen = as_chosen
