-- A field set to its own value leaves the packet, and bytes stay bytes.
use Rattle.std.proofs.Common.{◌≡◌, ℕ, ◌+◌, ◌-◌, ◌*◌, ◌^◌, ◌<◌, ◌≤◌, List, length, refl, sym, ap, ◌∙◌, subst, arith, lit<, Option, Some, None, ⊎_elim}
use Rattle.std.proofs.lemmas.Bool.{cases_lt}
use Rattle.std.proofs.lemmas.List.{get_or_past}
use Rattle.std.specs.Int.{bit_at}
use Rattle.packet_fields.specs.declared.field.Field.{Field}
use Rattle.packet_fields.specs.Bits.{bit_of, spelled, replaced, bytes_of, number_at, with_number_at}
use Rattle.packet_fields.specs.Fields.{place, field_value, with_field}
use Rattle.packet_fields.specs.Several.{AreBytes}
use Rattle.packet_fields.specs.Shape.{shape_of}
use Rattle.packet_fields.specs.Table.{row}
use Rattle.packet_fields.specs.Fitting.{AreBits, bit_of-lt, spelled-lt}
use Rattle.packet_fields.proofs.BitRows.{spelled-middle, spelled-one, spelled-same, replaced_inside, replaced_before, replaced_behind, replaced-lt, byte_of, length-bytes_of, get_or-bytes_of, is_bytes_of}
use Rattle.packet_fields.proofs.SetFields.{value_there, with_field_there, with_field_absent}

-- a bit of the number that a range spells
own_bit : (row : ℕ → ℕ) (s w n : ℕ) → AreBits row → s ≤ n → n < s + w → bit_at (spelled row s w) (s + w - 1 - n) ≡ row n
own_bit row s w n bits from below =
    let t = s + w - 1 - n in
    let u = n - s in
    let parts : w ≡ u + 1 + t = omega (arith, from, below) in
    let place : s + u ≡ n = omega (arith, from) in
    ap (λ x. bit_at (spelled row s x) t) parts ∙ spelled-middle row s u 1 t bits ∙ spelled-one row (s + u) ∙ ap row place

own_row : (row : ℕ → ℕ) (s w n : ℕ) → AreBits row → replaced row s w (spelled row s w) n ≡ row n
own_row row s w n bits =
    ⊎_elim
    (λ before. replaced_before row s w (spelled row s w) n before)
    (λ from.
    ⊎_elim
    (λ below. replaced_inside row s w (spelled row s w) n from below ∙ own_bit row s w n bits from below)
    (λ behind. replaced_behind row s w (spelled row s w) n behind)
    (cases_lt n (s + w)))
    (cases_lt n s)

-- a number written over itself
own_number : (bytes : List ℕ) (s w : ℕ) → AreBytes bytes → with_number_at bytes s w (number_at bytes s w) ≡ bytes
own_number bytes s w are =
    let row = replaced (bit_of bytes) s w (spelled (bit_of bytes) s w) in
    sym (is_bytes_of row bytes (length bytes) refl (λ i lt.
    sym (spelled-same row (bit_of bytes) (8 * i) 8 (λ n from below. own_row (bit_of bytes) s w n (bit_of-lt bytes)) ∙ byte_of bytes i (are i))))

own_by : (bytes : List ℕ) (f : Field) (port : ℕ) → AreBytes bytes → (o : Option ℕ) → place (shape_of bytes) f ≡ o → with_field bytes f (field_value bytes port f) ≡ bytes
own_by bytes f port are None at = sym (with_field_absent bytes (shape_of bytes) f (field_value bytes port f) refl (sym at))
own_by bytes f port are (Some first) at =
    with_field_there bytes f first (field_value bytes port f) at
    ∙ ap (with_number_at bytes first (row f).width) (value_there bytes port f first at)
    ∙ own_number bytes first (row f).width are

pub own_value : (bytes : List ℕ) (port : ℕ) (f : Field) → AreBytes bytes → with_field bytes f (field_value bytes port f) ≡ bytes
own_value bytes port f are = own_by bytes f port are (place (shape_of bytes) f) refl

number_small : (bytes : List ℕ) (s w value : ℕ) → AreBytes (with_number_at bytes s w value)
number_small bytes s w value i =
    let row = replaced (bit_of bytes) s w value in
    let made = bytes_of row (length bytes) in
    ⊎_elim
    (λ lt. subst (λ n. n < 2 ^ 8) (sym (get_or-bytes_of row (length bytes) i lt)) (spelled-lt row (8 * i) 8 (replaced-lt (bit_of bytes) s w value (bit_of-lt bytes))))
    (λ le. subst (λ n. n < 2 ^ 8) (sym (get_or_past made i 0 (omega (arith, le, length-bytes_of row (length bytes))))) (lit< tt))
    (cases_lt i (length bytes))

small_by : (bytes : List ℕ) (f : Field) (value : ℕ) → AreBytes bytes → (o : Option ℕ) → place (shape_of bytes) f ≡ o → AreBytes (with_field bytes f value)
small_by bytes f value are None at = subst AreBytes (with_field_absent bytes (shape_of bytes) f value refl (sym at)) are
small_by bytes f value are (Some first) at = subst AreBytes (sym (with_field_there bytes f first value at)) (number_small bytes first (row f).width value)

pub small_after : (bytes : List ℕ) (f : Field) (value : ℕ) → AreBytes bytes → AreBytes (with_field bytes f value)
small_after bytes f value are = small_by bytes f value are (place (shape_of bytes) f) refl
