-- A field that is set takes the lowest bits of a number.
use Rattle.std.proofs.Common.{◌≡◌, ℕ, ◌+◌, ◌-◌, ◌%◌, ◌^◌, ◌<◌, ◌≤◌, ◌&&◌, Bool, true, false, List, length, nat_le, nat_lt, refl, ap, arith, unwrap_or, if◌then◌else◌}
use Rattle.std.proofs.lemmas.Bool.{and_parts, leb-true, ltb-true}
use Rattle.std.specs.Int.{bit_at}
use Rattle.std.specs.Option.{option_map}
use Rattle.packet_fields.specs.declared.field.Field.{Field}
use Rattle.packet_fields.specs.Bits.{bit_of, bytes_of, replaced}
use Rattle.packet_fields.specs.Fields.{place, with_field}
use Rattle.packet_fields.specs.Shape.{shape_of}
use Rattle.packet_fields.specs.Table.{row}
use Rattle.lemmas.proofs.Numbers.{bit_at-low}

-- a choice between numbers of which the first is the same where it is taken
first_same : (b : Bool) (x x' y : ℕ) → (b ≡ true → x ≡ x') → (if b then x else y) ≡ (if b then x' else y)
first_same true x x' y e = e refl
first_same false x x' y e = refl

replaced-low : (bits : ℕ → ℕ) (start width value n : ℕ)
    → replaced bits start width (value % 2 ^ width) n ≡ replaced bits start width value n
unfolding replaced
replaced-low bits start width value n =
    let within = nat_le start n && nat_lt n (start + width) in
    first_same within (bit_at (value % 2 ^ width) (start + width - 1 - n)) (bit_at value (start + width - 1 - n))
    (bits n)
    (λ is.
    let parts = and_parts (nat_le start n) (nat_lt n (start + width)) is in
    let from : start ≤ n = leb-true start n parts.0 in
    let to : n < start + width = ltb-true n (start + width) parts.1 in
    bit_at-low value width (start + width - 1 - n) (omega arith))

pub low_is_set : (bytes : List ℕ) (field : Field) (value : ℕ)
    → with_field bytes field (value % 2 ^ (row field).width) ≡ with_field bytes field value
unfolding with_field
low_is_set bytes field value =
    let width = (row field).width in
    ap (λ (at : ℕ → List ℕ). unwrap_or (option_map at (place (shape_of bytes) field)) bytes)
    (λ i first. bytes_of (λ n. replaced-low (bit_of bytes) first width value n i) (length bytes))
