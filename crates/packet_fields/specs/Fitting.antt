-- Lemmas for this crate and those above: a number in a range of bits fits it, and the value of a field fits the field.
use Rattle.std.proofs.Common.{◌≡◌, ℕ, zero, suc, ◌+◌, ◌-◌, ◌*◌, ◌/◌, ◌%◌, ◌^◌, ◌<◌, ◌≤◌, Bool, true, false, cond, List}
use Rattle.std.proofs.Common.{get_or, length, refl, arith, lit<, pow-suc, Option, Some, None, is_some, unwrap_or}
use Rattle.std.proofs.lemmas.Nat.{pow_pos}
use Rattle.std.proofs.lemmas.Nat.Bits.{bit_at-lt}
use Rattle.std.specs.Option.{option_map}
use Rattle.packet_fields.specs.declared.field.Field.{Field}
use Rattle.packet_fields.specs.declared.field.Field.TheVariants.{MetaPort, MetaLen, HasIp, HasTcp, HasUdp}
use Rattle.packet_fields.specs.declared.packet.Packet.{Packet}
use Rattle.packet_fields.specs.declared.shape.Shape.{Shape}
use Rattle.packet_fields.specs.Arrivals.{IsArrival}
use Rattle.packet_fields.specs.Bits.{bit_of, spelled, number_at}
use Rattle.packet_fields.specs.Fields.{place, meta_value, field_value}
use Rattle.packet_fields.specs.Shape.{shape_of}
use Rattle.packet_fields.specs.Sizes.{largest_packet}
use Rattle.packet_fields.specs.Table.{row}

-- each place of the row has a bit
abbrev pub AreBits : (ℕ → ℕ) → Type 0
AreBits row = (n : ℕ) → row n < 2

pub bit_of-lt : (bytes : List ℕ) → AreBits (bit_of bytes)
unfolding bit_of
bit_of-lt bytes n = bit_at-lt (get_or bytes (n / 8) 0) (7 - n % 8)

pub spelled-zero : (row : ℕ → ℕ) (start : ℕ) → spelled row start 0 ≡ 0
unfolding spelled
spelled-zero row start = refl

pub spelled-suc : (row : ℕ → ℕ) (start width : ℕ)
    → spelled row start (suc width) ≡ spelled row start width * 2 + row (start + width)
unfolding spelled
spelled-suc row start width = refl

pub spelled-lt : (row : ℕ → ℕ) (start width : ℕ) → AreBits row → spelled row start width < 2 ^ width
spelled-lt row start zero bits = rw (spelled-zero row start) (omega arith)
spelled-lt row start (suc width) bits =
    omega (arith, spelled-suc row start width, pow-suc 2 width, spelled-lt row start width bits, bits (start + width))

one_bit : (b : Bool) → cond b 1 0 < 2 ^ 1
one_bit true = lit< tt
one_bit false = lit< tt

pub meta_value_fits : (bytes : ℕ) (shape : Shape) (port : ℕ) (f : Field) → bytes ≤ largest_packet → port < 2 ^ 8
    → meta_value bytes shape port f < 2 ^ (row f).width
meta_value_fits bytes shape port MetaPort size fits = fits
meta_value_fits bytes shape port MetaLen size fits = omega arith
meta_value_fits bytes shape port HasIp size fits = one_bit (is_some shape.ip)
meta_value_fits bytes shape port HasTcp size fits = one_bit (is_some shape.tcp)
meta_value_fits bytes shape port HasUdp size fits = one_bit (is_some shape.udp)
meta_value_fits bytes shape port f size fits = pow_pos (row f).width

either_fits : (number : ℕ → ℕ) (other bound : ℕ) (o : Option ℕ) → ((n : ℕ) → number n < bound) → other < bound
    → unwrap_or (option_map number o) other < bound
either_fits number other bound None each rest = rest
either_fits number other bound (Some n) each rest = each n

pub value_fits : (bytes : List ℕ) (port : ℕ) (f : Field) → length bytes ≤ largest_packet → port < 2 ^ 8
    → field_value bytes port f < 2 ^ (row f).width
unfolding field_value
value_fits bytes port f size fits =
    either_fits (λ first. number_at bytes first (row f).width) (meta_value (length bytes) (shape_of bytes) port f)
    (2 ^ (row f).width) (place (shape_of bytes) f)
    (λ first. spelled-lt (bit_of bytes) first (row f).width (bit_of-lt bytes))
    (meta_value_fits (length bytes) (shape_of bytes) port f size fits)

-- the fields of a packet as it arrives
pub field_fits : (packet : Packet) (f : Field) → IsArrival packet
    → field_value packet.bytes packet.port f < 2 ^ (row f).width
field_fits packet f arrives = value_fits packet.bytes packet.port f arrives.size arrives.port
