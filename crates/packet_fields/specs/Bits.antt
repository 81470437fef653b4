-- Bytes as a row of bits. The highest bit of the first byte comes first, as in the figures of the RFCs.
use Rattle.std.specs.Prelude.{◌≡◌, ℕ, zero, suc, ◌+◌, ◌-◌, ◌*◌, ◌/◌, ◌%◌, ◌<◌, ◌≤◌, List, length, map, slice_index}
use Rattle.std.specs.Prelude.{◌&&◌, nat_le, nat_lt, if◌then◌else◌}
use Rattle.std.specs.Int.{bit_at}
use Rattle.std.specs.List.{range_with_len}

-- bit n of some bytes, and 0 past their end
unfoldable pub bit_of : List ℕ → ℕ → ℕ
bit_of bytes n = bit_at (slice_index bytes (n / 8)) (7 - n % 8)

-- the number that the bits of a row spell from a start on, the highest bit first
unfoldable pub spelled : (ℕ → ℕ) → ℕ → ℕ → ℕ
spelled row start zero = 0
spelled row start (suc width) = spelled row start width * 2 + row (start + width)

-- a row in which the bits from a start on spell a value, and each other bit is as it was
unfoldable pub replaced : (ℕ → ℕ) → ℕ → ℕ → ℕ → ℕ → ℕ
replaced row start width value n =
    if nat_le start n && nat_lt n (start + width) then bit_at value (start + width - 1 - n) else row n

-- the first bytes of a row, so many of them
unfoldable pub bytes_of : (ℕ → ℕ) → ℕ → List ℕ
bytes_of row count = map (λ i. spelled row (8 * i) 8) (range_with_len 0 count)

-- the number in a range of bits
abbrev pub number_at : List ℕ → ℕ → ℕ → ℕ
number_at bytes start width = spelled (bit_of bytes) start width

-- the bytes after a number is written over a range of bits
abbrev pub with_number_at : List ℕ → ℕ → ℕ → ℕ → List ℕ
with_number_at bytes start width value = bytes_of (replaced (bit_of bytes) start width value) (length bytes)

-- the bytes from first up to end hold a range of bits, and so many bits stand behind it in them
pub record Holds (first end behind start width : ℕ) : Type 0 where
  pub begins : 8 * first ≤ start
  pub ends : start + width + behind ≡ 8 * end
  pub tight : behind < 8
  pub short : 8 * (end - first) ≤ 56
