-- Frames written out by hand.
use Rattle.std.proofs.Common.{◌≡◌, [], ◌∷◌, ◌++◌, refl}
use Rattle.transfer_header.specs.Bits.{bits_of, number_from, cut, packed}

-- the bits 1010101010101, 1, and a 1 with 62 zeros and a 1 behind it; two zeros fill the last byte
three_values : packed (bits_of 13 0x1555 ++ (bits_of 1 1 ++ bits_of 64 0x8000_0000_0000_0001)) ≡ 0xaa ∷ 0xae ∷ 0 ∷ 0 ∷ 0 ∷ 0 ∷ 0 ∷ 0 ∷ 0 ∷ 0x04 ∷ []
unfolding bits_of number_from cut
three_values = refl

one_byte : packed (bits_of 3 5 ++ bits_of 5 9) ≡ 0xa9 ∷ []
unfolding bits_of number_from cut
one_byte = refl

no_values : packed [] ≡ []
unfolding cut
no_values = refl
