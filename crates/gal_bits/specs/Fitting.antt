-- Which widths go with an operator.
use Rattle.std.specs.Prelude.{ℕ, ◌+◌, Bool, true, false, ◌&&◌, List, [], ◌∷◌, length, nat_le, ◌==◌, slice_index}
use Rattle.gal_bits.specs.declared.op.Op.{Op}
use Rattle.gal_bits.specs.declared.op.Op.TheVariants.{Not, Shl, Shr, Eq, Ne, Lt, Le, Cast, Select, Adjust}

-- a width is from 1 to 64
abbrev pub is_width : ℕ → Bool
is_width w = nat_le 1 w && nat_le w 64

-- how many bits numbers of these widths have together
abbrev pub sum_of : List ℕ → ℕ
sum_of [] = 0
sum_of (w ∷ ws) = w + sum_of ws

abbrev pub same_widths : List ℕ → List ℕ → Bool
same_widths [] [] = true
same_widths [] (y ∷ ys) = false
same_widths (x ∷ xs) [] = false
same_widths (x ∷ xs) (y ∷ ys) = x == y && same_widths xs ys

-- the arguments' widths fit the operator and the width of its result
abbrev pub fits_operator : Op → ℕ → List ℕ → Bool
fits_operator Not w args = same_widths args (w ∷ [])
fits_operator Shl w args = false
fits_operator Shr w args = false
fits_operator Eq w args = w == 1 && same_widths args (slice_index args 0 ∷ slice_index args 0 ∷ [])
fits_operator Ne w args = w == 1 && same_widths args (slice_index args 0 ∷ slice_index args 0 ∷ [])
fits_operator Lt w args = w == 1 && same_widths args (slice_index args 0 ∷ slice_index args 0 ∷ [])
fits_operator Le w args = w == 1 && same_widths args (slice_index args 0 ∷ slice_index args 0 ∷ [])
fits_operator Cast w args = is_width w && length args == 1
fits_operator Select w args = same_widths args (1 ∷ w ∷ w ∷ [])
fits_operator Adjust w args = w == 16 && same_widths args (16 ∷ 16 ∷ 16 ∷ [])
fits_operator _ w args = same_widths args (w ∷ w ∷ [])

abbrev pub is_shift : Op → Bool
is_shift Shl = true
is_shift Shr = true
is_shift _ = false
