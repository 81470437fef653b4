-- What holds of numbers and of their decimal digits.
use Rattle.std.proofs.Common.{Bool, None, Some, [], ap, arith, cond, decimal, false, get_or, inl, inr, leb, length, length-append, lit<, ltb, option_and_then, pow_mono, refl, suc, sym, true, zero, ℕ, ◌%◌, ◌*◌, ◌+◌, ◌/◌, ◌<◌, ◌^◌, ◌∙◌, ◌∷◌, ◌≡◌, ◌≤◌, ◌⊎◌}
use Rattle.std.proofs.Math.Nat.{div-lt_iff_lt-mul}
use Rattle.std.proofs.lemmas.Bool.{eq-eqb, eqb-true, lt-ltb, ltb_from_iff}
use Rattle.std.proofs.lemmas.Bool.Decides.{nat_tests}
use Rattle.std.proofs.lemmas.Fmt.{decimal_digit, decimal_step, first_decimal, length-decimal-le}
use Rattle.std.proofs.lemmas.Nat.{shr_split}
use Rattle.std.proofs.lemmas.Nat.Bits.{bit_at_cat_low}
use Rattle.std.proofs.lemmas.Str.Parse.{IsNumeralModel, numerals_by_value, tells_all_ascii_digits}
use Rattle.std.specs.Fmt.{decimal}
use Rattle.std.specs.Int.{bit_at}
use Rattle.std.specs.Ordering.{nat_cmp}
use Rattle.std.specs.Prelude.{nat_eq, nat_lt}
use Rattle.std.specs.Str.{all_ascii_digits}
use Rattle.std.specs.Str.Parse.{digits_value}
use Rattle.std.specs.declared.cmp.Ordering.TheVariants.{Equal, Greater, Less}

pub decimal_digits : IsNumeralModel (λ digits. all_ascii_digits digits ≡ true) (digits_value 10)
decimal_digits = numerals_by_value _ tells_all_ascii_digits

-- a number of 64 bits has no more bits than 64, and no more than any larger number of them
pub below_power : (v bits : ℕ) → v < 2 ^ 64 → 64 ≤ bits → nat_lt v (2 ^ bits) ≡ true
below_power v bits small many = let more : 2 ^ 64 ≤ 2 ^ bits = pow_mono many in lt-ltb v (2 ^ bits) (omega arith)

-- what the test of a number gives
pub bounded_twice : (is : Bool) (value most n : ℕ) → option_and_then (λ x. cond (leb x most) (Some x) None) (cond is (Some value) None) ≡ Some n → (is ≡ true) × (value ≡ n) × (n ≤ most)
bounded_twice true value most n h = (grind (arith, nat_tests), grind (arith, nat_tests), grind (arith, nat_tests))
bounded_twice false value most n h = cc

pub below_suc : (i n : ℕ) → i < suc n → (i < n) ⊎ (i ≡ n)
below_suc i zero h = inr (omega arith)
below_suc zero (suc n) h = inl (omega arith)
below_suc (suc i) (suc n) h = elim (below_suc i n (omega arith)) [ inl p ↦ inl (omega arith) | inr q ↦ inr (ap suc q) ]

-- nothing is left behind a division exactly where the number is below the divisor
pub quotient_zero : (v n : ℕ) → 0 < n → nat_eq (v / n) 0 ≡ nat_lt v n
quotient_zero v n some =
    let below = div-lt_iff_lt-mul {k = n} {x = v} {y = 1} some in
    ltb_from_iff (
      λ e. let z : v / n ≡ 0 = eqb-true (v / n) 0 e in let m : v < 1 * n = below.0 (omega arith) in omega arith,
      λ h. eq-eqb (v / n) 0
          (let m : v / n < 1 = below.1 (omega arith) in omega arith),
    )

pub no_zero_first : (n : ℕ) → n < 2 ^ 64 → get_or (decimal n) 0 0 ≡ 48 → length (decimal n) ≡ 1
no_zero_first zero fits h = ap length (decimal_digit 0 (lit< tt))
no_zero_first (suc m) fits h = absurd (omega (arith, first_decimal (suc m) (omega arith) fits, h))

pub bit_at-low : (number width i : ℕ) → i < width → bit_at (number % 2 ^ width) i ≡ bit_at number i
bit_at-low number width i below = sym (bit_at_cat_low (number / 2 ^ width) width (number % 2 ^ width) i below) ∙ ap (λ x. bit_at x i) (shr_split number width)

pub cmp_less : (x y : ℕ) → x < y → nat_cmp x y ≡ Less
cmp_less x y h = let t : ltb x y ≡ true = grind (arith, nat_tests) in rw t refl

pub cmp_equal : (x : ℕ) → nat_cmp x x ≡ Equal
cmp_equal x = grind (arith, nat_tests)

pub cmp_greater : (x y : ℕ) → y < x → nat_cmp x y ≡ Greater
cmp_greater x y h = grind (arith, nat_tests)

pub below_same_above : (a b : ℕ) → (a < b) ⊎ ((a ≡ b) ⊎ (b < a))
below_same_above zero zero = inr (inl refl)
below_same_above zero (suc b) = inl (omega arith)
below_same_above (suc a) zero = inr (inr (omega arith))
below_same_above (suc a) (suc b) = elim (below_same_above a b) [ inl low ↦ inl (omega (arith, low)) | inr rest ↦ elim rest [ inl same ↦ inr (inl (ap suc same)) | inr high ↦ inr (inr (omega (arith, high))) ] ]

pub same_within : (n a : ℕ) → n ≡ a → n ≤ a
same_within n a e = omega (arith, e)

pub le_trans : (a b c : ℕ) → a ≤ b → b ≤ c → a ≤ c
le_trans a b c h k = omega arith

pub one_digit : (n : ℕ) → n < 10 → length (decimal n) ≡ 1
one_digit n h = ap length (decimal_digit n h)

pub more_digits : (n : ℕ) → 10 ≤ n → n < 2 ^ 64 → length (decimal n) ≡ length (decimal (n / 10)) + 1
more_digits n h k = ap length (decimal_step n h k) ∙ length-append (decimal (n / 10)) ((48 + n % 10) ∷ [])

pub few_digits : (number : ℕ) → number < 2 ^ 64 → length (decimal number) ≤ 20
few_digits number fits = length-decimal-le 20 number (lit< tt) (omega arith) fits
