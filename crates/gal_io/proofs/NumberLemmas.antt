-- The value of digits, and numbers as they are printed.
use Rattle.std.proofs.Common.{◌≡◌, ℕ, suc, ◌+◌, ◌-◌, ◌*◌, ◌/◌, ◌%◌, ◌^◌, ◌≤◌, ◌<◌, true, List, [], ◌∷◌, ◌++◌, length, get_or, drop, Some, drop-cons, sym, ap, ◌∙◌, arith, refl, append_assoc}
use Rattle.std.proofs.lemmas.List.{append-nil, drop-set}
use Rattle.std.proofs.Math.ListN.{drop_of_length-le, set}
use Rattle.std.specs.Char.{digit_value}
use Rattle.std.specs.Fmt.{decimal}
use Rattle.std.specs.Str.{all_ascii_digits}
use Rattle.std.specs.Str.Parse.{digits_value, digits_value_after}
use Rattle.std.proofs.lemmas.Fmt.{decimal-digits_value, digits_decimal, digits_value-decimal, decimal_nonempty, decimal_digit, decimal_step}
use Rattle.std.proofs.lemmas.Bool.Decides.{nat_tests}
use Rattle.gal_io.specs.Number.{is_number, number_up_to}
use Rattle.lemmas.proofs.Numbers.{bounded_twice, decimal_digits as own, no_zero_first}

-- further digits make a number no less
value_at_least : (value : ℕ) (digits : List ℕ) → value ≤ digits_value_after 10 value digits
value_at_least value [] = omega arith
value_at_least value (digit ∷ digits) = omega (arith, value_at_least (value * 10 + digit_value digit) digits)

pub value_with_next : (value : ℕ) (digits : List ℕ) (at : ℕ) → at < length digits → value * 10 + digit_value (get_or digits at 0) ≤ digits_value_after 10 value (drop at digits)
value_with_next value digits at inside = rw (drop-cons digits at 0) (value_at_least (value * 10 + digit_value (get_or digits at 0)) (drop (suc at) digits))

-- what a number's text is, and what it isn't
record Numeral (text : List ℕ) : Type 0 where
  some : 0 < length text
  digits : all_ascii_digits text ≡ true
  unpadded : get_or text 0 0 ≡ 48 → length text ≡ 1

is_numeral : (text : List ℕ) → is_number text ≡ true → Numeral text
is_numeral [] h = cc
is_numeral (first ∷ rest) h = record { some = omega arith; digits = grind (arith, nat_tests); unpadded = grind (arith, nat_tests) }

numeral_is : (text : List ℕ) → Numeral text → is_number text ≡ true
numeral_is [] h = absurd (omega (arith, h.some))
numeral_is (first ∷ rest) h = grind (arith, nat_tests, h.digits, h.unpadded)

decimal_is_numeral : (number : ℕ) → number < 2 ^ 64 → Numeral (decimal number)
decimal_is_numeral number fits = record {
  some = decimal_nonempty number fits;
  digits = digits_decimal own number fits;
  unpadded = no_zero_first number fits;
}

pub decimal_digits : (number : ℕ) → number < 2 ^ 64 → all_ascii_digits (decimal number) ≡ true
decimal_digits number fits = digits_decimal own number fits

pub number_small : (most number : ℕ) (text : List ℕ) → number_up_to most text ≡ Some number → number ≤ most
number_small most number text h = (bounded_twice (is_number text) (digits_value 10 text) most number h).2

-- a number that is read is printed as it stood
pub printed_again : (text : List ℕ) (most number : ℕ) → number_up_to most text ≡ Some number → number < 2 ^ 64 → text ≡ decimal number
printed_again text most number h fits =
    let found = bounded_twice (is_number text) (digits_value 10 text) most number h in
    let numeral = is_numeral text found.0 in
    sym (ap decimal (sym found.1) ∙ decimal-digits_value own text numeral.digits numeral.some numeral.unpadded (omega (arith, found.1)))

pub number_printed : (most number : ℕ) (text : List ℕ) → number_up_to most text ≡ Some number → most < 2 ^ 64 → text ≡ decimal number
number_printed most number text h fits = let small = number_small most number text h in printed_again text most number h (omega arith)

-- a number that is printed is read again
pub number_back : (most number : ℕ) → number ≤ most → most < 2 ^ 64 → number_up_to most (decimal number) ≡ Some number
number_back most number small fits =
    let is : is_number (decimal number) ≡ true = numeral_is (decimal number) (decimal_is_numeral number (omega arith)) in
    let value : digits_value 10 (decimal number) ≡ number = digits_value-decimal own number (omega arith) in
    rw (is, value) (grind (arith, nat_tests))

pub read_again : (text : List ℕ) (most number : ℕ) → text ≡ decimal number → number ≤ most → most < 2 ^ 64 → number_up_to most text ≡ Some number
read_again text most number h small fits = ap (number_up_to most) h ∙ number_back most number small fits

-- ## Digits that are written

-- before a digit is written, all of the number is left
pub nothing_written : (number start : ℕ) (digits : List ℕ) → length digits ≤ start → decimal number ≡ decimal number ++ drop start digits
nothing_written number start digits short = sym (ap (λ ds. decimal number ++ ds) (drop_of_length-le digits short) ∙ append-nil (decimal number))

-- the first digit, before those that stand there from `start` on
pub first_digit : (number rest start : ℕ) (digits : List ℕ) → rest < 10 → 0 < start → start ≤ length digits
    → decimal number ≡ decimal rest ++ drop start digits → drop (start - 1) (set digits (start - 1) (48 + rest % 10)) ≡ decimal number
first_digit number rest start digits small some within so_far =
    let at : start - 1 + 1 ≡ start = omega arith in
    let digit : rest % 10 ≡ rest = omega arith in
    drop-set digits (start - 1) (48 + rest % 10) (omega arith)
    ∙ rw (at, digit) (ap (λ ds. ds ++ drop start digits) (sym (decimal_digit rest small)) ∙ sym so_far)

-- one more digit, before those that stand there from `start` on
pub next_digit : (number rest start : ℕ) (digits : List ℕ) → 10 ≤ rest → rest < 2 ^ 64 → 0 < start → start ≤ length digits
    → decimal number ≡ decimal rest ++ drop start digits
    → decimal number ≡ decimal (rest / 10) ++ drop (start - 1) (set digits (start - 1) (48 + rest % 10))
next_digit number rest start digits large fits some within so_far =
    let at : start - 1 + 1 ≡ start = omega arith in
    so_far ∙ ap (λ ds. ds ++ drop start digits) (decimal_step rest large fits)
    ∙ append_assoc (decimal (rest / 10)) ((48 + rest % 10) ∷ []) (drop start digits)
    ∙ ap (λ ds. decimal (rest / 10) ++ ds) (sym (drop-set digits (start - 1) (48 + rest % 10) (omega arith) ∙ rw at refl))
