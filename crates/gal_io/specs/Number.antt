-- Numbers in a text.
use Rattle.std.specs.Prelude.{ℕ, Bool, false, not, ◌&&◌, ◌||◌, ◌==◌, nat_le, List, [], ◌∷◌, ◌++◌, length, codes}
use Rattle.std.specs.Prelude.{decimal, Option, Some, None, if◌then◌else◌, option_and_then}
use Rattle.std.specs.Str.{all_ascii_digits}
use Rattle.std.specs.Str.Parse.{digits_value}

-- decimal digits, at least one, and no zero in front of another digit
abbrev pub is_number : List ℕ → Bool
is_number [] = false
is_number (first ∷ rest) = all_ascii_digits (first ∷ rest) && (not (first == 48) || length rest == 0)

-- the number that a text is
abbrev pub number_of : List ℕ → Option ℕ
number_of text = if is_number text then Some (digits_value 10 text) else None

-- the same where it is at most `most`
abbrev pub number_up_to : ℕ → List ℕ → Option ℕ
number_up_to most text = option_and_then (λ number. if nat_le number most then Some number else None) (number_of text)

-- each number after a space
abbrev pub spaced_numbers : List ℕ → List ℕ
spaced_numbers [] = []
spaced_numbers (n ∷ ns) = codes " " ++ (decimal n ++ spaced_numbers ns)
