-- Which bytes divide tokens, and over which a number or a word goes on.
use Rattle.std.specs.Prelude.{ℕ, suc, Bool, true, false, not, ◌&&◌, ◌||◌, List, [], ◌∷◌, nat_eq, nat_le, ◌==◌, if◌then◌else◌, codes}
use Rattle.std.specs.List.{starts_with}

-- a space, a tab, a CR or an LF
abbrev pub is_blank : ℕ → Bool
is_blank b = b == 32 || b == 9 || b == 13 || b == 10

-- an ASCII letter
abbrev pub is_letter : ℕ → Bool
is_letter b = nat_le 65 b && nat_le b 90 || nat_le 97 b && nat_le b 122

abbrev pub is_digit : ℕ → Bool
is_digit b = nat_le 48 b && nat_le b 57

-- over what a number goes on: letters, digits and `_`
abbrev pub is_number_byte : ℕ → Bool
is_number_byte b = is_letter b || is_digit b || b == 95

abbrev pub starts_comment : List ℕ → Bool
starts_comment bs = starts_with nat_eq bs (codes "//")

-- How many bytes of blanks and comments stand in front. `inside` says whether a comment has begun; it ends before the
-- next LF.
abbrev pub gap : Bool → List ℕ → ℕ
gap inside [] = 0
gap true (b ∷ bs) = suc (gap (not (b == 10)) bs)
gap false (b ∷ bs) = if is_blank b then suc (gap false bs)
    else (if starts_comment (b ∷ bs) then suc (gap true bs) else 0)
