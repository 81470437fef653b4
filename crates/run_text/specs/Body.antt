-- What the body of a line spells.
use Rattle.std.specs.Prelude.{ℕ, Bool, true, ◌==◌, ◌/◌, List, [], ◌∷◌, if◌then◌else◌, Option, Some, None, Result, Ok, Err, codes}
use Rattle.std.specs.Str.{bytes_eq}
use Rattle.std.specs.List.{list_any}
use Rattle.hex.specs.Hex.{decode_of, encode_lower, lower_digits}
use Rattle.hex.specs.declared.error.FromHexError.{FromHexError}
use Rattle.run_text.specs.declared.body.Body.{Body}

-- one of the digits that `hex` prints
abbrev pub is_printed_digit : ℕ → Bool
is_printed_digit byte = list_any (λ digit. digit == byte) lower_digits

-- a capital letter, or one of the six bytes beside them
abbrev pub is_by_capitals : ℕ → Bool
is_by_capitals byte = byte / 32 == 2

abbrev pub body_with : List ℕ → Bool → Body
body_with bytes printed = record { bytes = bytes; printed = printed }

-- what digits spell that are read as these bytes; they are printed so where these are their digits
abbrev pub spelled_by : List ℕ → Result (List ℕ) FromHexError → Option Body
spelled_by digits (Ok bytes) = Some (body_with bytes (bytes_eq (encode_lower bytes) digits))
spelled_by digits (Err e) = None

-- what a body spells: `-` for no bytes, or pairs of hexadecimal digits of either case
abbrev pub spelled : List ℕ → Option Body
spelled [] = None
spelled (b ∷ bs) =
    if bytes_eq (b ∷ bs) (codes "-") then Some (body_with [] true) else spelled_by (b ∷ bs) (decode_of (b ∷ bs))
