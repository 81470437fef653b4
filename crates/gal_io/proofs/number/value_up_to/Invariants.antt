use Rattle.std.proofs.Common.{◌≡◌, drop}
use Rattle.std.specs.Str.{all_ascii_digits}
use Rattle.std.specs.Str.Parse.{digits_value, digits_value_after}
use Rattle.gal_io.proofs.number.value_up_to.Given as goal

-- the digits so far are passed by, and their value stands in for them
abbrev pub invariant-loop-digit : goal.invariant-loop-digit
invariant-loop-digit l = (all_ascii_digits l.digits ≡ all_ascii_digits (drop l.digit-index l.digits))
    × (digits_value 10 l.digits ≡ digits_value_after 10 l.value (drop l.digit-index l.digits))
