use Rattle.std.proofs.Common.{◌≡◌, drop, Some}
use Rattle.element_lang.specs.Token as lang
use Rattle.element_tokens.proofs.number.hex_value.Given as goal

abbrev pub invariant-loop-byte : goal.invariant-loop-byte
invariant-loop-byte l = lang.hex_value (Some 0) l.digits ≡ lang.hex_value (Some l.value) (drop l.byte-index l.digits)
