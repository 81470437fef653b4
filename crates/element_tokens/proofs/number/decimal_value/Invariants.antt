use Rattle.std.proofs.Common.{◌≡◌, drop, Some}
use Rattle.element_lang.specs.Token as lang
use Rattle.element_tokens.proofs.number.decimal_value.Given as goal

abbrev pub invariant-loop-byte : goal.invariant-loop-byte
invariant-loop-byte l = lang.decimal_value (Some 0) l.digits ≡ lang.decimal_value (Some l.value) (drop l.byte-index l.digits)
