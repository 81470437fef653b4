use Rattle.std.proofs.Common.{◌≡◌, ◌&&◌, drop}
use Rattle.std.specs.List.{list_all}
use Rattle.run_text.specs.Body.{is_printed_digit}
use Rattle.run_text.proofs.body.are_printed_digits.Given as goal

-- the bytes so far are such digits, and those ahead, where all are
abbrev pub invariant-loop-byte : goal.invariant-loop-byte
invariant-loop-byte l = (l.all && list_all is_printed_digit (drop l.byte-index l.text)) ≡ list_all is_printed_digit l.text
