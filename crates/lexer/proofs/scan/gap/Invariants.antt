use Rattle.std.proofs.Common.{◌≡◌, ◌+◌, drop, false}
use Rattle.lexer.specs.Bytes as bytes
use Rattle.lexer.proofs.scan.gap.Given as goal

abbrev pub invariant-loop-i : goal.invariant-loop-i
invariant-loop-i l = bytes.gap false l.text ≡ l.i + bytes.gap l.inside (drop l.i l.text)
