use Rattle.std.proofs.Common.{◌≡◌, ◌≤◌, ◌++◌, length, drop}
use Rattle.std.specs.Fmt.{decimal}
use Rattle.gal_io.proofs.number.write_decimal.Given as goal

-- what is left of the number, and the digits that stand there, are the number; there is room for what is left
abbrev pub invariant-loop-rest : goal.invariant-loop-rest
invariant-loop-rest l = record {
  digits : decimal l.fn.number ≡ decimal l.rest ++ drop l.start l.digits;
  room : length (decimal l.rest) ≤ l.start;
  within : l.start ≤ length l.digits;
  size : length l.digits ≡ 20;
}

abbrev pub decreases-loop-rest : goal.decreases-loop-rest
decreases-loop-rest l = l.rest
