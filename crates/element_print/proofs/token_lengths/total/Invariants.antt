use Rattle.std.proofs.Common.{◌≡◌, take, sum}
use Rattle.element_print.specs.Lengths.{capped}
use Rattle.element_print.proofs.token_lengths.total.Given as goal

-- the sum so far
abbrev pub invariant-loop-part : goal.invariant-loop-part
invariant-loop-part l = l.total ≡ capped (sum (take l.part-index l.parts))
