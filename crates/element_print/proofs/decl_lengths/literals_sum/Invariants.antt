use Rattle.std.proofs.Common.{◌≡◌, ◌+◌, ◌-◌, ◌^◌, ◌≤◌, drop}
use Rattle.element_print.specs.Lengths.{capped, literals_sum}
use Rattle.element_print.proofs.decl_lengths.literals_sum.Given as goal

-- the numbers that are left give what all give
abbrev pub invariant-loop-i : goal.invariant-loop-i
invariant-loop-i l =
    (l.bytes ≤ 2 ^ 64 - 1) × (capped (l.bytes + literals_sum (drop l.i l.widths) (drop l.i l.numbers)) ≡ capped (literals_sum l.widths l.numbers))
