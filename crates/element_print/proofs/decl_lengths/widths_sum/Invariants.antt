use Rattle.std.proofs.Common.{◌≡◌, ◌+◌, ◌-◌, ◌^◌, ◌≤◌, drop}
use Rattle.element_print.specs.Lengths.{capped, widths_sum}
use Rattle.element_print.proofs.decl_lengths.widths_sum.Given as goal

-- the widths that are left give what all give
abbrev pub invariant-loop-width : goal.invariant-loop-width
invariant-loop-width l =
    (l.bytes ≤ 2 ^ 64 - 1) × (capped (l.bytes + widths_sum (drop l.width-index l.widths)) ≡ capped (widths_sum l.widths))
