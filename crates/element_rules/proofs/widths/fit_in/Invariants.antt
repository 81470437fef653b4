use Rattle.std.proofs.Common.{◌≡◌, drop}
use Rattle.std.specs.Prelude.{nat_le}
use Rattle.element_rules.proofs.widths.fit_in.Given as goal
use Rattle.gal_bits.specs.Fitting.{sum_of}

abbrev pub invariant-loop-bits : goal.invariant-loop-bits
invariant-loop-bits l = nat_le (sum_of (drop l.bits-index l.widths)) l.left ≡ nat_le (sum_of l.widths) l.most
