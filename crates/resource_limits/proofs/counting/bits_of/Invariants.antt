use Rattle.std.proofs.Common.{◌≡◌, ◌+◌, drop}
use Rattle.resource_limits.proofs.counting.bits_of.Given as goal
use Rattle.gal_bits.specs.Fitting.{sum_of}

abbrev pub invariant-loop-width : goal.invariant-loop-width
invariant-loop-width l = l.bits + sum_of (drop l.width-index l.width-items) ≡ sum_of l.width-items
