use Rattle.std.proofs.Common.{◌≡◌, ◌+◌, drop}
use Rattle.gal_bits.specs.Fitting.{sum_of}
use Rattle.split_model.proofs.bounds.sum_is_low.Given as goal

abbrev pub invariant-loop-width : goal.invariant-loop-width
invariant-loop-width l = sum_of l.widths + l.left ≡ sum_of (drop l.width-index l.widths) + 128
