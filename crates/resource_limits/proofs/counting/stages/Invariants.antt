use Rattle.std.proofs.Common.{◌≡◌}
use Rattle.split_model.specs.Counts.{highest_below}
use Rattle.resource_limits.proofs.counting.stages.Given as goal

abbrev pub invariant-loop-i : goal.invariant-loop-i
invariant-loop-i l = l.highest ≡ highest_below l.s l.i
