use Rattle.std.proofs.Common.{◌≡◌, ◌+◌}
use Rattle.std.specs.Prelude.{slice_index}
use Rattle.resource_limits.specs.Counts.{first_numbers}
use Rattle.resource_limits.proofs.counting.sums.Given as goal

abbrev pub invariant-loop-o : goal.invariant-loop-o
invariant-loop-o l = l.sums.items ≡ first_numbers l.o (λ o. slice_index l.before o + slice_index l.after o)
