use Rattle.std.proofs.Common.{◌≡◌}
use Rattle.resource_limits.specs.Counts.{first_numbers}
use Rattle.resource_limits.specs.Uses.{told_at}
use Rattle.resource_limits.proofs.counting.told.Given as goal

abbrev pub invariant-loop-o : goal.invariant-loop-o
invariant-loop-o l = l.told.items ≡ first_numbers l.o (λ o. told_at l.objects l.before l.changes o)
