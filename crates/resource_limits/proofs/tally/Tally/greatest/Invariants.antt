use Rattle.std.proofs.Common.{◌≡◌, drop, max}
use Rattle.resource_limits.specs.Counts.{greatest}
use Rattle.resource_limits.proofs.tally.Tally.greatest.Given as goal

abbrev pub invariant-loop-number : goal.invariant-loop-number
invariant-loop-number l = max l.found (greatest (drop l.number-index l.number-items)) ≡ greatest l.number-items
