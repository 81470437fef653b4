use Rattle.std.proofs.Common.{◌-◌, ◌<◌, ◌≤◌}
use Rattle.flat_ir.specs.Program.{program_of}
use Rattle.partition.specs.Tried.{IsTooMuch}
use Rattle.partition.proofs.trying.most_left.Given as goal

-- so many are too much
abbrev pub invariant-loop-left : goal.invariant-loop-left
invariant-loop-left l = record {
  above : l.left < l.many;
  within : l.many ≤ l.count;
  much : IsTooMuch (program_of l.f) l.limits l.many;
}

abbrev pub decreases-loop-left : goal.decreases-loop-left
decreases-loop-left l = l.many - l.left
