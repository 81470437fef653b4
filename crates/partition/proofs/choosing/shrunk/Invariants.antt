use Rattle.std.proofs.Common.{◌≤◌, List, length}
use Rattle.flat_ir.specs.Program.{program_of}
use Rattle.split_model.specs.declared.split.Part.{Part}
use Rattle.partition.specs.Choice.{IsFirstKept, shrinking}
use Rattle.partition.specs.Front.{IsFront}
use Rattle.partition.proofs.choosing.shrunk.Given as goal

-- what is first among what is left is first of all
abbrev pub invariant-loop-front : goal.invariant-loop-front
invariant-loop-front l = record {
  front : IsFront (program_of l.f) l.front;
  few : l.front.count ≤ length l.f.code;
  first : (split : List Part) → IsFirstKept (program_of l.f) l.limits (shrinking l.front.count) split
      → IsFirstKept (program_of l.f) l.limits (shrinking (length (program_of l.f).code)) split;
}

abbrev pub decreases-loop-front : goal.decreases-loop-front
decreases-loop-front l = l.front.count
