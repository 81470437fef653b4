use Rattle.std.proofs.Common.{◌≤◌, length}
use Rattle.flat_ir.specs.Program.{program_of}
use Rattle.partition.specs.Front.{IsFront}
use Rattle.partition.proofs.front.Front.narrow_to.Given as goal

abbrev pub invariant-loop-self : goal.invariant-loop-self
invariant-loop-self l = record {
  front : IsFront (program_of l.f) l.self;
  more : l.count ≤ l.self.count;
  few : l.self.count ≤ length l.f.code;
}

abbrev pub decreases-loop-self : goal.decreases-loop-self
decreases-loop-self l = l.self.count
