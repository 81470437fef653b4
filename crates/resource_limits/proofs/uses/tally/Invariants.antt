use Rattle.flat_ir.specs.Program.{program_of}
use Rattle.resource_limits.proofs.Tallies.{IsTallySoFar}
use Rattle.resource_limits.proofs.uses.tally.Given as goal

abbrev pub invariant-loop-i : goal.invariant-loop-i
invariant-loop-i l = IsTallySoFar l.how (program_of l.f) l.s l.i l.tally.items
