use Rattle.flat_ir.specs.Program.{program_of}
use Rattle.dependence.specs.Noted.{AreUsesSoFar}
use Rattle.dependence.proofs.uses.Uses.of.Given as goal

abbrev pub invariant-loop-i : goal.invariant-loop-i
invariant-loop-i l = AreUsesSoFar (program_of l.f) l.i l.uses
