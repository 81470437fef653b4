use Rattle.flat_ir.specs.Program.{program_of}
use Rattle.dependence.proofs.Deep.{IsDepthsSoFar}
use Rattle.dependence.proofs.depth.depths.Given as goal

abbrev pub invariant-loop-i : goal.invariant-loop-i
invariant-loop-i l = IsDepthsSoFar (program_of l.f) l.members l.i l.depths
