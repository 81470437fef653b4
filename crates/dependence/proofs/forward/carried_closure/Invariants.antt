use Rattle.flat_ir.specs.Program.{program_of}
use Rattle.dependence.proofs.PreSets.{IsSoFar, CarriedMay, operands_of}
use Rattle.dependence.proofs.forward.carried_closure.Given as goal

abbrev pub invariant-loop-i : goal.invariant-loop-i
invariant-loop-i l = IsSoFar (program_of l.f) (CarriedMay (program_of l.f) l.pre) operands_of l.i l.carried
