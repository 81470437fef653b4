use Rattle.flat_ir.specs.Program.{program_of}
use Rattle.dependence.proofs.PreSets.{IsSoFar, PreMay, needed_of}
use Rattle.dependence.proofs.forward.pre_closure.Given as goal

abbrev pub invariant-loop-i : goal.invariant-loop-i
invariant-loop-i l = IsSoFar (program_of l.f) (PreMay (program_of l.f) l.k) needed_of l.i l.pre
