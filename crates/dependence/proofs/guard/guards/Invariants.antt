use Rattle.std.proofs.Common.{take}
use Rattle.flat_ir.specs.Program.{program_of}
use Rattle.dependence.proofs.GuardMarks.{AreMarkedFor}
use Rattle.dependence.proofs.guard.guards.Given as goal

abbrev pub invariant-loop-value : goal.invariant-loop-value
invariant-loop-value l = AreMarkedFor (program_of l.f) (take l.value-index l.value-items) l.guards
