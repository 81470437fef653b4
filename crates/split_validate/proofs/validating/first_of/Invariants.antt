use Rattle.flat_ir.specs.Program.{program_of}
use Rattle.split_validate.specs.Flaws.{KeepsRule}
use Rattle.split_validate.proofs.validating.first_of.Given as goal

abbrev pub invariant-loop-i : goal.invariant-loop-i
invariant-loop-i l = KeepsRule (program_of l.f) l.s l.rule l.i
