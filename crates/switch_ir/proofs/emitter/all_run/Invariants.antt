use Rattle.std.proofs.Common.{ℕ, ◌<◌}
use Rattle.flat_ir.specs.Operands.{CanRun}
use Rattle.flat_ir.specs.Program.{program_of, step_at}
use Rattle.switch_ir.proofs.emitter.all_run.Given as goal

abbrev pub invariant-loop-instr : goal.invariant-loop-instr
invariant-loop-instr l = (i : ℕ) → i < l.instr-index → CanRun (step_at (program_of l.f) i).work
