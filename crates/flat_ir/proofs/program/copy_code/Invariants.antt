use Rattle.std.proofs.Common.{◌≡◌, map, take}
use Rattle.flat_ir.specs.Program.{step_of}
use Rattle.flat_ir.proofs.program.copy_code.Given as goal

abbrev pub invariant-loop-instr : goal.invariant-loop-instr
invariant-loop-instr l = map step_of l.made ≡ map step_of (take l.instr-index l.code)
