use Rattle.flat_ir.specs.Program.{program_of}
use Rattle.flat_ir.specs.Guarding.{AreWriteBlocks}
use Rattle.flat_ir.proofs.guards.write_blocks.Given as goal

abbrev pub invariant-loop-i : goal.invariant-loop-i
invariant-loop-i l = AreWriteBlocks (program_of l.f) l.i l.marks.items
