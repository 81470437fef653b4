use Rattle.std.proofs.Common.{◌≡◌, ◌+◌, length}
use Rattle.flat_ir.specs.Program.{program_of}
use Rattle.switch_ir.specs.Emitted.{rest_below}
use Rattle.switch_ir.specs.Emitting.{AreMarks}
use Rattle.switch_ir.proofs.rest.rest.Given as goal

abbrev pub invariant-loop-i : goal.invariant-loop-i
invariant-loop-i l = record {
  so_far : l.rest.items ≡ rest_below (program_of l.f) l.s l.i;
  marks : AreMarks (length l.f.blocks + 1) l.rest.items l.marks.items;
}
