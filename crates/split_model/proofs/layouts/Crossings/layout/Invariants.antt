use Rattle.std.proofs.Common.{◌≡◌, ◌*◌, ◌≤◌, length}
use Rattle.flat_ir.specs.Program.{program_of}
use Rattle.split_model.specs.Layouts.{values_below}
use Rattle.split_model.specs.Marked.{crossings_of}
use Rattle.split_model.proofs.layouts.Crossings.layout.Given as goal

abbrev pub invariant-loop-i : goal.invariant-loop-i
invariant-loop-i l = record {
  numbered : l.number ≡ length (values_below (program_of l.f) l.i);
  low : l.number ≤ 9 * l.i;
  all : l.layout ≡ crossings_of l.way (program_of l.f) l.s (values_below (program_of l.f) l.i);
}
