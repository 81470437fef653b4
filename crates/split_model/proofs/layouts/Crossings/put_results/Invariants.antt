use Rattle.std.proofs.Common.{◌≡◌, ◌++◌}
use Rattle.flat_ir.specs.Program.{program_of}
use Rattle.split_model.specs.Layouts.{first_results}
use Rattle.split_model.specs.Marked.{crossings_of}
use Rattle.split_model.proofs.layouts.Crossings.put_results.Given as goal

abbrev pub invariant-loop-place : goal.invariant-loop-place
invariant-loop-place l = l.layout ≡ l.initial.layout ++ crossings_of l.way (program_of l.f) l.s (first_results l.i l.place)
