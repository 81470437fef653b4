use Rattle.std.proofs.Common.{◌≡◌}
use Rattle.flat_ir.specs.Program.{program_of}
use Rattle.split_model.specs.Layouts.{first_results}
use Rattle.server_runtime.specs.Spans.{numbers_of}
use Rattle.server_runtime.proofs.allocation.numbers_at.Given as goal

abbrev pub invariant-loop-place : goal.invariant-loop-place
invariant-loop-place l = l.numbers.items ≡ numbers_of (program_of l.whole.flat) (first_results l.i l.place)
