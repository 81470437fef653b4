use Rattle.std.proofs.Common.{◌≡◌, ◌+◌}
use Rattle.flat_ir.specs.Program.{program_of}
use Rattle.server_runtime.specs.Spans.{spans_below}
use Rattle.server_runtime.proofs.allocation.spans_of.Given as goal

abbrev pub invariant-loop-i : goal.invariant-loop-i
invariant-loop-i l = l.spans ≡ spans_below (program_of l.whole.flat) l.whole.split (l.i + 1)
