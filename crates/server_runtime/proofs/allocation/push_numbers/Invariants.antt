use Rattle.std.proofs.Common.{◌≡◌, ◌++◌, take}
use Rattle.flat_ir.specs.Program.{program_of}
use Rattle.server_runtime.specs.Spans.{numbers_of}
use Rattle.server_runtime.proofs.allocation.push_numbers.Given as goal

abbrev pub invariant-loop-value : goal.invariant-loop-value
invariant-loop-value l = l.numbers.items ≡ l.initial.numbers.items ++ numbers_of (program_of l.whole.flat) (take l.value-index l.values)
