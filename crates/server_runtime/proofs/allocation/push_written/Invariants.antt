use Rattle.std.proofs.Common.{◌≡◌, ◌++◌, map, take}
use Rattle.flat_ir.specs.declared.program.FieldValue.{FieldValue}
use Rattle.flat_ir.specs.Program.{program_of}
use Rattle.server_runtime.specs.Spans.{numbers_of}
use Rattle.server_runtime.proofs.allocation.push_written.Given as goal

abbrev pub invariant-loop-written : goal.invariant-loop-written
invariant-loop-written l = l.numbers.items ≡ l.initial.numbers.items ++ numbers_of (program_of l.whole.flat) (map (λ (w : FieldValue). w.value) (take l.written-index l.whole.fields.items))
