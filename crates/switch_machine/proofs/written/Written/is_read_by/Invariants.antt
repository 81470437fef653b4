use Rattle.std.proofs.Common.{◌≡◌, ◌<◌, ℕ, List, Some, false}
use Rattle.std.specs.Prelude.{slice_get}
use Rattle.flat_ir.specs.declared.program.ValueId.{ValueId}
use Rattle.flat_ir.specs.Program.{operands, work_of}
use Rattle.transfer_header.specs.Steps.{is_among}
use Rattle.switch_machine.specs.Written.{Marks}
use Rattle.switch_machine.proofs.written.Written.is_read_by.Given as goal

abbrev pub invariant-loop-place : goal.invariant-loop-place
invariant-loop-place l =
    (places : List ℕ) → Marks places l.self → (k : ℕ) (v : ValueId) → k < l.place → slice_get (operands (work_of l.kind)) k ≡ Some v
    → is_among v.instruction places ≡ false
