use Rattle.std.proofs.Common.{take}
use Rattle.std.specs.List.{list_any}
use Rattle.flat_ir.specs.declared.program.FieldValue.{FieldValue}
use Rattle.split_model.specs.Crossing.{is_value}
use Rattle.switch_ir.specs.LastReads.{Raises}
use Rattle.switch_ir.proofs.spans.note_out.Given as goal

abbrev pub invariant-loop-written : goal.invariant-loop-written
invariant-loop-written l =
    Raises (λ v. list_any (λ (w : FieldValue). is_value v w.value) (take l.written-index l.written-items)) l.step l.initial.last l.last
