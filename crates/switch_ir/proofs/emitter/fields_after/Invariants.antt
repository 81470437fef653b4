use Rattle.std.proofs.Common.{◌≡◌, take}
use Rattle.std.specs.List.{filter}
use Rattle.flat_ir.specs.declared.program.FieldValue.{FieldValue}
use Rattle.split_model.specs.Split.{is_post}
use Rattle.switch_ir.proofs.emitter.fields_after.Given as goal

abbrev pub invariant-loop-written : goal.invariant-loop-written
invariant-loop-written l =
    l.fields.items ≡ filter (λ (w : FieldValue). is_post l.s w.value.instruction) (take l.written-index l.f.out.fields.items)
