use Rattle.std.proofs.Common.{◌||◌, Bool, [], ◌∷◌, arith}
use Rattle.std.specs.List.{list_any}
use Rattle.flat_ir.specs.declared.program.FieldValue.{FieldValue}
use Rattle.flat_ir.specs.declared.program.ValueId.{ValueId}
use Rattle.split_model.specs.Crossing.{is_value, is_among}
use Rattle.transfer_header.specs.BlockSteps.{step_if}
use Rattle.switch_ir.proofs.NotedSteps.{adds_none, adds_then, raises_more, raises_all, step_or}
use Rattle.switch_ir.proofs.spans.note_out.Goals as goal

abbrev is_written : ValueId → FieldValue → Bool
is_written v w = is_value v w.value

pub loop-written-init : goal.loop-written-init
loop-written-init c = adds_none _

pub loop-written-preserved : goal.loop-written-preserved
loop-written-preserved c =
    raises_more is_written c.args.step c.deref-written-items.result.now c.loop-written.written-index _ _ c.loop-written.invariant _ _ (omega arith) c.note.ensures

pub returns : goal.returns
returns c =
    let out = c.args.out.now in
    let sent = λ (v : ValueId). is_among v (out.send ∷ out.port ∷ []) in
    let written = λ (v : ValueId). list_any (is_written v) out.fields.items in
    let step = c.args.step in
    adds_then (λ v. step_if (written v) step) (λ v. step_if (sent v) step) (λ v. step_if (sent v || written v) step) _ c.loop-written.last _
    (λ v. omega (arith, step_or step (sent v) (written v)))
    (raises_all is_written step c.deref-written-items.result.now c.loop-written.written-index _ _ c.loop-written.invariant _ (omega arith) c.deref-written-items.ensures.value)
    c.note_all.ensures
