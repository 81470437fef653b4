use Rattle.std.proofs.Common.{◌≡◌, ℕ, suc, ◌+◌, ◌||◌, [], ◌∷◌, max, arith}
use Rattle.std.specs.List.{list_any}
use Rattle.flat_ir.specs.declared.program.FieldValue.{FieldValue}
use Rattle.flat_ir.specs.declared.program.ValueId.{ValueId}
use Rattle.split_model.specs.declared.layout.Crossing.{Crossing}
use Rattle.split_model.specs.Crossing.{is_value, is_among}
use Rattle.transfer_header.specs.BlockSteps.{step_if}
use Rattle.switch_ir.specs.Passes.{pass_of}
use Rattle.switch_ir.specs.Spans.{last_stage, is_tested, last_read}
use Rattle.switch_ir.proofs.NotedSteps.{same_last, all_noted}
use Rattle.switch_ir.proofs.spans.last_reads.Goals as goal

pub returns : goal.returns
returns c =
    let n = c.args.instructions in
    let pass = pass_of c.args.pass.now in
    let end : ℕ = pass.highest + 1 in
    let after : end ≡ suc pass.highest = omega arith in
    let up = λ (v : ValueId). list_any (λ (q : Crossing). is_value v q.value) c.args.up.now in
    let out = λ (v : ValueId). is_among v (pass.send ∷ pass.port ∷ []) || list_any (λ (w : FieldValue). is_value v w.value) pass.fields in
    let stages = λ (v : ValueId). max 0 (last_stage pass.steps v) in
    let ups = λ (v : ValueId). max (stages v) (step_if (up v) end) in
    let tests = λ (v : ValueId). max (ups v) (step_if (is_tested pass v) end) in
    same_last n (λ v. max (tests v) (step_if (out v) end)) (last_read c.args.up.now pass) c.note_out.new.last
    (λ v. all_noted (last_stage pass.steps v) end (suc pass.highest) (up v) (is_tested pass v) (out v) after)
    (c.note_out.ensures n tests (c.in_ok-note_tested.ensures n ups (c.note_layout.ensures n stages (c.note_steps.ensures n (λ v. 0) c.in_ok-last.ensures))))
