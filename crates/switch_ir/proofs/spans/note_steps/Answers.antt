use Rattle.std.proofs.Common.{◌+◌, map, take, ap, sym, ◌∙◌, arith}
use Rattle.flat_ir.specs.Program.{operands, work_of}
use Rattle.split_model.specs.Crossing.{is_among}
use Rattle.transfer_header.specs.BlockSteps.{step_if}
use Rattle.switch_ir.specs.Passes.{pass_step_of}
use Rattle.switch_ir.specs.Spans.{last_stage}
use Rattle.switch_ir.proofs.PassSteps.{steps_more, steps_all, last_more}
use Rattle.switch_ir.proofs.NotedSteps.{adds_none, adds_as, adds_then}
use Rattle.switch_ir.proofs.spans.note_steps.Goals as goal

pub loop-step-init : goal.loop-step-init
loop-step-init c = adds_none _

pub loop-step-preserved : goal.loop-step-preserved
loop-step-preserved c =
    let items = c.as_slice-step-items.result.now in
    let i = c.loop-step.step-index in
    let x = c.step-item.result in
    let done = map pass_step_of (take i items) in
    adds_then (last_stage done) (λ v. step_if (is_among v (operands (work_of x.kind))) x.stage) (last_stage (map pass_step_of (take (i + 1) items))) _ _ _
    (λ v. sym (ap (λ l. last_stage l v) (steps_more items i x c.loop-step-test.true c.step-item.is) ∙ last_more done (pass_step_of x) v))
    c.loop-step.invariant c.note_operands.ensures

pub returns : goal.returns
returns c =
    let items = c.as_slice-step-items.result.now in
    adds_as (last_stage (map pass_step_of (take c.loop-step.step-index items))) (last_stage (map pass_step_of c.args.pass.now.steps)) _ _
    (λ v. ap (λ l. last_stage l v) (steps_all items c.args.pass.now.steps c.loop-step.step-index (omega arith) c.as_slice-step-items.ensures))
    c.loop-step.invariant
