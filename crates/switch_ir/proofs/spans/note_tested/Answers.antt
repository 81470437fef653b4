use Rattle.transfer_header.specs.BlockSteps.{greatest, step_if}
use Rattle.switch_ir.specs.Passes.{pass_of}
use Rattle.switch_ir.specs.Spans.{is_condition, is_tested}
use Rattle.switch_ir.proofs.NotedSteps.{adds_as}
use Rattle.switch_ir.proofs.spans.note_tested.Goals as goal

pub returns : goal.returns
returns c =
    let pass = pass_of c.args.pass.now in
    adds_as (λ v. greatest (is_condition pass.blocks v) c.in_ok-steps.steps) (λ v. step_if (is_tested pass v) c.args.step) _ _
    (λ v. c.in_ok-steps.ensures.steps (is_condition pass.blocks v)) c.note_conditions.ensures
