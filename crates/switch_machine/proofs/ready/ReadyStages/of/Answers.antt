use Rattle.std.proofs.Common.{◌≡◌, ◌∙◌, List, ap, map}
use Rattle.switch_ir.specs.declared.code.PassStep.{PassStep}
use Rattle.switch_ir.specs.Code.{pass_step_of}
use Rattle.switch_machine.specs.declared.ready.ReadyStep.{ReadyStep}
use Rattle.switch_machine.specs.Ready.{ready_of, resolved, AreReady}
use Rattle.std.proofs.lemmas.Result.{IfOk-weaker}
use Rattle.switch_machine.proofs.ReadyStages.{are_ready}
use Rattle.switch_machine.proofs.ready.ReadyStages.of.Goals as goal

pub returns : goal.returns
returns c =
    let ranges = c.args.numbering.now in
    let plan = c.args.plan.now in
    let steps = map pass_step_of c.args.steps.now in
    let by_list : List (List PassStep) → _ = map (λ own. map (resolved ranges plan) (map pass_step_of own)) in
    IfOk-weaker c.stages.result (λ (made : List (List ReadyStep)). map (map ready_of) made ≡ by_list c.as_slice.result.now)
    (AreReady ranges plan steps c.args.highest)
    (λ made same. are_ready ranges plan steps c.args.highest c.in_ok-lists.lists.items made c.in_ok-lists.ensures (same ∙ ap by_list c.as_slice.ensures.value))
    c.stages.ensures
