use Rattle.std.proofs.Common.{◌≤◌, ◌∙◌, ap, map, sym, length, arith, add-one, ◌++◌}
use Rattle.std.proofs.lemmas.List.{append-nil}
use Rattle.switch_ir.specs.Code.{pass_step_of}
use Rattle.switch_machine.specs.Staged.{of_stage, stage_at}
use Rattle.lemmas.proofs.Lists.{drop_past}
use Rattle.switch_machine.proofs.stages.stages_of.Goals as goal

pub returns : goal.returns
returns c =
    let steps = c.args.steps.now in
    let stages = c.loop-step.stages.items in
    let over_all : length steps ≤ c.loop-step.step-index = omega (arith, c.loop-step-test.false, ap length c.as_slice-step-items.ensures) in
    record {
      count = c.loop-step.invariant.count ∙ add-one c.args.highest;
      each = λ t le.
          sym (append-nil (stage_at stages t))
          ∙ ap (λ ss. stage_at stages t ++ of_stage t (map pass_step_of ss)) (sym (drop_past steps c.loop-step.step-index over_all))
          ∙ c.loop-step.invariant.placed t (omega (arith, le));
    }
