use Rattle.std.proofs.Common.{◌∙◌, ◌+◌, ◌++◌, ◌<◌, ◌^◌, List, map, take, ap, sym, subst, arith}
use Rattle.switch_ir.specs.declared.code.PassStep.{PassStep}
use Rattle.switch_ir.specs.LastReads.{noted}
use Rattle.switch_ir.specs.Passes.{pass_step_of}
use Rattle.switch_ir.specs.Spans.{results_in, results_of, written_by, span_of, AreNumbered, Written}
use Rattle.switch_ir.proofs.PassSteps.{steps_at, steps_all, written_more, pushed_all}
use Rattle.switch_ir.proofs.spans.push_steps.Goals as goal

pub push_results-requires-clause-numbers : goal.push_results-requires-clause-numbers
push_results-requires-clause-numbers c =
    let items = c.as_slice-step-items.result.now in
    let tables = c.args.tables.now in
    let x = c.step-item.result in
    let all = subst (λ (l : List PassStep). AreNumbered (2 ^ 32) (written_by tables (map pass_step_of l))) (sym c.as_slice-step-items.ensures) c.requires in
    subst (λ k. AreNumbered (2 ^ 32) (results_of (pass_step_of x) k)) (sym c.results.ensures.value)
    (steps_at (λ (w : Written). w.number < 2 ^ 32) tables items c.loop-step.step-index x c.loop-step-test.true c.step-item.is all)

pub loop-step-preserved : goal.loop-step-preserved
loop-step-preserved c =
    let items = c.as_slice-step-items.result.now in
    let i = c.loop-step.step-index in
    let tables = c.args.tables.now in
    let x = c.step-item.result in
    let reads = noted c.args.last.now in
    pushed_all c.args.spans.now c.loop-step.spans c.push_results.new.spans (written_by tables (map pass_step_of (take i items))) (written_by tables (map pass_step_of (take (i + 1) items)))
    (results_of (pass_step_of x) (results_in tables (pass_step_of x).work)) reads
    (c.in_ok-push_results.ensures ∙ ap (λ k. c.loop-step.spans ++ map (span_of reads) (results_of (pass_step_of x) k)) c.results.ensures.value)
    c.loop-step.invariant (written_more tables items i x c.loop-step-test.true c.step-item.is)

pub returns : goal.returns
returns c =
    let items = c.as_slice-step-items.result.now in
    c.loop-step.invariant
    ∙ ap (λ l. c.args.spans.now ++ map (span_of (noted c.args.last.now)) (written_by c.args.tables.now l)) (steps_all items c.args.steps.now c.loop-step.step-index (omega arith) c.as_slice-step-items.ensures)
