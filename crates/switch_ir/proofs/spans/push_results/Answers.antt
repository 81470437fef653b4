use Rattle.std.proofs.Common.{◌≡◌, ◌∙◌, ◌+◌, ◌++◌, map, ap, arith}
use Rattle.switch_ir.specs.LastReads.{noted}
use Rattle.switch_ir.specs.Passes.{pass_step_of}
use Rattle.switch_ir.specs.Spans.{results_of, span_of}
use Rattle.switch_ir.proofs.PassSteps.{results_more, pushed}
use Rattle.switch_ir.proofs.spans.push_results.Goals as goal

pub loop-result-preserved : goal.loop-result-preserved
loop-result-preserved c =
    let s = pass_step_of c.args.step.now in
    let r = c.loop-result.result in
    pushed c.args.spans.now c.loop-result.spans c.push.new.self (results_of s r) (results_of s (r + 1)) (record { value = record { instruction = s.instruction; result = r }; number = s.first + r; stage = s.stage }) c.span.result (noted c.args.last.now)
    c.in_ok-push.ensures.ok c.span.ensures c.loop-result.invariant (results_more s r)

pub returns : goal.returns
returns c =
    let done : c.loop-result.result ≡ c.args.count = omega arith in
    c.loop-result.invariant ∙ ap (λ k. c.args.spans.now ++ map (span_of (noted c.args.last.now)) (results_of (pass_step_of c.args.step.now) k)) done
