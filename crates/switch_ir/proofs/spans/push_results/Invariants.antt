use Rattle.std.proofs.Common.{◌≡◌, ◌++◌, map}
use Rattle.switch_ir.specs.LastReads.{noted}
use Rattle.switch_ir.specs.Passes.{pass_step_of}
use Rattle.switch_ir.specs.Spans.{results_of, span_of}
use Rattle.switch_ir.proofs.spans.push_results.Given as goal

abbrev pub invariant-loop-result : goal.invariant-loop-result
invariant-loop-result l = l.spans ≡ l.initial.spans ++ map (span_of (noted l.last)) (results_of (pass_step_of l.step) l.result)
