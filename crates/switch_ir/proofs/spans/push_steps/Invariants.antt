use Rattle.std.proofs.Common.{◌≡◌, ◌++◌, map, take}
use Rattle.switch_ir.specs.LastReads.{noted}
use Rattle.switch_ir.specs.Passes.{pass_step_of}
use Rattle.switch_ir.specs.Spans.{written_by, span_of}
use Rattle.switch_ir.proofs.spans.push_steps.Given as goal

abbrev pub invariant-loop-step : goal.invariant-loop-step
invariant-loop-step l = l.spans ≡ l.initial.spans ++ map (span_of (noted l.last)) (written_by l.tables (map pass_step_of (take l.step-index l.step-items)))
