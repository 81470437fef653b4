use Rattle.std.proofs.Common.{map, take}
use Rattle.switch_ir.specs.LastReads.{Adds}
use Rattle.switch_ir.specs.Passes.{pass_step_of}
use Rattle.switch_ir.specs.Spans.{last_stage}
use Rattle.switch_ir.proofs.spans.note_steps.Given as goal

abbrev pub invariant-loop-step : goal.invariant-loop-step
invariant-loop-step l = Adds (last_stage (map pass_step_of (take l.step-index l.step-items))) l.initial.last l.last
