use Rattle.std.proofs.Common.{suc}
use Rattle.transfer_header.specs.BlockSteps.{greatest_below}
use Rattle.switch_ir.specs.LastReads.{Adds}
use Rattle.switch_ir.specs.Spans.{is_condition}
use Rattle.switch_ir.proofs.spans.note_conditions.Given as goal

abbrev pub invariant-loop-place : goal.invariant-loop-place
invariant-loop-place l = Adds (λ v. greatest_below (suc l.place) (is_condition l.blocks v) l.steps) l.initial.last l.last
