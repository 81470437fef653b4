use Rattle.std.proofs.Common.{refl, arith}
use Rattle.split_model.specs.Crossing.{is_value}
use Rattle.switch_ir.proofs.NotedSteps.{adds_none, raises_more, raises_all}
use Rattle.switch_ir.proofs.last_reads.LastReads.note_all.Goals as goal

pub loop-value-init : goal.loop-value-init
loop-value-init c = adds_none _

pub loop-value-preserved : goal.loop-value-preserved
loop-value-preserved c =
    raises_more is_value c.args.step c.args.values.now c.loop-value.value-index _ _ c.loop-value.invariant _ _ (omega arith) c.note.ensures

pub returns : goal.returns
returns c = raises_all is_value c.args.step c.args.values.now c.loop-value.value-index _ _ c.loop-value.invariant _ (omega arith) refl
