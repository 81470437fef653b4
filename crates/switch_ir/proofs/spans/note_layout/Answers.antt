use Rattle.std.proofs.Common.{arith, subst}
use Rattle.split_model.specs.declared.layout.Crossing.{Crossing}
use Rattle.split_model.specs.Crossing.{is_value}
use Rattle.switch_ir.specs.LastReads.{Raises}
use Rattle.switch_ir.proofs.NotedSteps.{adds_none, raises_more, raises_all}
use Rattle.switch_ir.proofs.spans.note_layout.Goals as goal

pub loop-crossing-init : goal.loop-crossing-init
loop-crossing-init c = adds_none _

pub loop-crossing-preserved : goal.loop-crossing-preserved
loop-crossing-preserved c =
    raises_more (λ v (q : Crossing). is_value v q.value) c.args.step c.as_slice-crossing-items.result.now c.loop-crossing.crossing-index _ _ c.loop-crossing.invariant
    c.crossing-item.result c.note.new.self c.loop-crossing-test.true
    (subst (λ (q : Crossing). Raises (λ v. is_value v q.value) c.args.step c.loop-crossing.last c.note.new.self) c.crossing-item.is c.note.ensures)

pub returns : goal.returns
returns c =
    raises_all (λ v (q : Crossing). is_value v q.value) c.args.step c.as_slice-crossing-items.result.now c.loop-crossing.crossing-index _ _ c.loop-crossing.invariant
    c.args.layout.now (omega arith) c.as_slice-crossing-items.ensures
