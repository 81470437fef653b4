use Rattle.std.proofs.Common.{◌∙◌, ◌++◌, ◌+◌, List, map, take, ap, arith}
use Rattle.std.proofs.lemmas.List.{take_all}
use Rattle.split_model.specs.declared.layout.Crossing.{Crossing}
use Rattle.switch_ir.specs.LastReads.{noted}
use Rattle.switch_ir.specs.Spans.{handed_in, span_of}
use Rattle.switch_ir.proofs.PassSteps.{handed_more, pushed}
use Rattle.switch_ir.proofs.spans.push_handed.Goals as goal

pub loop-crossing-preserved : goal.loop-crossing-preserved
loop-crossing-preserved c =
    let items = c.as_slice-crossing-items.result.now in
    let i = c.loop-crossing.crossing-index in
    let one : Crossing = c.crossing-item.result in
    pushed c.args.spans.now c.loop-crossing.spans c.push.new.self (handed_in (take i items)) (handed_in (take (i + 1) items)) (record { value = one.value; number = one.number; stage = 0 }) c.span.result (noted c.args.last.now)
    c.in_ok-push.ensures.ok c.span.ensures c.loop-crossing.invariant (handed_more items i one c.loop-crossing-test.true c.crossing-item.is)

pub returns : goal.returns
returns c =
    let items = c.as_slice-crossing-items.result.now in
    c.loop-crossing.invariant
    ∙ ap (λ (l : List Crossing). c.args.spans.now ++ map (span_of (noted c.args.last.now)) (handed_in l))
    (take_all c.loop-crossing.crossing-index items (omega arith) ∙ c.as_slice-crossing-items.ensures)
