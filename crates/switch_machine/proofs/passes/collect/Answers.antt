use Rattle.std.proofs.Common.{◌∙◌, append-nil, append_assoc, arith, map}
use Rattle.std.proofs.lemmas.List.{map-append}
use Rattle.switch_machine.specs.Ready.{ready_of}
use Rattle.switch_machine.proofs.PlacedSteps.{ready_can}
use Rattle.switch_machine.proofs.WaitingResults.{room_more}
use Rattle.lemmas.proofs.Lists.{drop_past, folded_item}
use Rattle.switch_machine.proofs.passes.collect.Goals as goal

pub collect-requires-clause-can : goal.collect-requires-clause-can
collect-requires-clause-can g c =
    ready_can c.args.steps.now c.loop-step.step-index c.step-item.result c.requires.can c.loop-step-test.true c.step-item.is

pub collect-requires-clause-room : goal.collect-requires-clause-room
collect-requires-clause-room g c = omega (arith, c.loop-step.invariant.room, room_more c.args.steps.now c.loop-step.step-index c.step-item.result c.loop-step-test.true c.step-item.is)

pub loop-step-preserved : goal.loop-step-preserved
loop-step-preserved g c =
    record {
      items = rw (c.collect.ensures.items, append_assoc)
          (rw (folded_item (map ready_of) c.args.steps.now c.loop-step.step-index c.step-item.result c.loop-step-test.true c.step-item.is, map-append)
          at c.loop-step.invariant.items);
      room = omega (
        arith,
        c.loop-step.invariant.room,
        c.collect.ensures.len,
        c.collect.ensures.capacity,
        room_more c.args.steps.now c.loop-step.step-index c.step-item.result c.loop-step-test.true c.step-item.is,
      );
      capacity = c.collect.ensures.capacity ∙ c.loop-step.invariant.capacity;
    }

pub returns-clause-items : goal.returns-clause-items
returns-clause-items g c =
    rw (drop_past c.args.steps.now c.loop-step.step-index c.loop-step-test.false, append-nil c.loop-step.results.items) at c.loop-step.invariant.items
