use Rattle.std.proofs.Common.{append-nil, append_assoc, map}
use Rattle.switch_machine.specs.Ready.{ready_of}
use Rattle.lemmas.proofs.Lists.{drop_past, folded_item}
use Rattle.switch_machine.proofs.ready.targets.Goals as goal

pub loop-step-preserved : goal.loop-step-preserved
loop-step-preserved c =
    rw (c.in_ok-push_to.ensures, append_assoc)
    (rw (folded_item (map ready_of) c.args.steps.now c.loop-step.step-index c.step-item.result c.loop-step-test.true c.step-item.is) at c.loop-step.invariant)

pub returns : goal.returns
returns c = rw (drop_past c.args.steps.now c.loop-step.step-index c.loop-step-test.false, append-nil c.loop-step.targets.items) at c.loop-step.invariant
