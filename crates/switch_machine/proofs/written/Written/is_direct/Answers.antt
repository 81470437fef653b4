use Rattle.std.proofs.Common.{[], sym}
use Rattle.std.proofs.lemmas.Bool.{true≢false}
use Rattle.switch_machine.proofs.WrittenPlaces.{so_far_all, so_far_more}
use Rattle.switch_machine.proofs.written.Written.is_direct.Goals as goal

pub loop-step-init : goal.loop-step-init
loop-step-init c = record { written = []; marks = λ place there lt. absurd (true≢false (sym there)); direct = λ h. h }

pub loop-step-preserved : goal.loop-step-preserved
loop-step-preserved c =
    so_far_more c.args.steps.now c.loop-step.step-index c.step-item.result c.loop-step.self c.put_all.new.self c.loop-step-test.true c.step-item.is
    (c.is_read_by.ensures c.if-is_read_by.false) c.put_all.ensures c.loop-step.invariant

pub returns : goal.returns
returns c = λ yes. so_far_all c.args.steps.now c.loop-step.step-index c.loop-step.self c.loop-step-test.false c.loop-step.invariant
