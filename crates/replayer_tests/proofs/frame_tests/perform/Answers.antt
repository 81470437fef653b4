use Rattle.std.proofs.Common.{◌+◌, ◌∙◌, sym, ap, subst, take}
use Rattle.std.proofs.lemmas.List.{take_more}
use Rattle.schedule_replay.specs.Replayer.{HasPerformed}
use Rattle.replayer_tests.proofs.frame_tests.perform.Goals as goal

pub loop-event-preserved : goal.loop-event-preserved
loop-event-preserved g c =
    let events = c.args.events.now in
    let i = c.loop-event.event-index in
    let before = c.loop-event.invariant in
    record {
      performed = subst (λ es. HasPerformed g.S.SwitchPort.seen es c.step.new.self) (sym (take_more events i _ c.loop-event-test.true))
          (c.in-Ok.ensures.performed (take i events) before.performed);
      steps = (c.in-Ok.ensures.stepped (take i events) before.performed).steps ∙ ap (λ n. n + 1) before.steps;
    }
