use Rattle.std.proofs.Common.{◌≡◌, take}
use Rattle.schedule_replay.specs.Replayer.{HasPerformed}
use Rattle.replayer_tests.proofs.frame_tests.perform.Given as goal

abbrev pub invariant-loop-event : goal.invariant-loop-event
invariant-loop-event g l = record {
  performed : HasPerformed g.S.SwitchPort.seen (take l.event-index l.events) l.replayer;
  steps : l.replayer.steps ≡ l.event-index;
}
