use Rattle.std.proofs.Common.{take}
use Rattle.replay_contracts.specs.Replayer.{inputs_of}
use Rattle.lossy_replay.specs.Linking.{HasLinked}
use Rattle.lossy_replay.proofs.perform.replay_lossy.Given as goal

abbrev pub invariant-loop-event : goal.invariant-loop-event
invariant-loop-event g l =
    HasLinked (inputs_of l.job) (take l.event-index l.events) l.links l.course (g.S.SwitchPort.seen l.fn.port) (g.S.SwitchPort.seen l.port)
