use Rattle.std.proofs.Common.{take}
use Rattle.replay_contracts.specs.Replayer.{inputs_of}
use Rattle.replay_course.specs.UnderWay.{HasReplayedFrom}
use Rattle.replay_course.proofs.course.Course.perform.Given as goal

abbrev pub invariant-loop-event : goal.invariant-loop-event
invariant-loop-event g l =
    HasReplayedFrom (inputs_of l.job) (take l.event-index l.event-items) l.self (g.S.SwitchPort.seen l.fn.port) (g.S.SwitchPort.seen l.port)
