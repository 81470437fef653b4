use Rattle.std.proofs.Common.{◌+◌, ◌≤◌}
use Rattle.replay_contracts.specs.Replayer.{inputs_of}
use Rattle.replay_course.specs.UnderWay.{IsDraining, course_left}
use Rattle.replay_course.proofs.course.Course.drain.Given as goal

abbrev pub invariant-loop-event : goal.invariant-loop-event
invariant-loop-event g l =
    IsDraining (inputs_of l.job) l.count l.fn.self (g.S.SwitchPort.seen l.fn.port) l.self (g.S.SwitchPort.seen l.port)
    × (l.count + course_left (inputs_of l.job) l.self ≤ course_left (inputs_of l.job) l.fn.self)

abbrev pub decreases-loop-event : goal.decreases-loop-event
decreases-loop-event g l = course_left (inputs_of l.job) l.self
