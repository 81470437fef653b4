use Rattle.replay_contracts.specs.Replayer.{inputs_of}
use Rattle.replay_course.proofs.Rows.{IsShowing}
use Rattle.replay_course.proofs.report.switch_parts.Given as goal

abbrev pub invariant-loop-number : goal.invariant-loop-number
invariant-loop-number g l = IsShowing (inputs_of l.job) l.number l.parts.items (g.S.SwitchPort.seen l.fn.port) (g.S.SwitchPort.seen l.port)
