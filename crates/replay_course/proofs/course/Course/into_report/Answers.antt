use Rattle.replay_contracts.specs.Replayer.{inputs_of}
use Rattle.replay_course.proofs.ReportedState.{reported}
use Rattle.replay_course.proofs.course.Course.into_report.Goals as goal

pub returns-clause-reports : goal.returns-clause-reports
returns-clause-reports g c = λ calls st h.
    reported (inputs_of c.args.job.now) calls st c.args.self _ _ _ _ _ h c.in_ok-switch.ensures.shows c.in_ok-run.ensures c.commands-commands.ensures
