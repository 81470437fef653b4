use Rattle.replay_contracts.specs.Replayer.{inputs_of}
use Rattle.replay_course.proofs.ReportedState.{few_fates, few_packets, reported}
use Rattle.replay_course.proofs.course.Course.report.Goals as goal

pub run-requires-clause-few_packets : goal.run-requires-clause-few_packets
run-requires-clause-few_packets g c = few_packets (inputs_of c.args.job.now) c.requires.going.prepared

pub run-requires-clause-few_fates : goal.run-requires-clause-few_fates
run-requires-clause-few_fates g c = few_fates (inputs_of c.args.job.now) c.args.self.now c.requires.going.prepared c.requires.going.sound

pub returns-clause-reports : goal.returns-clause-reports
returns-clause-reports g c = λ calls st h.
    reported (inputs_of c.args.job.now) calls st c.args.self.now _ _ _ _ _ h c.in_ok-switch.ensures.shows c.in_ok-run.ensures c.commands.ensures
