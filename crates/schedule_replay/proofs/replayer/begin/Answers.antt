use Rattle.std.proofs.lemmas.Result.{err_from_is_err_and}
use Rattle.replay_contracts.specs.Replayer.{inputs_of}
use Rattle.replay_course.proofs.LeftByErrors.{not_begun}
use Rattle.replay_course.proofs.Laws.{few_events_are_left-commands}
use Rattle.schedule_replay.proofs.replayer.begin.Goals as goal

pub start-requires-clause-few_commands : goal.start-requires-clause-few_commands
start-requires-clause-few_commands g c = few_events_are_left-commands (inputs_of c.args.job.now) c.requires.split c.requires.few_packets

pub returns-in_err-copy-clause-fails : goal.returns-in_err-copy-clause-fails
returns-in_err-copy-clause-fails g c =
    let p = err_from_is_err_and c.from_residual.result c.from_residual.ensures.1 in
    rw (p.1, p.2) (not_begun (inputs_of c.args.job.now) (g.S.SwitchPort.seen c.args.port.now))

pub returns-in_err-course-clause-fails : goal.returns-in_err-course-clause-fails
returns-in_err-course-clause-fails g c =
    let p = err_from_is_err_and c.from_residual-in_err-course.result c.from_residual-in_err-course.ensures.1 in
    rw (p.1, p.2) c.in_err-course.ensures.fails
