use Rattle.schedule_replay.proofs.WholeReplay.{ended_drained, few_to_drain}
use Rattle.schedule_replay.proofs.perform.conclude.Goals as goal

pub drain-requires-clause-few_events : goal.drain-requires-clause-few_events
drain-requires-clause-few_events g c =
    few_to_drain _ _ c.args.course.now _ c.requires.under_way
    c.requires.few_packets c.requires.few_events

pub returns-in_ok-drain-clause-ended : goal.returns-in_ok-drain-clause-ended
returns-in_ok-drain-clause-ended g c =
    ended_drained _ _ _ c.in_ok-drain.field-0 c.args.course.now _ _ _ c.if-job.true c.requires.under_way c.in_ok-drain.ensures.drained
