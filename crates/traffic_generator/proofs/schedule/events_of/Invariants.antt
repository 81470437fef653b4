use Rattle.std.proofs.Common.{◌≡◌}
use Rattle.traffic_generator.specs.Schedule.{copies, round_events}
use Rattle.traffic_generator.proofs.schedule.events_of.Given as goal

abbrev pub invariant-loop-round : goal.invariant-loop-round
invariant-loop-round l = l.events ≡ copies l.round round_events
