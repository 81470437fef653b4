use Rattle.std.proofs.Common.{◌≡◌, ◌++◌}
use Rattle.traffic_generator.specs.Schedule.{copies}
use Rattle.traffic_generator.proofs.schedule.put_copies.Given as goal

abbrev pub invariant-loop-turn : goal.invariant-loop-turn
invariant-loop-turn l = l.events ≡ l.initial.events ++ copies l.turn l.group
