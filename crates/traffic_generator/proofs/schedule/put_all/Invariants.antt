use Rattle.std.proofs.Common.{◌≡◌, ◌++◌, take}
use Rattle.traffic_generator.proofs.schedule.put_all.Given as goal

abbrev pub invariant-loop-event : goal.invariant-loop-event
invariant-loop-event l = l.events ≡ l.initial.events ++ take l.event-index l.group
