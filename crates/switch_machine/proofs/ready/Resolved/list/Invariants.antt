use Rattle.std.proofs.Common.{◌≡◌, map}
use Rattle.std.specs.List.{range_with_len}
use Rattle.switch_machine.specs.Ready.{place_in}
use Rattle.switch_machine.proofs.ready.Resolved.list.Given as goal

abbrev pub invariant-loop-place : goal.invariant-loop-place
invariant-loop-place l = l.places.items ≡ map (place_in l.self.plan.now) (range_with_len l.range.first l.place)
