use Rattle.std.proofs.Common.{◌≡◌, drop}
use Rattle.std.specs.Prelude.{find}
use Rattle.resource_limits.specs.Kept.{exceeds, of_objects}
use Rattle.resource_limits.proofs.exceeding.of_objects.Given as goal

abbrev pub invariant-loop-object : goal.invariant-loop-object
invariant-loop-object l =
    find exceeds (of_objects l.limit l.allowed l.object (drop l.object l.numbers))
    ≡ find exceeds (of_objects l.limit l.allowed 0 l.numbers)
