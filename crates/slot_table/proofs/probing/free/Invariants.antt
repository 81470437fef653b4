use Rattle.std.proofs.Common.{◌≡◌, ℕ, ◌-◌, ◌<◌, ◌≤◌, length, None}
use Rattle.slot_table.specs.Place.{steps}
use Rattle.slot_table.specs.Table.{held}
use Rattle.slot_table.proofs.probing.free.Given as goal

abbrev pub invariant-loop-at : goal.invariant-loop-at
invariant-loop-at g l = record {
  within : l.at < length l.slots;
  first : (e : ℕ) → e < length l.slots → held l.slots e ≡ None → steps (length l.slots) l.from l.at ≤ steps (length l.slots) l.from e;
}

abbrev pub decreases-loop-at : goal.decreases-loop-at
decreases-loop-at g l = length l.slots - steps (length l.slots) l.from l.at
