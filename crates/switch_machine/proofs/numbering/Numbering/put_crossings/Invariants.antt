use Rattle.std.proofs.Common.{◌≡◌, ℕ, drop, map}
use Rattle.switch_machine.specs.Numbers.{range_at}
use Rattle.switch_machine.specs.Ranges.{crossing_entry, entered}
use Rattle.switch_machine.proofs.numbering.Numbering.put_crossings.Given as goal

abbrev pub invariant-loop-crossing : goal.invariant-loop-crossing
invariant-loop-crossing l =
    (i : ℕ) → entered (map crossing_entry (drop l.crossing-index l.crossings)) (range_at l.self) i
    ≡ entered (map crossing_entry l.crossings) (range_at l.fn.self) i
