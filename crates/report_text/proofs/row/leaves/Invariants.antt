use Rattle.std.proofs.Common.{◌≡◌, ◌<◌, ◌^◌, drop}
use Rattle.report_text.specs.Machine.{keys_above}
use Rattle.report_text.proofs.row.leaves.Given as goal

-- by the numbers so far so many keys are greater
abbrev pub invariant-loop-at : goal.invariant-loop-at
invariant-loop-at l = record {
  small : l.above < 2 ^ 32;
  ahead : keys_above l.above (drop l.at l.widths) (drop l.at l.key) ≡ keys_above 0 l.widths l.key;
}
