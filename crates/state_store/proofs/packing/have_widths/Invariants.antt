use Rattle.std.proofs.Common.{◌≡◌, ◌≤◌, drop, length}
use Rattle.state_store.specs.Kept.{have_widths}
use Rattle.state_store.proofs.packing.have_widths.Given as goal

abbrev pub invariant-loop-i : goal.invariant-loop-i
invariant-loop-i l = record {
  within : l.i ≤ length l.widths;
  fit : have_widths (drop l.i l.widths) (drop l.i l.numbers) ≡ have_widths l.widths l.numbers;
}
