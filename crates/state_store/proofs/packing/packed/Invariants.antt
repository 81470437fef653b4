use Rattle.std.proofs.Common.{◌≡◌, ◌+◌, ◌≤◌, ◌^◌, true, drop, length}
use Rattle.state_store.specs.Kept.{have_widths}
use Rattle.state_store.specs.Packing.{have_room, packed}
use Rattle.state_store.proofs.packing.packed.Given as goal

abbrev pub invariant-loop-i : goal.invariant-loop-i
invariant-loop-i l = record {
  within : l.i ≤ length l.widths;
  least : l.room ≤ l.bits;
  fit : have_widths (drop l.i l.widths) (drop l.i l.numbers) ≡ have_widths l.widths l.numbers;
  sum : l.whole + packed l.room (drop l.i l.widths) (drop l.i l.numbers) ≡ packed l.bits l.widths l.numbers;
  room : have_room l.room (drop l.i l.widths) ≡ true;
  below : l.whole + 2 ^ l.room ≤ 2 ^ l.bits;
}
