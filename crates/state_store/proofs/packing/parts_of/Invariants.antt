use Rattle.std.proofs.Common.{◌≡◌, ◌++◌, ◌<◌, ◌≤◌, ◌^◌, true, drop, length}
use Rattle.state_store.specs.Packing.{have_room, parts}
use Rattle.state_store.proofs.packing.parts_of.Given as goal

abbrev pub invariant-loop-width : goal.invariant-loop-width
invariant-loop-width l = record {
  count : length l.values ≡ l.width-index;
  sum : l.values ++ parts l.room (drop l.width-index l.widths) l.rest ≡ parts l.bits l.widths l.whole;
  room : have_room l.room (drop l.width-index l.widths) ≡ true;
  within : l.room ≤ 128;
  below : l.rest < 2 ^ l.room;
}
