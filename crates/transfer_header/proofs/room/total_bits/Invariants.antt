use Rattle.std.proofs.Common.{◌≡◌, ◌≤◌, ◌*◌, take}
use Rattle.transfer_header.specs.Values.{total}
use Rattle.transfer_header.proofs.room.total_bits.Given as goal

abbrev pub invariant-loop-crossing : goal.invariant-loop-crossing
invariant-loop-crossing l = record {
  bits : l.bits ≡ total (take l.crossing-index l.crossing-items);
  near : l.bits ≤ 64 * l.crossing-index;
}
