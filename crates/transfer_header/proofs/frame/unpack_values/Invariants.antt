use Rattle.std.proofs.Common.{◌≡◌, take}
use Rattle.transfer_header.specs.Bits.{bits_in}
use Rattle.transfer_header.specs.Values.{total, value_bits, AreNarrow}
use Rattle.transfer_header.specs.Registers.{value_in, ChangesOnly}
use Rattle.transfer_header.proofs.frame.unpack_values.Given as goal

-- the values so far are read, and no other register is written
abbrev pub invariant-loop-crossing : goal.invariant-loop-crossing
invariant-loop-crossing l = record {
  place : l.at ≡ total (take l.crossing-index l.crossing-items);
  bits : value_bits (take l.crossing-index l.crossing-items) (value_in l.into) ≡ take l.at (bits_in l.header);
  narrow : AreNarrow (take l.crossing-index l.crossing-items) (value_in l.into);
  kept : ChangesOnly (take l.crossing-index l.crossing-items) l.fn.into l.into;
}
