use Rattle.std.proofs.Common.{◌≡◌, ◌++◌, take, vec_capacity}
use Rattle.transfer_header.specs.Bits.{bits_in}
use Rattle.transfer_header.specs.Values.{value_bits}
use Rattle.transfer_header.specs.Registers.{value_in}
use Rattle.transfer_header.proofs.frame.pack_values.Given as goal

-- the bits of the bytes, and of the values so far
abbrev pub invariant-loop-crossing : goal.invariant-loop-crossing
invariant-loop-crossing l = record {
  bits : l.writer.bits ≡ bits_in l.fn.bytes.items ++ value_bits (take l.crossing-index l.crossing-items) (value_in l.values);
  capacity : l.writer.capacity ≡ vec_capacity l.fn.bytes;
}
