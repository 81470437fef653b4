use Rattle.std.proofs.Common.{◌≡◌, ◌*◌, ◌<◌, ◌^◌, take}
use Rattle.transfer_header.specs.Bits.{bits_of, bits_in}
use Rattle.transfer_header.proofs.bits.number_in.Given as goal

-- the number of the first bytes
abbrev pub invariant-loop-byte : goal.invariant-loop-byte
invariant-loop-byte l = record {
  fits : l.number < 2 ^ (8 * l.byte-index);
  bits : bits_of (8 * l.byte-index) l.number ≡ bits_in (take l.byte-index l.bytes);
}
