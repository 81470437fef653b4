use Rattle.std.proofs.Common.{◌≡◌, ◌*◌}
use Rattle.packet_fields.specs.Bits.{number_at}
use Rattle.packet_fields.proofs.bits.number_of.Given as goal

abbrev pub invariant-loop-byte : goal.invariant-loop-byte
invariant-loop-byte l = l.number ≡ number_at l.bytes 0 (8 * l.byte-index)
