use Rattle.std.proofs.Common.{◌≡◌, take}
use Rattle.packet_fields.proofs.packet.Packets.copy.Given as goal

abbrev pub invariant-loop-packet : goal.invariant-loop-packet
invariant-loop-packet l = l.packets ≡ take l.packet-index l.packet-items
