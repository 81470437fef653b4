use Rattle.std.proofs.Common.{◌≡◌, map, take}
use Rattle.pcap_trace.specs.Packets.{packet_of}
use Rattle.pcap_trace.proofs.packets.packets_of.Given as goal

abbrev pub invariant-loop-item : goal.invariant-loop-item
invariant-loop-item l = l.packets ≡ map (packet_of l.port) (take l.item-index l.item-items)
