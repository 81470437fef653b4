use Rattle.std.proofs.Common.{take}
use Rattle.pcap_trace.proofs.PacketLoop.{AreOf}
use Rattle.pcap_trace.proofs.packets.records_of.Given as goal

abbrev pub invariant-loop-i : goal.invariant-loop-i
invariant-loop-i l = AreOf l.records.items (take l.i l.packets)
