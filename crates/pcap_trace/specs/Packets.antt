-- The packets of a trace, out of a capture and into one.
use Rattle.std.specs.Prelude.{ℕ, suc, Bool, List, [], ◌∷◌, length, map}
use Rattle.packet_fields.specs.declared.packet.Packet.{Packet}
use Rattle.packet_fields.specs.Sizes.{largest_packet}
use Rattle.pcap_trace.specs.declared.pcap.Pcap.{Pcap}
use Rattle.pcap_trace.specs.declared.records.Record.{Record}

-- the captured bytes, arriving by this port
abbrev pub packet_of : ℕ → Record → Packet
packet_of port r = record { port = port; bytes = r.bytes }

-- a packet for each record
abbrev pub packets_of : Pcap → ℕ → List Packet
packets_of p port = map (packet_of port) p.records

-- a packet of these bytes, captured whole at this second
abbrev pub whole_record : ℕ → List ℕ → Record
whole_record second bytes = record { seconds = second; fraction = 0; original = length bytes; bytes = bytes }

-- a record for each packet, second by second
abbrev pub records_from : ℕ → List Packet → List Record
records_from second [] = []
records_from second (packet ∷ packets) = whole_record second packet.bytes ∷ records_from (suc second) packets

-- a capture of whole packets, of which packet i was captured at second i
abbrev pub pcap_of : List Packet → Bool → Bool → Pcap
pcap_of packets big nano = record {
  big = big;
  nano = nano;
  zone = 0;
  sigfigs = 0;
  snaplen = largest_packet;
  records = records_from 0 packets;
}
