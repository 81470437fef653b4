-- The packets that are made.
use Rattle.std.specs.Prelude.{ℕ, ◌+◌, ◌-◌, ◌*◌, ◌/◌, ◌%◌, List, [], ◌∷◌, ◌++◌, map}
use Rattle.std.specs.List.{range_with_len}
use Rattle.packet_fields.specs.declared.field.Field.TheVariants.{TcpSport, TcpSum}
use Rattle.packet_fields.specs.declared.packet.Packet.{Packet}
use Rattle.packet_fields.specs.Several.{with_settings}

-- an Ethernet header of IPv4 (IEEE 802.3), an IPv4 header from 10.0.0.1 to 198.51.100.7 (RFC 791), and the TCP header of
-- a SYN from port 5000 to port 80 (RFC 9293), each with its checksum
abbrev pub ethernet_header : List ℕ
ethernet_header =
    0x02 ∷ 0x00 ∷ 0x00 ∷ 0x00 ∷ 0x00 ∷ 0x01 ∷ 0x02 ∷ 0x00 ∷ 0x00 ∷ 0x00 ∷ 0x00 ∷ 0x02 ∷ 0x08 ∷ 0x00 ∷ []

abbrev pub ip_header : List ℕ
ip_header =
    0x45 ∷ 0x00 ∷ 0x00 ∷ 0x28 ∷ 0x00 ∷ 0x01 ∷ 0x40 ∷ 0x00 ∷ 0x40 ∷ 0x06 ∷ 0x06 ∷ 0x94 ∷ 0x0a ∷ 0x00 ∷ 0x00 ∷ 0x01 ∷ 0xc6 ∷ 0x33 ∷ 0x64 ∷ 0x07 ∷ []

abbrev pub tcp_header : List ℕ
tcp_header =
    0x13 ∷ 0x88 ∷ 0x00 ∷ 0x50 ∷ 0x00 ∷ 0x00 ∷ 0x00 ∷ 0x00 ∷ 0x00 ∷ 0x00 ∷ 0x00 ∷ 0x00 ∷ 0x50 ∷ 0x02 ∷ 0x20 ∷ 0x00 ∷ 0x47 ∷ 0xcf ∷ 0x00 ∷ 0x00 ∷ []

abbrev pub first_frame : List ℕ
first_frame = ethernet_header ++ (ip_header ++ tcp_header)

-- the frame of a flow: its source port is so much greater, and its checksum so much less
abbrev pub frame_of : ℕ → List ℕ
frame_of flow =
    with_settings first_frame
    (record { field = TcpSport; value = 5000 + flow } ∷ (record { field = TcpSum; value = 0x47cf - flow } ∷ []))

-- The flow of a packet. A round has 16 packets, two of each of its 8 flows; after 128 rounds the flows come again, and
-- the seed tells with which round they begin.
abbrev pub flow_of : ℕ → ℕ → ℕ
flow_of seed number = (seed % 128 + number / 16) % 128 * 8 + number % 8

-- all come from inside
abbrev pub packet_of : ℕ → ℕ → Packet
packet_of seed number = record { port = 0; bytes = frame_of (flow_of seed number) }

-- so many packets, by number from 0
abbrev pub packets_of : ℕ → ℕ → List Packet
packets_of seed count = map (packet_of seed) (range_with_len 0 count)
