-- Packets that may arrive.
use Rattle.std.specs.Prelude.{ℕ, ◌<◌, ◌≤◌, ◌^◌, List, All, length, slice_index}
use Rattle.packet_fields.specs.declared.packet.Packet.{Packet}
use Rattle.packet_fields.specs.Sizes.{largest_packet}

-- the port and each byte have 8 bits, and there are at most 9,216 bytes
pub record IsArrival (packet : Packet) : Type 0 where
  pub port : packet.port < 2 ^ 8
  pub bytes : (i : ℕ) → slice_index packet.bytes i < 2 ^ 8
  pub size : length packet.bytes ≤ largest_packet

-- each of these packets may arrive
abbrev pub AreArrivals : List Packet → Type 0
AreArrivals packets = All IsArrival packets
