-- The headers that a packet has: Ethernet (IEEE 802.3), a VLAN tag (IEEE 802.1Q), IPv4 (RFC 791), TCP (RFC 9293), UDP
-- (RFC 768).
use Rattle.std.specs.Prelude.{ℕ, ◌+◌, ◌-◌, ◌*◌, Bool, List, length, Option, Some, None, ◌&&◌, ◌==◌, nat_le}
use Rattle.std.specs.Prelude.{if◌then◌else◌}
use Rattle.packet_fields.specs.declared.field.Field.{Field}
use Rattle.packet_fields.specs.declared.field.Field.TheVariants.{EthType, IpVersion, IpIhl, IpFrag, IpProto}
use Rattle.packet_fields.specs.declared.field.Header.{Header}
use Rattle.packet_fields.specs.declared.field.Header.TheVariants.{Meta, Ethernet, Vlan, Ip, Tcp, Udp}
use Rattle.packet_fields.specs.declared.shape.Shape.{Shape}
use Rattle.packet_fields.specs.Bits.{number_at}
use Rattle.packet_fields.specs.Table.{row}

-- what of a packet says which headers it has: how many bytes it has, whether a VLAN tag is there, where the network
-- header starts, the network type, and four fields of IPv4
pub record Outline : Type 0 where
  pub bytes : ℕ
  pub tagged : Bool
  pub network : ℕ
  pub type : ℕ
  pub version : ℕ
  pub ihl : ℕ
  pub fragment : ℕ
  pub protocol : ℕ

-- a field's number in a header that starts at a byte of the packet
abbrev pub in_header : List ℕ → ℕ → Field → ℕ
in_header bytes start f = number_at bytes (8 * start + (row f).at) (row f).width

-- a VLAN tag has 4 bytes behind the 14 of an Ethernet header, whose type says that it is there
abbrev pub has_tag : List ℕ → Bool
has_tag bytes = nat_le 18 (length bytes) && in_header bytes 0 EthType == 0x8100

-- the network header starts behind the VLAN tag, and else behind the Ethernet header
abbrev pub network_start : List ℕ → ℕ
network_start bytes = if has_tag bytes then 18 else 14

-- the network type is in the two bytes in front of the network header
abbrev pub network_type : List ℕ → ℕ
network_type bytes = number_at bytes (8 * (network_start bytes - 2)) 16

-- the outline of a packet, as far as it has these bytes
abbrev pub outline_of : List ℕ → Outline
outline_of bytes = record {
  bytes = length bytes;
  tagged = has_tag bytes;
  network = network_start bytes;
  type = network_type bytes;
  version = in_header bytes (network_start bytes) IpVersion;
  ihl = in_header bytes (network_start bytes) IpIhl;
  fragment = in_header bytes (network_start bytes) IpFrag;
  protocol = in_header bytes (network_start bytes) IpProto;
}

-- the first byte behind an IPv4 header
abbrev pub after_ip : Outline → ℕ
after_ip o = o.network + 4 * o.ihl

-- the type is that of IPv4, the version 4, and the header has at least 5 words, which the packet holds
abbrev pub has_ip : Outline → Bool
has_ip o = nat_le (o.network + 20) o.bytes && o.type == 0x0800 && o.version == 4 && nat_le 5 o.ihl
    && nat_le (after_ip o) o.bytes

-- the first fragment of this protocol, with so many bytes behind the IPv4 header
abbrev pub carries : Outline → ℕ → ℕ → Bool
carries o protocol bytes = has_ip o && o.fragment == 0 && o.protocol == protocol && nat_le (after_ip o + bytes) o.bytes

-- the headers by the outline: a VLAN tag follows the Ethernet header, which has 14 bytes, a TCP header has 20 and a UDP
-- header 8
unfoldable pub shape_from : Outline → Shape
shape_from o = record {
  ethernet = if nat_le 14 o.bytes then Some 0 else None;
  vlan = if o.tagged then Some 14 else None;
  ip = if has_ip o then Some o.network else None;
  tcp = if carries o 6 20 then Some (after_ip o) else None;
  udp = if carries o 17 8 then Some (after_ip o) else None;
}

-- the headers of a packet
unfoldable pub shape_of : List ℕ → Shape
shape_of bytes = shape_from (outline_of bytes)

-- the byte at which a header starts
abbrev pub start_of : Shape → Header → Option ℕ
start_of shape Meta = None
start_of shape Ethernet = shape.ethernet
start_of shape Vlan = shape.vlan
start_of shape Ip = shape.ip
start_of shape Tcp = shape.tcp
start_of shape Udp = shape.udp
