-- The fields of a packet: one row for each, in field order.
use Rattle.std.specs.Prelude.{ℕ, Bool, true, false, List, [], ◌∷◌, map, Option, codes, find}
use Rattle.std.specs.Str.{bytes_eq}
use Rattle.packet_fields.specs.declared.field.Field.{Field}
use Rattle.packet_fields.specs.declared.field.Field.TheVariants.{MetaPort, MetaLen, HasIp, HasTcp, HasUdp, EthDst}
use Rattle.packet_fields.specs.declared.field.Field.TheVariants.{EthSrc, EthType, VlanPcp, VlanDei, VlanId, IpVersion}
use Rattle.packet_fields.specs.declared.field.Field.TheVariants.{IpIhl, IpTos, IpLen, IpId, IpFlags, IpFrag, IpTtl}
use Rattle.packet_fields.specs.declared.field.Field.TheVariants.{IpProto, IpSum, IpSrc, IpDst}
use Rattle.packet_fields.specs.declared.field.Field.TheVariants.{TcpSport, TcpDport, TcpSeq, TcpAck, TcpOff, TcpRes}
use Rattle.packet_fields.specs.declared.field.Field.TheVariants.{TcpFlags, TcpWin, TcpSum, TcpUrg, UdpSport, UdpDport}
use Rattle.packet_fields.specs.declared.field.Field.TheVariants.{UdpLen, UdpSum}
use Rattle.packet_fields.specs.declared.field.Header.{Header}
use Rattle.packet_fields.specs.declared.field.Header.TheVariants.{Meta, Ethernet, Vlan, Ip, Tcp, Udp}

-- a field's name, the header that it stands in, its first bit there, how many bits it has, and whether it may be
-- written
pub record FieldRow : Type 0 where
  pub name : List ℕ
  pub header : Header
  pub at : ℕ
  pub width : ℕ
  pub writable : Bool

-- the row of a field
abbrev pub row : Field → FieldRow
row MetaPort = record { name = codes "meta.port"; header = Meta; at = 0; width = 8; writable = false }
row MetaLen = record { name = codes "meta.len"; header = Meta; at = 0; width = 16; writable = false }
row HasIp = record { name = codes "has.ip"; header = Meta; at = 0; width = 1; writable = false }
row HasTcp = record { name = codes "has.tcp"; header = Meta; at = 0; width = 1; writable = false }
row HasUdp = record { name = codes "has.udp"; header = Meta; at = 0; width = 1; writable = false }
row EthDst = record { name = codes "eth.dst"; header = Ethernet; at = 0; width = 48; writable = true }
row EthSrc = record { name = codes "eth.src"; header = Ethernet; at = 48; width = 48; writable = true }
row EthType = record { name = codes "eth.type"; header = Ethernet; at = 96; width = 16; writable = false }
row VlanPcp = record { name = codes "vlan.pcp"; header = Vlan; at = 0; width = 3; writable = true }
row VlanDei = record { name = codes "vlan.dei"; header = Vlan; at = 3; width = 1; writable = true }
row VlanId = record { name = codes "vlan.id"; header = Vlan; at = 4; width = 12; writable = true }
row IpVersion = record { name = codes "ip.version"; header = Ip; at = 0; width = 4; writable = false }
row IpIhl = record { name = codes "ip.ihl"; header = Ip; at = 4; width = 4; writable = false }
row IpTos = record { name = codes "ip.tos"; header = Ip; at = 8; width = 8; writable = true }
row IpLen = record { name = codes "ip.len"; header = Ip; at = 16; width = 16; writable = true }
row IpId = record { name = codes "ip.id"; header = Ip; at = 32; width = 16; writable = true }
row IpFlags = record { name = codes "ip.flags"; header = Ip; at = 48; width = 3; writable = true }
row IpFrag = record { name = codes "ip.frag"; header = Ip; at = 51; width = 13; writable = false }
row IpTtl = record { name = codes "ip.ttl"; header = Ip; at = 64; width = 8; writable = true }
row IpProto = record { name = codes "ip.proto"; header = Ip; at = 72; width = 8; writable = false }
row IpSum = record { name = codes "ip.sum"; header = Ip; at = 80; width = 16; writable = true }
row IpSrc = record { name = codes "ip.src"; header = Ip; at = 96; width = 32; writable = true }
row IpDst = record { name = codes "ip.dst"; header = Ip; at = 128; width = 32; writable = true }
row TcpSport = record { name = codes "tcp.sport"; header = Tcp; at = 0; width = 16; writable = true }
row TcpDport = record { name = codes "tcp.dport"; header = Tcp; at = 16; width = 16; writable = true }
row TcpSeq = record { name = codes "tcp.seq"; header = Tcp; at = 32; width = 32; writable = true }
row TcpAck = record { name = codes "tcp.ack"; header = Tcp; at = 64; width = 32; writable = true }
row TcpOff = record { name = codes "tcp.off"; header = Tcp; at = 96; width = 4; writable = true }
row TcpRes = record { name = codes "tcp.res"; header = Tcp; at = 100; width = 4; writable = true }
row TcpFlags = record { name = codes "tcp.flags"; header = Tcp; at = 104; width = 8; writable = true }
row TcpWin = record { name = codes "tcp.win"; header = Tcp; at = 112; width = 16; writable = true }
row TcpSum = record { name = codes "tcp.sum"; header = Tcp; at = 128; width = 16; writable = true }
row TcpUrg = record { name = codes "tcp.urg"; header = Tcp; at = 144; width = 16; writable = true }
row UdpSport = record { name = codes "udp.sport"; header = Udp; at = 0; width = 16; writable = true }
row UdpDport = record { name = codes "udp.dport"; header = Udp; at = 16; width = 16; writable = true }
row UdpLen = record { name = codes "udp.len"; header = Udp; at = 32; width = 16; writable = true }
row UdpSum = record { name = codes "udp.sum"; header = Udp; at = 48; width = 16; writable = true }

-- all fields, in field order
unfoldable pub all_fields : List Field
all_fields =
    MetaPort ∷ MetaLen ∷ HasIp ∷ HasTcp ∷ HasUdp ∷ EthDst ∷ EthSrc ∷ EthType ∷ VlanPcp ∷ VlanDei ∷ VlanId
    ∷ IpVersion ∷ IpIhl ∷ IpTos ∷ IpLen ∷ IpId ∷ IpFlags ∷ IpFrag ∷ IpTtl ∷ IpProto ∷ IpSum ∷ IpSrc ∷ IpDst
    ∷ TcpSport ∷ TcpDport ∷ TcpSeq ∷ TcpAck ∷ TcpOff ∷ TcpRes ∷ TcpFlags ∷ TcpWin ∷ TcpSum ∷ TcpUrg ∷ UdpSport
    ∷ UdpDport ∷ UdpLen ∷ UdpSum ∷ []

-- how wide the fields are, in field order
abbrev pub field_widths : List ℕ
field_widths = map (λ f. (row f).width) all_fields

-- how many fields there are
abbrev pub field_count : ℕ
field_count = 37

-- the place of a field in field order, counted from 0
abbrev pub field_index : Field → ℕ
field_index MetaPort = 0
field_index MetaLen = 1
field_index HasIp = 2
field_index HasTcp = 3
field_index HasUdp = 4
field_index EthDst = 5
field_index EthSrc = 6
field_index EthType = 7
field_index VlanPcp = 8
field_index VlanDei = 9
field_index VlanId = 10
field_index IpVersion = 11
field_index IpIhl = 12
field_index IpTos = 13
field_index IpLen = 14
field_index IpId = 15
field_index IpFlags = 16
field_index IpFrag = 17
field_index IpTtl = 18
field_index IpProto = 19
field_index IpSum = 20
field_index IpSrc = 21
field_index IpDst = 22
field_index TcpSport = 23
field_index TcpDport = 24
field_index TcpSeq = 25
field_index TcpAck = 26
field_index TcpOff = 27
field_index TcpRes = 28
field_index TcpFlags = 29
field_index TcpWin = 30
field_index TcpSum = 31
field_index TcpUrg = 32
field_index UdpSport = 33
field_index UdpDport = 34
field_index UdpLen = 35
field_index UdpSum = 36

-- the field whose name these bytes are
abbrev pub field_named : List ℕ → Option Field
field_named name = find (λ f. bytes_eq (row f).name name) all_fields
