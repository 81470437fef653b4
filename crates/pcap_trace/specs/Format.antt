-- The bytes of a capture, in the savefile format of libpcap, pcap-savefile(5).
use Rattle.std.specs.Prelude.{ℕ, ◌<◌, ◌≤◌, ◌^◌, Bool, true, false, List, ◌++◌, length}
use Rattle.std.specs.Int.{Width, w16, w32, to_be_bytes, to_le_bytes}
use Rattle.std.specs.List.{AllByRecursion as Each, flat_map}
use Rattle.pcap_trace.specs.declared.pcap.Pcap.{Pcap}
use Rattle.pcap_trace.specs.declared.records.Record.{Record}
use Rattle.pcap_trace.specs.Records.{IsRecord, most_records}

-- a number of so many bits: its highest byte comes first where `big`, else its lowest
unfoldable pub number : Bool → Width → ℕ → List ℕ
number true width n = to_be_bytes width n
number false width n = to_le_bytes width n

-- the number in front of a capture whose times have nanoseconds, or microseconds
abbrev pub magic : Bool → ℕ
magic true = 0xa1b23c4d
magic false = 0xa1b2c3d4

-- that number and the version, 2.4
unfoldable pub front : Bool → Bool → List ℕ
front big nano = number big w32 (magic nano) ++ (number big w16 2 ++ number big w16 4)

-- the link type of Ethernet
abbrev pub ethernet : ℕ
ethernet = 1

-- the header of a capture: order and unit, zone, figures, snap length, and the link type
unfoldable pub header : Bool → Bool → ℕ → ℕ → ℕ → List ℕ
header big nano zone sigfigs snaplen = front big nano ++ (number big w32 zone
    ++ (number big w32 sigfigs ++ (number big w32 snaplen ++ number big w32 ethernet)))

-- what stands in front of a record's bytes: seconds, fraction, how many bytes were captured, and how many there were
unfoldable pub record_header : Bool → ℕ → ℕ → ℕ → ℕ → List ℕ
record_header big seconds fraction captured original = number big w32 seconds
    ++ (number big w32 fraction ++ (number big w32 captured ++ number big w32 original))

-- the bytes of a record
unfoldable pub record_bytes : Bool → Record → List ℕ
record_bytes big r = record_header big r.seconds r.fraction (length r.bytes) r.original ++ r.bytes

-- the bytes of a capture: its header, and its records one after another
unfoldable pub pcap_bytes : Pcap → List ℕ
pcap_bytes p = header p.big p.nano p.zone p.sigfigs p.snaplen ++ flat_map (record_bytes p.big) p.records

-- the numbers of a capture have 32 bits, and its records are records; there may be any number of them
pub record IsCapture (p : Pcap) : Type 0 where
  pub zone : p.zone < 2 ^ 32
  pub sigfigs : p.sigfigs < 2 ^ 32
  pub snaplen : p.snaplen < 2 ^ 32
  pub records : Each IsRecord p.records

-- a capture that is taken: it has at most 16,384 records
pub record IsPcap (p : Pcap) : Type 0 where
  pub capture : IsCapture p
  pub few : length p.records ≤ most_records
