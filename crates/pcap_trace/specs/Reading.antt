-- Records where they stand.
use Rattle.std.specs.Prelude.{◌≡◌, ℕ, ◌+◌, ◌<◌, ◌≤◌, ◌^◌, Bool, List, length, take}
use Rattle.packet_fields.specs.Sizes.{largest_packet}
use Rattle.pcap_trace.specs.declared.records.Record.{Record}
use Rattle.pcap_trace.specs.declared.records.RecordHeader.{RecordHeader}
use Rattle.pcap_trace.specs.declared.refusal.PcapError.{PcapError}
use Rattle.pcap_trace.specs.declared.refusal.PcapError.TheVariants as errors
use Rattle.pcap_trace.specs.Format.{record_header}
use Rattle.pcap_trace.specs.Refused.{IsCut, IsLong}

-- the record of a header and captured bytes
abbrev pub record_with : RecordHeader → List ℕ → Record
record_with h bytes =
    record { seconds = h.seconds; fraction = h.fraction; original = h.original; bytes = bytes }

-- the numbers of a header have 32 bits
pub record HasFields (h : RecordHeader) : Type 0 where
  pub seconds : h.seconds < 2 ^ 32
  pub fraction : h.fraction < 2 ^ 32
  pub captured : h.captured < 2 ^ 32
  pub original : h.original < 2 ^ 32

-- the rest begins with this header, and what it tells to be captured is there and no longer than a packet
pub record IsWhole (big : Bool) (rest : List ℕ) (h : RecordHeader) : Type 0 where
  pub text : take 16 rest ≡ record_header big h.seconds h.fraction h.captured h.original
  pub size : h.captured ≤ largest_packet
  pub there : 16 + h.captured ≤ length rest
  pub fits : HasFields h

-- why no record that is taken stands at this byte, where the rest begins
abbrev pub IsStop : Bool → List ℕ → ℕ → PcapError → Type 0
IsStop big rest at (errors.Long place) = (place ≡ at) × IsLong big rest
IsStop big rest at (errors.Record place) = (place ≡ at) × IsCut big rest
IsStop big rest at _ = ⊥
