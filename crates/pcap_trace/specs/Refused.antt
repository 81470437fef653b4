-- Why bytes are no capture that is taken.
use Rattle.std.specs.Prelude.{◌≡◌, ◌≢◌, ◌⊎◌, ℕ, ◌+◌, ◌<◌, ◌≤◌, ◌^◌, Bool, List, ◌++◌, length, take, drop}
use Rattle.std.specs.Int.{w32}
use Rattle.packet_fields.specs.Sizes.{largest_packet}
use Rattle.pcap_trace.specs.declared.pcap.Pcap.{Pcap}
use Rattle.pcap_trace.specs.declared.refusal.PcapError.{PcapError}
use Rattle.pcap_trace.specs.declared.refusal.PcapError.TheVariants as errors
use Rattle.pcap_trace.specs.Format.{IsCapture, ethernet, front, number, pcap_bytes}
use Rattle.pcap_trace.specs.Records.{most_records}

-- the bytes have a header's length, and begin as the captures of this order and unit
pub record Begins (bytes : List ℕ) (big nano : Bool) : Type 0 where
  pub long : 24 ≤ length bytes
  pub begin : take 8 bytes ≡ front big nano

-- the bytes begin with a capture, which ends at this byte; the rest stands behind it
pub record StandsIn (bytes : List ℕ) (p : Pcap) (rest : List ℕ) (at : ℕ) : Type 0 where
  pub capture : IsCapture p
  pub parts : bytes ≡ pcap_bytes p ++ rest
  pub place : at ≡ length (pcap_bytes p)

-- a record's header is there whole, and tells so many captured bytes
pub record Tells (big : Bool) (rest : List ℕ) (captured : ℕ) : Type 0 where
  pub long : 16 ≤ length rest
  pub fits : captured < 2 ^ 32
  pub told : take 4 (drop 8 rest) ≡ number big w32 captured

-- a record that tells more bytes than a packet may have
abbrev pub IsLong : Bool → List ℕ → Type 0
IsLong big rest = (captured : ℕ) × Tells big rest captured × (largest_packet < captured)

-- a record that lacks bytes of its header, or of those that it tells
abbrev pub IsCut : Bool → List ℕ → Type 0
IsCut big rest = ((0 < length rest) × (length rest < 16))
    ⊎ ((captured : ℕ) × Tells big rest captured × (captured ≤ largest_packet) × (length rest < 16 + captured))

-- the cause of each refusal
abbrev pub IsRefused : List ℕ → PcapError → Type 0
IsRefused bytes errors.Header = (big nano : Bool) → Begins bytes big nano → ⊥
IsRefused bytes errors.Link = (big : Bool) × (nano : Bool) × Begins bytes big nano
    × (take 4 (drop 20 bytes) ≢ number big w32 ethernet)
IsRefused bytes (errors.Long at) = (p : Pcap) × (rest : List ℕ) × StandsIn bytes p rest at × IsLong p.big rest
IsRefused bytes (errors.Record at) = (p : Pcap) × (rest : List ℕ) × StandsIn bytes p rest at × IsCut p.big rest
IsRefused bytes (errors.TooMany have) = (p : Pcap) × IsCapture p × (pcap_bytes p ≡ bytes)
    × (length p.records ≡ have) × (most_records < have)
IsRefused bytes errors.NoMemory = Unit {0}
