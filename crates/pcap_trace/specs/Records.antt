-- The records of a capture.
use Rattle.std.specs.Prelude.{ℕ, ◌<◌, ◌≤◌, ◌^◌, List, length}
use Rattle.std.specs.List.{AllByRecursion as Each}
use Rattle.packet_fields.specs.Several.{AreBytes}
use Rattle.packet_fields.specs.Sizes.{largest_packet}
use Rattle.pcap_trace.specs.declared.records.Record.{Record}

-- the numbers have 32 bits, the bytes 8, and there are at most 9,216 bytes
pub record IsRecord (r : Record) : Type 0 where
  pub seconds : r.seconds < 2 ^ 32
  pub fraction : r.fraction < 2 ^ 32
  pub original : r.original < 2 ^ 32
  pub bytes : AreBytes r.bytes
  pub size : length r.bytes ≤ largest_packet

-- the most records of a capture
abbrev pub most_records : ℕ
most_records = 16384

-- what the records of a capture are
pub record AreRecords (records : List Record) : Type 0 where
  pub each : Each IsRecord records
  pub few : length records ≤ most_records
