-- How large a trace and a schedule may be.
use Rattle.std.specs.Prelude.{ℕ}

-- the most packets of a trace
abbrev pub most_packets : ℕ
most_packets = 16384

-- the most events of a schedule
abbrev pub most_events : ℕ
most_events = 1048576
