-- How many packets may be made.
use Rattle.std.specs.Prelude.{◌≤◌, ℕ}
use Rattle.run_model.specs.Sizes.{most_packets}

-- at least one, and no more than a trace may have
abbrev pub IsCount : ℕ → Type 0
IsCount packets = (1 ≤ packets) × (packets ≤ most_packets)
