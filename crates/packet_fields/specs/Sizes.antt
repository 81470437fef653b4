-- How large a packet may be.
use Rattle.std.specs.Prelude.{ℕ}

-- the most bytes of a packet: a jumbo frame's
abbrev pub largest_packet : ℕ
largest_packet = 9216
