use Rattle.std.proofs.Common.{◌≡◌, map}
use Rattle.std.specs.List.{range_with_len}
use Rattle.traffic_generator.specs.Packets.{packet_of}
use Rattle.traffic_generator.proofs.packets.packets_of.Given as goal

abbrev pub invariant-loop-number : goal.invariant-loop-number
invariant-loop-number l = l.packets ≡ map (packet_of l.seed) (range_with_len 0 l.number)
