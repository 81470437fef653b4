use Rattle.std.proofs.Common.{◌≡◌, ◌≤◌, ◌+◌, ◌++◌, drop, length, map, vec_capacity, vec_len}
use Rattle.flat_ir.specs.Registers.{packet_of}
use Rattle.switch_machine.specs.Ready.{only_numbers, ready_gives, ready_of, targets_of}
use Rattle.switch_machine.proofs.passes.collect.Given as goal

abbrev pub invariant-loop-step : goal.invariant-loop-step
invariant-loop-step g l = record {
  items : l.results.items
      ++ only_numbers (ready_gives (map ready_of (drop l.step-index l.steps)) (g.G.Numbers.reads l.numbers) (g.L.Lookup.seen l.tables) (packet_of l.arrival))
      ≡ only_numbers (ready_gives (map ready_of l.steps) (g.G.Numbers.reads l.numbers) (g.L.Lookup.seen l.tables) (packet_of l.arrival));
  room : vec_len l.results + length (targets_of (map ready_of (drop l.step-index l.steps))) ≤ vec_capacity l.results;
  capacity : vec_capacity l.results ≡ vec_capacity l.fn.results;
}
