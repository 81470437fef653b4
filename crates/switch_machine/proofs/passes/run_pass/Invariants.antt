use Rattle.std.proofs.Common.{◌≡◌, vec_capacity}
use Rattle.flat_ir.specs.Registers.{packet_of}
use Rattle.switch_machine.specs.Ready.{placed_at}
use Rattle.switch_machine.proofs.passes.run_pass.Given as goal

abbrev pub invariant-loop-stage : goal.invariant-loop-stage
invariant-loop-stage g l = record {
  written : l.registers ≡ placed_at l.stages (g.L.Lookup.seen l.tables) (packet_of l.arrival) l.fn.registers l.stage;
  capacity : vec_capacity l.results ≡ vec_capacity l.fn.results;
}
