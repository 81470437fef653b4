use Rattle.std.proofs.Common.{drop, map}
use Rattle.flat_ir.specs.Registers.{packet_of}
use Rattle.switch_machine.specs.Ready.{all_placed, reads_at, ready_gives, ready_of}
use Rattle.switch_machine.proofs.WaitingResults.{StandsDirectly}
use Rattle.switch_machine.proofs.passes.run_directly.Given as goal

abbrev pub invariant-loop-step : goal.invariant-loop-step
invariant-loop-step g l =
    let tables = g.L.Lookup.seen l.tables in
    StandsDirectly tables (packet_of l.arrival) (map ready_of (drop l.step-index l.steps)) l.fn.registers l.registers
    (all_placed l.fn.registers (ready_gives (map ready_of l.steps) (reads_at l.fn.registers.numbers) tables (packet_of l.arrival)))
