use Rattle.std.proofs.Common.{◌≡◌, drop, map}
use Rattle.flat_ir.specs.Registers.{packet_of}
use Rattle.switch_machine.specs.Ready.{all_placed, ready_gives, ready_of}
use Rattle.switch_machine.proofs.passes.run_steps.Given as goal

abbrev pub invariant-loop-step : goal.invariant-loop-step
invariant-loop-step g l =
    all_placed l.registers (ready_gives (map ready_of (drop l.step-index l.steps)) (g.G.Numbers.reads l.numbers) (g.L.Lookup.seen l.tables) (packet_of l.arrival))
    ≡ all_placed l.fn.registers (ready_gives (map ready_of l.steps) (g.G.Numbers.reads l.numbers) (g.L.Lookup.seen l.tables) (packet_of l.arrival))
