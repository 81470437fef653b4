use Rattle.std.proofs.Common.{map}
use Rattle.flat_ir.specs.Registers.{packet_of}
use Rattle.switch_machine.specs.Ready.{all_placed, ready_gives, ready_of}
use Rattle.switch_machine.proofs.PlacedSteps.{ready_can, ready_more}
use Rattle.switch_machine.proofs.passes.run_steps.Goals as goal

pub run-requires-clause-can : goal.run-requires-clause-can
run-requires-clause-can g c =
    ready_can c.args.steps.now c.loop-step.step-index c.step-item.result c.requires.can c.loop-step-test.true c.step-item.is

pub loop-step-preserved : goal.loop-step-preserved
loop-step-preserved g c =
    let reads = g.G.Numbers.reads c.args.numbers.now in
    let tables = g.L.Lookup.seen c.args.tables.now in
    let packet = packet_of c.args.arrival.now in
    ready_more reads tables packet c.args.steps.now c.loop-step.step-index c.step-item.result c.loop-step.registers c.run.new.registers
    (all_placed c.args.registers.now (ready_gives (map ready_of c.args.steps.now) reads tables packet)) c.loop-step-test.true c.step-item.is
    c.run.ensures c.loop-step.invariant
