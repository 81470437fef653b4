use Rattle.std.proofs.Common.{[], map, refl}
use Rattle.flat_ir.specs.Registers.{packet_of}
use Rattle.switch_machine.specs.Ready.{all_placed, reads_at, ready_gives, ready_of}
use Rattle.switch_machine.proofs.PlacedSteps.{ready_can}
use Rattle.switch_machine.proofs.WaitingResults.{direct_more}
use Rattle.lemmas.proofs.Lists.{drop_past}
use Rattle.switch_machine.proofs.passes.run_directly.Goals as goal

pub run_directly-requires-clause-can : goal.run_directly-requires-clause-can
run_directly-requires-clause-can g c =
    ready_can c.args.steps.now c.loop-step.step-index c.step-item.result c.requires.can c.loop-step-test.true c.step-item.is

pub loop-step-init : goal.loop-step-init
loop-step-init g c = record { written = []; direct = c.requires.direct; others = λ place none. refl; gives = refl }

pub loop-step-preserved : goal.loop-step-preserved
loop-step-preserved g c =
    let tables = g.L.Lookup.seen c.args.tables.now in
    let packet = packet_of c.args.arrival.now in
    let start = c.args.registers.now in
    let before = c.loop-step.registers in
    let step = c.step-item.result in
    direct_more tables packet c.args.steps.now c.loop-step.step-index step start before c.run_directly.new.registers
    (all_placed start (ready_gives (map ready_of c.args.steps.now) (reads_at start.numbers) tables packet)) c.loop-step-test.true c.step-item.is
    c.loop-step.invariant c.run_directly.ensures

pub returns : goal.returns
returns g c = rw (drop_past c.args.steps.now c.loop-step.step-index c.loop-step-test.false) at c.loop-step.invariant.gives
