use Rattle.std.proofs.Common.{◌∙◌, ℕ, List, ap, length, map, sym}
use Rattle.flat_ir.specs.Registers.{packet_of}
use Rattle.switch_machine.specs.declared.ready.ReadyStep.{ReadyStep}
use Rattle.switch_machine.specs.Ready.{all_placed, only_numbers, reads_at, ready_gives, ready_of, targets_of}
use Rattle.switch_machine.proofs.WaitingResults.{numbers_count, waiting_are}
use Rattle.switch_machine.proofs.passes.run_stage.Goals as goal

pub run_directly-requires-clause-can : goal.run_directly-requires-clause-can
run_directly-requires-clause-can g c = rw c.steps.ensures c.requires.can

pub run_directly-requires-clause-direct : goal.run_directly-requires-clause-direct
run_directly-requires-clause-direct g c = rw c.steps.ensures (c.is_direct.ensures c.if-is_direct.true)

pub returns-then-is_direct-clause-written : goal.returns-then-is_direct-clause-written
returns-then-is_direct-clause-written g c = rw c.steps.ensures at c.run_directly.ensures

pub collect-requires-clause-can : goal.collect-requires-clause-can
collect-requires-clause-can g c = rw c.steps-2.ensures c.requires.can

pub collect-requires-clause-room : goal.collect-requires-clause-room
collect-requires-clause-room g c = rw c.steps-2.ensures c.requires.room

pub put_all-requires : goal.put_all-requires
put_all-requires g c =
    ap length (c.as_slice-2.ensures.value ∙ c.collect.ensures.items)
    ∙ numbers_count (map ready_of c.steps-2.result.now) (reads_at c.as_slice.result.now) (g.L.Lookup.seen c.args.tables.now) (packet_of c.args.arrival.now)
    ∙ ap (λ (ss : List ReadyStep). length (targets_of (map ready_of ss))) c.steps-2.ensures
    ∙ sym (ap length c.targets.ensures)

pub returns-clause-written : goal.returns-clause-written
returns-clause-written g c =
    let registers = c.args.registers.now in
    let tables = g.L.Lookup.seen c.args.tables.now in
    let packet = packet_of c.args.arrival.now in
    let rs = map ready_of c.args.stage.now in
    c.put_all.ensures
    ∙ ap (all_placed registers)
    (waiting_are rs (reads_at registers.numbers) tables packet c.targets.result.now c.as_slice-2.result.now c.targets.ensures
    (c.as_slice-2.ensures.value ∙ c.collect.ensures.items
    ∙ ap (λ (ss : List ReadyStep). only_numbers (ready_gives (map ready_of ss) (reads_at c.as_slice.result.now) tables packet)) c.steps-2.ensures
    ∙ ap (λ (ns : List ℕ). only_numbers (ready_gives rs (reads_at ns) tables packet)) c.as_slice.ensures.numbers))
