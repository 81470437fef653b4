use Rattle.std.proofs.Common.{◌≤◌, length, sym, subst, arith, IsTrue}
use Rattle.flat_ir.specs.Program.{Step, program_of, step_of}
use Rattle.flat_ir.specs.Fits.{fits}
use Rattle.flat_ir.specs.Registers.{packet_of}
use Rattle.flat_ir.proofs.Steps.{step_is, turn_taken, within_code}
use Rattle.flat_ir.proofs.eval.take_turn.Goals as goal

pub compute-requires-clause-block_in_range : goal.compute-requires-clause-block_in_range
compute-requires-clause-block_in_range c =
    let instr = c.index-as_slice-i.result in
    subst (λ (s : Step). s.block ≤ length c.args.f.now.blocks) (sym (step_is c.args.f.now c.args.i instr c.as_slice.result.now c.as_slice.ensures c.requires.within c.index-as_slice-i.is)) (c.requires.well.blocks c.args.i (within_code c.args.f.now c.args.i c.requires.within))

pub compute-requires-clause-fits : goal.compute-requires-clause-fits
compute-requires-clause-fits c =
    let instr = c.index-as_slice-i.result in
    subst (λ (s : Step). IsTrue (fits (program_of c.args.f.now) s.work)) (sym (step_is c.args.f.now c.args.i instr c.as_slice.result.now c.as_slice.ensures c.requires.within c.index-as_slice-i.is)) (c.requires.well.fit c.args.i (within_code c.args.f.now c.args.i c.requires.within))

pub returns-clause-turn : goal.returns-clause-turn
returns-clause-turn c =
    let instr = c.index-as_slice-i.result in
    turn_taken (program_of c.args.f.now) (packet_of c.args.arrival.now) c.args.i c.args.rows.now c.args.store.now c.compute.new.store c.compute.result (step_of instr)
    (step_is c.args.f.now c.args.i instr c.as_slice.result.now c.as_slice.ensures c.requires.within c.index-as_slice-i.is)
    c.compute.ensures.results c.compute.ensures.after c.requires.row
