use Rattle.switch_ir.proofs.Places.{fits_at, one_more_runs}
use Rattle.switch_ir.proofs.emitter.all_run.Goals as goal

pub what_fits_can_run-requires : goal.what_fits_can_run-requires
what_fits_can_run-requires c =
    fits_at c.args.f.now c.as_slice-instr-items.result.now c.loop-instr.instr-index c.instr-item.result c.requires
    c.as_slice-instr-items.ensures c.loop-instr-test.true c.instr-item.is

pub loop-instr-preserved : goal.loop-instr-preserved
loop-instr-preserved c =
    one_more_runs c.args.f.now c.as_slice-instr-items.result.now c.loop-instr.instr-index c.instr-item.result
    c.as_slice-instr-items.ensures c.loop-instr-test.true c.instr-item.is c.what_fits_can_run.ensures c.loop-instr.invariant
