use Rattle.std.proofs.Common.{refl}
use Rattle.flat_ir.specs.Registers.{results_of}
use Rattle.transfer_header.proofs.PlacedNumbers.{put_more}
use Rattle.switch_machine.proofs.passes.put_list.Goals as goal

pub loop-index-preserved : goal.loop-index-preserved
loop-index-preserved c =
    put_more c.args.places.now (results_of c.args.row.now) c.loop-index.index c.args.registers.now c.loop-index.registers c.set_at.new.self
    _ c.result_at.result c.loop-index.invariant c.set_at.ensures refl c.result_at.ensures
