use Rattle.std.proofs.Common.{◌∷◌, [], refl}
use Rattle.transfer_header.proofs.PlacedNumbers.{put_more}
use Rattle.transfer_header.proofs.ready.put_first.Goals as goal

pub loop-index-preserved : goal.loop-index-preserved
loop-index-preserved c =
    put_more c.args.places.now (c.args.number ∷ []) c.loop-index.index c.args.registers.now c.loop-index.registers c.set_at.new.self
    _ c.only_at.result c.loop-index.invariant c.set_at.ensures refl c.only_at.ensures
