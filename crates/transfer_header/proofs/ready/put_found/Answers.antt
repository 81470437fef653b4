use Rattle.std.proofs.Common.{◌∷◌, refl}
use Rattle.gal_bits.specs.Operators.{bit}
use Rattle.transfer_header.proofs.PlacedNumbers.{put_more}
use Rattle.transfer_header.proofs.ready.put_found.Goals as goal

pub loop-index-preserved : goal.loop-index-preserved
loop-index-preserved c =
    let found = c.args.found.now in
    put_more c.args.places.now (bit found.found ∷ found.values) c.loop-index.index c.args.registers.now c.loop-index.registers c.set_at.new.self
    _ c.found_at.result c.loop-index.invariant c.set_at.ensures refl c.found_at.ensures
