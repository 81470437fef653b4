use Rattle.std.proofs.Common.{arith}
use Rattle.split_model.proofs.Sums.{bits_more}
use Rattle.split_model.proofs.layout.layout_bytes.Goals as goal

pub loop-crossing-preserved : goal.loop-crossing-preserved
loop-crossing-preserved c =
    let more = bits_more c.args.layout.now c.loop-crossing.crossing-index c.crossing-item.result (omega arith) c.crossing-item.is in
    record { so_far = omega (arith, more); few = omega arith }
