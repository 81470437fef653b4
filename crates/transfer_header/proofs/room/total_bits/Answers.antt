use Rattle.std.proofs.Common.{arith}
use Rattle.split_model.proofs.Sums.{bits_more}
use Rattle.transfer_header.proofs.room.total_bits.Goals as goal

pub loop-crossing-preserved : goal.loop-crossing-preserved
loop-crossing-preserved c = record {
  bits = omega (arith, bits_more c.as_slice-crossing-items.result.now c.loop-crossing.crossing-index c.crossing-item.result c.loop-crossing-test.true c.crossing-item.is);
  near = omega (arith, c.bits.ensures.range);
}
