use Rattle.std.proofs.Common.{arith}
use Rattle.chain_text.proofs.Tables.{joined_next}
use Rattle.chain_text.proofs.reach.Reach.direct.Goals as goal

pub loop-wire-preserved : goal.loop-wire-preserved
loop-wire-preserved c = record {
  size = c.join.ensures.size;
  so_far = joined_next c.args.wires.now c.loop-wire.rows.items c.join.new.rows.items c.args.count c.loop-wire.wire-index _
      (omega (arith, c.loop-wire.rows.ok, c.loop-wire.invariant.size)) c.loop-wire-test.true c.requires.within c.join.ensures.rows c.loop-wire.invariant.so_far;
}
