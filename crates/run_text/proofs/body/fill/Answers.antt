use Rattle.std.proofs.Common.{arith}
use Rattle.run_text.proofs.Bodies.{fills_all, fills_more}
use Rattle.run_text.proofs.body.fill.Goals as goal

pub loop-at-preserved : goal.loop-at-preserved
loop-at-preserved c = fills_more c.args.digits.now c.loop-at.bytes c.loop-at.at c.byte_of.result (omega arith) c.byte_of.ensures c.loop-at.invariant

pub returns : goal.returns
returns c = λ found h same. fills_all c.args.digits.now c.loop-at.bytes c.loop-at.at (omega arith) c.loop-at.invariant found h (omega arith)
