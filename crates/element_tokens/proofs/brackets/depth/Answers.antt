use Rattle.element_tokens.proofs.Depths.{deep_more}
use Rattle.element_tokens.proofs.brackets.depth.Goals as goal

pub loop-placed-preserved : goal.loop-placed-preserved
loop-placed-preserved c =
    deep_more c.args.text.now c.args.tokens.now c.loop-placed.placed-index c.loop-placed.current c.loop-placed.most c.open_behind-current.result c.max-most.result _ c.loop-placed-test.true c.loop-placed.invariant c.open_behind-current.ensures c.max-most.ensures
