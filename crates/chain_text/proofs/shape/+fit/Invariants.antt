use Rattle.std.proofs.Common.{length}
use Rattle.chain_text.proofs.shape.+fit.Given as goal

abbrev pub decreases-fit : goal.decreases-fit
decreases-fit l = length l.kinds.now
