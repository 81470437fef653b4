use Rattle.std.proofs.Common.{length}
use Rattle.chain_compose.proofs.depth.+tests_depth.Given as goal

abbrev pub decreases-tests_depth : goal.decreases-tests_depth
decreases-tests_depth l = length l.wires.now
