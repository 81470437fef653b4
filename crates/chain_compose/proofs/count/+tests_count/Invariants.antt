use Rattle.std.proofs.Common.{length}
use Rattle.chain_compose.proofs.count.+tests_count.Given as goal

abbrev pub decreases-tests_count : goal.decreases-tests_count
decreases-tests_count l = length l.wires.now
