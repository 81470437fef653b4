use Rattle.chain_compose.specs.Reach.{ShowsBy}
use Rattle.chain_compose.proofs.matrix.Reach.new.Given as goal

abbrev pub invariant-loop-through : goal.invariant-loop-through
invariant-loop-through l = ShowsBy l.wires l.count l.through l.reach
