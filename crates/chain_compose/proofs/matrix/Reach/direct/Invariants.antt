use Rattle.element_chain.specs.Wiring.{is_joined}
use Rattle.chain_compose.proofs.Shown.{HasRows}
use Rattle.chain_compose.proofs.matrix.Reach.direct.Given as goal

abbrev pub invariant-loop-place : goal.invariant-loop-place
invariant-loop-place l = HasRows l.rows.items l.count (is_joined l.wires) l.place
