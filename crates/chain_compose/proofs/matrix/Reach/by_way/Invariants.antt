use Rattle.chain_compose.specs.Reach.{is_shown_by}
use Rattle.chain_compose.proofs.Shown.{HasRows}
use Rattle.chain_compose.proofs.matrix.Reach.by_way.Given as goal

abbrev pub invariant-loop-place : goal.invariant-loop-place
invariant-loop-place l = HasRows l.rows.items l.self.count (is_shown_by l.self l.through) l.place
