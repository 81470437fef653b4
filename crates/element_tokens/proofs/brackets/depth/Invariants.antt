use Rattle.element_tokens.proofs.Depths.{Deep}
use Rattle.element_tokens.proofs.brackets.depth.Given as goal

abbrev pub invariant-loop-placed : goal.invariant-loop-placed
invariant-loop-placed l = Deep l.text l.tokens l.placed-index l.current l.most
