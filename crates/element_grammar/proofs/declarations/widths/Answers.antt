use Rattle.std.proofs.Common.{arith}
use Rattle.element_grammar.proofs.Loops.{sofar_more, sofar_last}
use Rattle.element_grammar.proofs.DeclarationPieces.{one_more_width, last_width}
use Rattle.element_grammar.proofs.declarations.widths.Goals as goal

pub returns-in-Some-clause-ok : goal.returns-in-Some-clause-ok
returns-in-Some-clause-ok c = sofar_last c.each.invariant.0 (last_width c.in_ok-width.ensures.ok c.in-Some.ensures.some) c.in_ok-push.ensures.items

pub each-preserved : goal.each-preserved
each-preserved c = (
  sofar_more c.each.invariant.0 (one_more_width c.in_ok-width.ensures.ok c.in_ok-left.ensures.ok) c.in_ok-push.ensures.items,
  omega (arith, c.each.invariant.1, c.in_ok-width.ensures.shorter, c.in_ok-left.ensures.shorter),
)
