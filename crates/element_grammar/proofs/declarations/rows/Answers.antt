use Rattle.std.proofs.Common.{arith}
use Rattle.element_grammar.specs.Surface.{surface_row}
use Rattle.element_grammar.proofs.Loops.{sofar_pushed, sofar_end}
use Rattle.element_grammar.proofs.DeclarationPieces.{one_more_row, end_of_rows}
use Rattle.element_grammar.proofs.declarations.rows.Goals as goal

pub returns-in-Some-clause-ok : goal.returns-in-Some-clause-ok
returns-in-Some-clause-ok c = sofar_end c.each.invariant.0 (end_of_rows c.in-Some.ensures.some)

pub each-preserved : goal.each-preserved
each-preserved c = (
  sofar_pushed surface_row c.each.found.items c.push.new.self.items c.in_ok-next.next c.each.invariant.0
      (one_more_row c.in_ok-rest.ensures.ok c.in_ok-next.ensures.ok)
      c.in_ok-push.ensures.items,
  omega (arith, c.each.invariant.1, c.in_ok-rest.ensures.shorter, c.in_ok-next.ensures.shorter),
)
