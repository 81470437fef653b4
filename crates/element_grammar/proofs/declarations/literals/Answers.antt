use Rattle.std.proofs.Common.{arith}
use Rattle.element_grammar.specs.Surface.{surface_literal}
use Rattle.element_grammar.proofs.Loops.{sofar_pushed, sofar_pushed_last}
use Rattle.element_grammar.proofs.DeclarationPieces.{one_more_literal, last_literal}
use Rattle.element_grammar.proofs.declarations.literals.Goals as goal

pub returns-in-Some-clause-ok : goal.returns-in-Some-clause-ok
returns-in-Some-clause-ok c =
    sofar_pushed_last surface_literal c.each.found.items c.push.new.self.items c.in_ok-next.next c.each.invariant.0
    (last_literal c.in_ok-next.ensures.ok c.in-Some.ensures.some)
    c.in_ok-push.ensures.items

pub each-preserved : goal.each-preserved
each-preserved c = (
  sofar_pushed surface_literal c.each.found.items c.push.new.self.items c.in_ok-next.next c.each.invariant.0
      (one_more_literal c.in_ok-next.ensures.ok c.in_ok-left.ensures.ok)
      c.in_ok-push.ensures.items,
  omega (arith, c.each.invariant.1, c.in_ok-next.ensures.shorter, c.in_ok-left.ensures.shorter),
)
