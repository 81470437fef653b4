use Rattle.std.proofs.Common.{arith, ap, refl}
use Rattle.std.proofs.lemmas.Result.{IfOk-weaker, err_from_is_err_and}
use Rattle.element_grammar.specs.Surface.{placed_stmt, surface_body}
use Rattle.element_grammar.proofs.Pieces.{past_expr_then, past_body, begun}
use Rattle.element_grammar.proofs.Loops.{sofar_pushed, sofar_end}
use Rattle.element_grammar.proofs.StatementPieces.{found_if, found_repeat, found_absent, found_else, one_more_stmt, end_of_body}
use Rattle.element_grammar.proofs.statements.+stmt.Goals as goal

pub choice-returns-in_err-no-clause-err : goal.choice-returns-in_err-no-clause-err
choice-returns-in_err-no-clause-err t c =
    let p = err_from_is_err_and c.from_residual-in_err-no.result c.from_residual-in_err-no.ensures.1 in
    rw (p.1, p.2) (begun refl (past_expr_then c.in_ok-cond.ensures.ok (past_body c.in_ok-yes.ensures.ok c.in_err-no.ensures.err)))

pub choice-returns-clause-ok : goal.choice-returns-clause-ok
choice-returns-clause-ok t c = found_if c.if_of.ensures c.in_ok-cond.ensures.ok c.in_ok-yes.ensures.ok c.in_ok-no.ensures.ok

pub repeat-returns-clause-ok : goal.repeat-returns-clause-ok
repeat-returns-clause-ok t c = found_repeat c.repeat_of.ensures c.in_ok-index.ensures.ok c.in_ok-count.ensures.ok c.in_ok-body.ensures.ok

pub otherwise-returns-in_default-clause-ok : goal.otherwise-returns-in_default-clause-ok
otherwise-returns-in_default-clause-ok t c = found_absent (ap (surface_body c.args.text.now) c.new.ensures.items) c.in_default.ensures.none

pub otherwise-returns-clause-ok : goal.otherwise-returns-clause-ok
otherwise-returns-clause-ok t c =
    IfOk-weaker c.block.result _ _ (λ x p. found_else c.in-Some.ensures.some c.in_ok-rest.ensures.ok p) c.block.ensures.ok

pub block-returns-in-Some-clause-ok : goal.block-returns-in-Some-clause-ok
block-returns-in-Some-clause-ok t c = sofar_end c.statements.invariant.0 (end_of_body c.in-Some.ensures.some)

pub block-statements-preserved : goal.block-statements-preserved
block-statements-preserved t c = (
  sofar_pushed (placed_stmt c.args.text.now) c.statements.body.items c.push.new.self.items
      (record { at = c.count-at.result; item = c.in_ok-item.item }) c.statements.invariant.0
      (one_more_stmt c.in_default.ensures.none c.in_ok-item.ensures.ok c.count-at.ensures)
      c.in_ok-push.ensures.items,
  omega (arith, c.statements.invariant.1, c.in_ok-item.ensures.shorter),
)
