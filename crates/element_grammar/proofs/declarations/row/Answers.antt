use Rattle.std.proofs.lemmas.Result.{err_from_is_err_and}
use Rattle.element_grammar.proofs.Pieces.{past_marks, past_literals}
use Rattle.element_grammar.proofs.declarations.row.Goals as goal

pub returns-in_err-rest-2-clause-err : goal.returns-in_err-rest-2-clause-err
returns-in_err-rest-2-clause-err c =
    let p = err_from_is_err_and c.from_residual-in_err-rest-2.result c.from_residual-in_err-rest-2.ensures.1 in
    rw (p.1, p.2)
    (past_literals c.in_ok-keys.ensures.ok (past_marks c.in_ok-rest.ensures.ok (past_literals c.in_ok-values.ensures.ok c.in_err-rest-2.ensures.err)))
