use Rattle.std.proofs.lemmas.Result.{err_from_is_err_and}
use Rattle.element_grammar.proofs.Pieces.{first_two, past_marks, past_name_then, past_widths}
use Rattle.element_grammar.proofs.declarations.header.Goals as goal

pub returns-in_err-rest-clause-err : goal.returns-in_err-rest-clause-err
returns-in_err-rest-clause-err c =
    let p = err_from_is_err_and c.from_residual-in_err-rest.result c.from_residual-in_err-rest.ensures.1 in
    rw (p.1, p.2) (past_name_then c.in_ok-name.ensures.ok (past_widths c.in_ok-keys.ensures.ok (first_two c.in_err-rest.ensures.err)))

pub returns-in_err-values-clause-err : goal.returns-in_err-values-clause-err
returns-in_err-values-clause-err c =
    let p = err_from_is_err_and c.from_residual-in_err-values.result c.from_residual-in_err-values.ensures.1 in
    rw (p.1, p.2)
    (past_name_then c.in_ok-name.ensures.ok (past_widths c.in_ok-keys.ensures.ok (past_marks c.in_ok-rest.ensures.ok c.in_err-values.ensures.err)))
