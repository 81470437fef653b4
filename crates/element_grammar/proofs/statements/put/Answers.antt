use Rattle.std.proofs.Common.{refl}
use Rattle.std.proofs.lemmas.Result.{err_from_is_err_and}
use Rattle.element_grammar.proofs.Pieces.{first, past_mark, past_name_then, past_entry, begun}
use Rattle.element_grammar.proofs.StatementPieces.{found_put}
use Rattle.element_grammar.proofs.statements.put.Goals as goal

pub returns-in_err-rest-clause-err : goal.returns-in_err-rest-clause-err
returns-in_err-rest-clause-err c =
    let p = err_from_is_err_and c.from_residual-in_err-rest.result c.from_residual-in_err-rest.ensures.1 in
    rw (p.1, p.2) (begun refl (past_name_then c.in_ok-ok.ensures.ok (past_entry c.in_ok-object.ensures.ok (first c.in_err-rest.ensures.err))))

pub returns-in_err-values-clause-err : goal.returns-in_err-values-clause-err
returns-in_err-values-clause-err c =
    let p = err_from_is_err_and c.from_residual-in_err-values.result c.from_residual-in_err-values.ensures.1 in
    rw (p.1, p.2)
    (begun refl (past_name_then c.in_ok-ok.ensures.ok (past_entry c.in_ok-object.ensures.ok (past_mark c.in_ok-rest.ensures.ok c.in_err-values.ensures.err))))

pub returns-clause-ok : goal.returns-clause-ok
returns-clause-ok c = found_put c.put_of.ensures c.in_ok-ok.ensures.ok c.in_ok-object.ensures.ok c.in_ok-rest.ensures.ok c.in_ok-values.ensures.ok
