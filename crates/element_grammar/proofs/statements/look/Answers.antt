use Rattle.std.proofs.Common.{refl}
use Rattle.std.proofs.lemmas.Result.{err_from_is_err_and}
use Rattle.element_grammar.proofs.Pieces.{first_three, past_name, past_names, past_entry, begun}
use Rattle.element_grammar.proofs.StatementPieces.{found_look}
use Rattle.element_grammar.proofs.statements.look.Goals as goal

pub returns-in_err-object-clause-err : goal.returns-in_err-object-clause-err
returns-in_err-object-clause-err c =
    let p = err_from_is_err_and c.from_residual-in_err-object.result c.from_residual-in_err-object.ensures.1 in
    rw (p.1, p.2) (begun refl (past_name c.in_ok-found.ensures.ok (past_names c.in_ok-into.ensures.ok (first_three c.in_err-object.ensures.err))))

pub returns-in_err-rest-clause-err : goal.returns-in_err-rest-clause-err
returns-in_err-rest-clause-err c =
    let p = err_from_is_err_and c.from_residual-in_err-rest.result c.from_residual-in_err-rest.ensures.1 in
    rw (p.1, p.2)
    (begun refl (past_name c.in_ok-found.ensures.ok (past_names c.in_ok-into.ensures.ok (past_entry c.in_ok-object.ensures.ok c.in_err-rest.ensures.err))))

pub returns-clause-ok : goal.returns-clause-ok
returns-clause-ok c =
    found_look c.look_of.ensures c.in_ok-found.ensures.ok c.in_ok-into.ensures.ok c.in_ok-object.ensures.ok c.in_ok-rest.ensures.ok
