use Rattle.std.proofs.Common.{refl}
use Rattle.std.proofs.lemmas.Result.{err_from_is_err_and}
use Rattle.element_grammar.proofs.Pieces.{past_name_then, past_entry, begun}
use Rattle.element_grammar.proofs.StatementPieces.{found_del}
use Rattle.element_grammar.proofs.statements.del.Goals as goal

pub returns-in_err-rest-clause-err : goal.returns-in_err-rest-clause-err
returns-in_err-rest-clause-err c =
    let p = err_from_is_err_and c.from_residual-in_err-rest.result c.from_residual-in_err-rest.ensures.1 in
    rw (p.1, p.2) (begun refl (past_name_then c.in_ok-was.ensures.ok (past_entry c.in_ok-object.ensures.ok c.in_err-rest.ensures.err)))

pub returns-clause-ok : goal.returns-clause-ok
returns-clause-ok c = found_del c.del_of.ensures c.in_ok-was.ensures.ok c.in_ok-object.ensures.ok c.in_ok-rest.ensures.ok
