use Rattle.std.proofs.Common.{refl}
use Rattle.std.proofs.lemmas.Result.{err_from_is_err_and}
use Rattle.element_grammar.proofs.Pieces.{first, past_mark, past_name_then, past_number_then, past_widths, begun}
use Rattle.element_grammar.proofs.DeclarationPieces.{made_vector}
use Rattle.element_grammar.proofs.declarations.vector_decl.Goals as goal

pub returns-in_err-rest-2-clause-err : goal.returns-in_err-rest-2-clause-err
returns-in_err-rest-2-clause-err c =
    let p = err_from_is_err_and c.from_residual-in_err-rest-2.result c.from_residual-in_err-rest-2.ensures.1 in
    rw (p.1, p.2)
    (begun refl
    (past_name_then c.in_ok-name.ensures.ok
    (past_number_then c.in_ok-length.ensures.ok
    (past_mark c.in_ok-rest.ensures.ok (past_widths c.in_ok-values.ensures.ok (first c.in_err-rest-2.ensures.err))))))

pub returns-clause-ok : goal.returns-clause-ok
returns-clause-ok c =
    made_vector c.vector_of.ensures c.in_ok-name.ensures.ok c.in_ok-length.ensures.ok c.in_ok-rest.ensures.ok c.in_ok-values.ensures.ok
    c.in_ok-rest-2.ensures.ok
