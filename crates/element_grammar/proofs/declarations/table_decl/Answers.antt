use Rattle.std.proofs.Common.{refl}
use Rattle.std.proofs.lemmas.Result.{err_from_is_err_and}
use Rattle.element_grammar.proofs.Pieces.{first, past_mark, begun}
use Rattle.element_grammar.proofs.DeclarationPieces.{past_header}
use Rattle.element_grammar.proofs.declarations.table_decl.Goals as goal

pub returns-in_err-rest-clause-err : goal.returns-in_err-rest-clause-err
returns-in_err-rest-clause-err c =
    let p = err_from_is_err_and c.from_residual-in_err-rest.result c.from_residual-in_err-rest.ensures.1 in
    rw (p.1, p.2) (begun refl (past_header c.in_ok-name.ensures.ok (first c.in_err-rest.ensures.err)))

pub returns-in_err-rows-clause-err : goal.returns-in_err-rows-clause-err
returns-in_err-rows-clause-err c =
    let p = err_from_is_err_and c.from_residual-in_err-rows.result c.from_residual-in_err-rows.ensures.1 in
    rw (p.1, p.2) (begun refl (past_header c.in_ok-name.ensures.ok (past_mark c.in_ok-rest.ensures.ok (first c.in_err-rows.ensures.err))))
