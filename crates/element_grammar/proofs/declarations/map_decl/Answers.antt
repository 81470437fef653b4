use Rattle.std.proofs.Common.{refl}
use Rattle.std.proofs.lemmas.Result.{err_from_is_err_and}
use Rattle.element_grammar.proofs.Pieces.{first, first_two, past_mark, begun}
use Rattle.element_grammar.proofs.DeclarationPieces.{past_header, made_map}
use Rattle.element_grammar.proofs.declarations.map_decl.Goals as goal

pub returns-in_err-rest-clause-err : goal.returns-in_err-rest-clause-err
returns-in_err-rest-clause-err c =
    let p = err_from_is_err_and c.from_residual-in_err-rest.result c.from_residual-in_err-rest.ensures.1 in
    rw (p.1, p.2) (begun refl (past_header c.in_ok-name.ensures.ok (first c.in_err-rest.ensures.err)))

pub returns-in_err-capacity-clause-err : goal.returns-in_err-capacity-clause-err
returns-in_err-capacity-clause-err c =
    let p = err_from_is_err_and c.from_residual-in_err-capacity.result c.from_residual-in_err-capacity.ensures.1 in
    rw (p.1, p.2) (begun refl (past_header c.in_ok-name.ensures.ok (past_mark c.in_ok-rest.ensures.ok (first_two c.in_err-capacity.ensures.err))))

pub returns-clause-ok : goal.returns-clause-ok
returns-clause-ok c = made_map c.map_of.ensures c.in_ok-name.ensures.ok c.in_ok-rest.ensures.ok c.in_ok-capacity.ensures.ok
