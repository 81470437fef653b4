-- How many parts there are.
use Rattle.std.proofs.Common.{◌≡◌, suc, ◌<◌, ◌==◌, List, [], ◌∷◌, length, refl, ap, arith}
use Rattle.std.proofs.lemmas.Bool.Decides.{nat_tests}
use Rattle.element_lang.specs.declared.tree.Expr.{Expr}
use Rattle.element_lang.specs.declared.tree.Stmt.{Stmt}
use Rattle.element_lang.specs.Rules.{count_of, is_empty}
use Rattle.element_lang.specs.View.{expr_trees, body_tree}

pub counted_trees : (es : List Expr) → count_of (expr_trees es) ≡ length es
counted_trees [] = refl
counted_trees (e ∷ es) = ap suc (counted_trees es)

pub is_empty_body : (ss : List Stmt) → is_empty (body_tree ss) ≡ (length ss == 0)
is_empty_body [] = refl
is_empty_body (s ∷ ss) = let some : 0 < length (s ∷ ss) = omega arith in grind (arith, nat_tests)
