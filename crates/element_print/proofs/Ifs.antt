-- The tokens of an `if`.
use Rattle.std.proofs.Common.{◌≡◌, true, false, List, [], ◌∷◌, length, refl, sym, ap, ◌∙◌, ◌==◌, arith}
use Rattle.std.proofs.lemmas.Bool.{eqb-true}
use Rattle.std.specs.declared.vec.Vec.{Vec}
use Rattle.std.specs.declared.alloc.Global.{Global}
use Rattle.element_lang.specs.declared.mark.Mark.TheVariants as marks
use Rattle.element_lang.specs.declared.tree.Expr.{Expr}
use Rattle.element_lang.specs.declared.tree.Stmt.{Stmt, fold-roll-Stmt}
use Rattle.element_lang.specs.declared.tree.Stmt.TheVariants.{If, rolls-If}
use Rattle.element_lang.specs.declared.tree.Stmt.TheOpen.{Stmt-F}
use Rattle.element_lang.specs.Token.{fixed}
use Rattle.element_lang.specs.Tree.{StmtTree, Tree}
use Rattle.element_lang.specs.Tree.StmtTree.{choose}
use Rattle.element_lang.specs.View.{expr_tree, stmt_step, stmt_tree, body_tree}
use Rattle.element_lang.specs.Surface as surface
use Rattle.element_lang.specs.Surface.{named_expr, named_stmt, named_body}
use Rattle.element_print.specs.Printed.{stmt_tokens, body_tokens, else_tokens, in_braces}

pub tree_of_if : (cond : Expr) (first second : Vec Stmt Global)
    → stmt_tree (If cond first second) ≡ choose (expr_tree cond) (body_tree first.items) (body_tree second.items)
tree_of_if cond first second = ap stmt_tree (sym (rolls-If cond first second)) ∙ fold-roll-Stmt StmtTree stmt_step (Stmt-F.If cond first second)

pub tokens_of_if : (m : Tree) (s : Stmt) (cond : Expr) (first second : Vec Stmt Global) → s ≡ If cond first second
    → stmt_tokens (named_stmt m (stmt_tree s))
    ≡ stmt_tokens (surface.choose (named_expr m (expr_tree cond)) (named_body m (body_tree first.items)) (named_body m (body_tree second.items)))
tokens_of_if m s cond first second e = ap (λ (t : StmtTree). stmt_tokens (named_stmt m t)) (ap stmt_tree e ∙ tree_of_if cond first second)

-- an empty second block leaves nothing
pub else_none : (m : Tree) (ss : List Stmt) → (length ss == 0) ≡ true
    → else_tokens (named_body m (body_tree ss)) (body_tokens (named_body m (body_tree ss))) ≡ []
else_none m [] e = refl
else_none m (s ∷ ss) e = let none : length (s ∷ ss) ≡ 0 = eqb-true (length (s ∷ ss)) 0 e in absurd (omega arith)

pub else_some : (m : Tree) (ss : List Stmt) → (length ss == 0) ≡ false
    → else_tokens (named_body m (body_tree ss)) (body_tokens (named_body m (body_tree ss)))
    ≡ fixed marks.Else ∷ in_braces (body_tokens (named_body m (body_tree ss)))
else_some m [] e = cc
else_some m (s ∷ ss) e = refl
