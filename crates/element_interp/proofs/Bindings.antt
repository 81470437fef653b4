-- A statement that gives a local or a field the value of an expression.
use Rattle.std.proofs.Common.{◌≡◌, ℕ, List, ◌⊎◌, inl, inr, sym, ap, ◌∙◌}
use Rattle.packet_fields.specs.declared.field.Field.{Field}
use Rattle.packet_fields.specs.declared.packet.Packet.{Packet}
use Rattle.element_lang.specs.Tree.{StmtTree}
use Rattle.element_lang.specs.Tree.StmtTree.{let_local, assign, set_field}
use Rattle.element_lang.specs.View.{expr_tree, stmt_step, stmt_tree}
use Rattle.element_lang.specs.Meaning.{State, Running, bound, assigned, value_of, do_stmt}
use Rattle.element_lang.specs.declared.tree.Expr.{Expr}
use Rattle.element_lang.specs.declared.tree.Stmt.{Stmt, fold-roll-Stmt}
use Rattle.element_lang.specs.declared.tree.Stmt.TheVariants.{Let, Assign, SetField, rolls-Let, rolls-Assign, rolls-SetField}
use Rattle.element_lang.specs.declared.tree.Stmt.TheOpen.{Stmt-F}

tree_of_let : (x : ℕ) (e : Expr) → stmt_tree (Let x e) ≡ let_local x (expr_tree e)
tree_of_let x e = ap stmt_tree (sym (rolls-Let x e)) ∙ fold-roll-Stmt StmtTree stmt_step (Stmt-F.Let x e)

tree_of_assign : (x : ℕ) (e : Expr) → stmt_tree (Assign x e) ≡ assign x (expr_tree e)
tree_of_assign x e = ap stmt_tree (sym (rolls-Assign x e)) ∙ fold-roll-Stmt StmtTree stmt_step (Stmt-F.Assign x e)

tree_of_set_field : (f : Field) (e : Expr) → stmt_tree (SetField f e) ≡ set_field f (expr_tree e)
tree_of_set_field f e = ap stmt_tree (sym (rolls-SetField f e)) ∙ fold-roll-Stmt StmtTree stmt_step (Stmt-F.SetField f e)

-- a declaration and an assignment do the same
pub either_binds : (widths : List ℕ) (packet : Packet) (s : Stmt) (x : ℕ) (e : Expr) (before : State) → (s ≡ Let x e) ⊎ (s ≡ Assign x e)
    → do_stmt widths packet (stmt_tree s) before ≡ Running (bound x (value_of widths packet (expr_tree e) before) before)
either_binds widths packet s x e before (inl is) = ap (λ (t : StmtTree). do_stmt widths packet t before) (ap stmt_tree is ∙ tree_of_let x e)
either_binds widths packet s x e before (inr is) = ap (λ (t : StmtTree). do_stmt widths packet t before) (ap stmt_tree is ∙ tree_of_assign x e)

pub field_gets : (widths : List ℕ) (packet : Packet) (s : Stmt) (f : Field) (e : Expr) (before : State) → s ≡ SetField f e
    → do_stmt widths packet (stmt_tree s) before ≡ Running (assigned f (value_of widths packet (expr_tree e) before) before)
field_gets widths packet s f e before is = ap (λ (t : StmtTree). do_stmt widths packet t before) (ap stmt_tree is ∙ tree_of_set_field f e)
