use Rattle.std.proofs.Common.{◌≡◌, ◌||◌, ◌∙◌, ap, sym, refl, get_or, Bool, false, Vec, Global}
use Rattle.packet_fields.specs.declared.field.Field.{Field}
use Rattle.packet_fields.specs.Table.{field_index}
use Rattle.element_lang.specs.declared.tree.Expr.{Expr}
use Rattle.element_lang.specs.declared.tree.Stmt.{Stmt, If}
use Rattle.flatten.proofs.Trees.{tree_if, tree_set}
use Rattle.element_lang.specs.View.{expr_tree, stmt_tree, body_tree}
use Rattle.flatten.specs.Occurs.{same_field, is_in_expr, is_in_stmt, is_in_body}
use Rattle.lemmas.proofs.Tests.{or_assoc}
use Rattle.flatten.proofs.occurs.Seen.+seen_in.Goals as goal

two : (now mid old first second both : Bool) → now ≡ (mid || second) → mid ≡ (old || first) → both ≡ (first || second) → now ≡ (old || both)
two now mid old first second both n m b = n ∙ ap (λ x. x || second) m ∙ or_assoc old first second ∙ ap (λ x. old || x) (sym b)

if_in : (f : Field) (c : Expr) (a b : Vec Stmt Global) → is_in_stmt f (stmt_tree (If c a b)) ≡ ((is_in_expr f (expr_tree c) || is_in_body f (body_tree a.items)) || is_in_body f (body_tree b.items))
if_in f c a b = ap (is_in_stmt f) (tree_if c a b)

pub stmt-returns-in-SetField : goal.stmt-returns-in-SetField
stmt-returns-in-SetField t c = λ f.
    two _ _ _ (same_field f c.in-SetField.field) (is_in_expr f (expr_tree c.in-SetField.value)) _ (c.expr.ensures f) (c.field.ensures f) (ap (λ s. is_in_stmt f (stmt_tree s)) c.in-SetField.is ∙ ap (is_in_stmt f) (tree_set c.in-SetField.field c.in-SetField.value))

pub stmt-returns-in-If : goal.stmt-returns-in-If
stmt-returns-in-If t c = λ f.
    let yes : get_or c.body.new.self.marks (field_index f) false ≡ (get_or c.args.self.now.marks (field_index f) false || (is_in_expr f (expr_tree c.in-If.cond) || is_in_body f (body_tree c.in-If.yes.items))) =
    two _ _ _ (is_in_expr f (expr_tree c.in-If.cond)) (is_in_body f (body_tree c.in-If.yes.items)) _ (c.body.ensures f ∙ ap (λ b. get_or c.expr-in-If.new.self.marks (field_index f) false || is_in_body f (body_tree b)) c.deref-in-If.ensures.value) (c.expr-in-If.ensures f) refl in
    two _ _ _ (is_in_expr f (expr_tree c.in-If.cond) || is_in_body f (body_tree c.in-If.yes.items)) (is_in_body f (body_tree c.in-If.no.items)) _
    (c.body-in-If.ensures f ∙ ap (λ b. get_or c.body.new.self.marks (field_index f) false || is_in_body f (body_tree b)) c.deref-in-If-2.ensures.value) yes
    (ap (λ s. is_in_stmt f (stmt_tree s)) c.in-If.is ∙ if_in f c.in-If.cond c.in-If.yes c.in-If.no)
