-- The tree of a statement, from its parts.
use Rattle.std.proofs.Common.{◌≡◌, ℕ, Vec, Global, rules}
use Rattle.packet_fields.specs.declared.field.Field.{Field}
use Rattle.element_lang.specs.declared.tree.Expr.{Expr}
use Rattle.element_lang.specs.declared.tree.Stmt.{Stmt, If, SetField, Repeat, the_lemmas}
use Rattle.element_lang.specs.Tree.StmtTree.{choose, set_field, repeat}
use Rattle.element_lang.specs.View.{expr_tree, stmt_tree, body_tree}

pub tree_if : (c : Expr) (a b : Vec Stmt Global) → stmt_tree (If c a b) ≡ choose (expr_tree c) (body_tree a.items) (body_tree b.items)
tree_if c a b = search (rules, the_lemmas)

pub tree_set : (f : Field) (value : Expr) → stmt_tree (SetField f value) ≡ set_field f (expr_tree value)
tree_set f value = search (rules, the_lemmas)

pub tree_repeat : (index count : ℕ) (b : Vec Stmt Global) → stmt_tree (Repeat index count b) ≡ repeat index count (body_tree b.items)
tree_repeat index count b = search (rules, the_lemmas)
