-- One level of a statement.
use Rattle.std.proofs.Common.{Vec, Global, ◌≡◌, ℕ, List, [], ◌∷◌, ◌++◌, sym, ap, ◌∙◌}
use Rattle.packet_fields.specs.declared.field.Field.{Field}
use Rattle.element_lang.specs.Tree.{StmtTree}
use Rattle.element_lang.specs.Tree.StmtTree.{let_local, assign, set_field, look, put, del, repeat, send, drop}
use Rattle.element_lang.specs.View.{expr_tree, expr_step, expr_trees, body_tree, stmt_step, stmt_tree}
use Rattle.element_chain.specs.Compose.{followed, one}
use Rattle.chain_compose.proofs.Trees.{body_push}
use Rattle.element_lang.specs.declared.tree.Expr.{Expr, fold-roll-Expr}
use Rattle.element_lang.specs.declared.tree.Expr.TheVariants.{Lit, Local, rolls-Lit, rolls-Local}
use Rattle.element_lang.specs.declared.tree.Expr.TheOpen.{Expr-F}
use Rattle.element_lang.specs.Tree.{ExprTree}
use Rattle.element_lang.specs.Tree.ExprTree.{lit, local}
use Rattle.element_lang.specs.declared.tree.Stmt.{Stmt, fold-roll-Stmt}
use Rattle.element_lang.specs.declared.tree.Stmt.TheVariants.{Let, Assign, SetField, Look, Put, Del, Repeat, Send, Drop, rolls-Let, rolls-Assign, rolls-SetField, rolls-Look, rolls-Put, rolls-Del, rolls-Repeat, rolls-Send, rolls-Drop}
use Rattle.element_lang.specs.declared.tree.Stmt.TheOpen.{Stmt-F}

pub tree_of_let : (x : ℕ) (e : Expr) → stmt_tree (Let x e) ≡ let_local x (expr_tree e)
tree_of_let x e = ap stmt_tree (sym (rolls-Let x e)) ∙ fold-roll-Stmt StmtTree stmt_step (Stmt-F.Let x e)

pub tree_of_assign : (x : ℕ) (e : Expr) → stmt_tree (Assign x e) ≡ assign x (expr_tree e)
tree_of_assign x e = ap stmt_tree (sym (rolls-Assign x e)) ∙ fold-roll-Stmt StmtTree stmt_step (Stmt-F.Assign x e)

pub tree_of_set_field : (f : Field) (e : Expr) → stmt_tree (SetField f e) ≡ set_field f (expr_tree e)
tree_of_set_field f e = ap stmt_tree (sym (rolls-SetField f e)) ∙ fold-roll-Stmt StmtTree stmt_step (Stmt-F.SetField f e)

pub tree_of_look : (found : ℕ) (into : Vec ℕ Global) (object : ℕ) (keys : Vec Expr Global) → stmt_tree (Look found into object keys) ≡ look found into.items object (expr_trees keys.items)
tree_of_look found into object keys = ap stmt_tree (sym (rolls-Look found into object keys)) ∙ fold-roll-Stmt StmtTree stmt_step (Stmt-F.Look found into object keys)

pub tree_of_put : (ok object : ℕ) (keys values : Vec Expr Global) → stmt_tree (Put ok object keys values) ≡ put ok object (expr_trees keys.items) (expr_trees values.items)
tree_of_put ok object keys values = ap stmt_tree (sym (rolls-Put ok object keys values)) ∙ fold-roll-Stmt StmtTree stmt_step (Stmt-F.Put ok object keys values)

pub tree_of_del : (was object : ℕ) (keys : Vec Expr Global) → stmt_tree (Del was object keys) ≡ del was object (expr_trees keys.items)
tree_of_del was object keys = ap stmt_tree (sym (rolls-Del was object keys)) ∙ fold-roll-Stmt StmtTree stmt_step (Stmt-F.Del was object keys)

pub tree_of_repeat : (index count : ℕ) (body : Vec Stmt Global) → stmt_tree (Repeat index count body) ≡ repeat index count (body_tree body.items)
tree_of_repeat index count body = ap stmt_tree (sym (rolls-Repeat index count body)) ∙ fold-roll-Stmt StmtTree stmt_step (Stmt-F.Repeat index count body)

pub tree_of_send : (port : Expr) → stmt_tree (Send port) ≡ send (expr_tree port)
tree_of_send port = ap stmt_tree (sym (rolls-Send port)) ∙ fold-roll-Stmt StmtTree stmt_step (Stmt-F.Send port)

pub tree_of_drop : stmt_tree Drop ≡ drop
tree_of_drop = ap stmt_tree (sym rolls-Drop) ∙ fold-roll-Stmt StmtTree stmt_step Stmt-F.Drop

pub push_drop : (ss : List Stmt) → body_tree (ss ++ Drop ∷ []) ≡ followed (body_tree ss) (one drop)
push_drop ss = body_push ss Drop ∙ ap (λ (t : StmtTree). followed (body_tree ss) (one t)) tree_of_drop

pub push_set_field : (ss : List Stmt) (f : Field) (e : Expr) → body_tree (ss ++ SetField f e ∷ []) ≡ followed (body_tree ss) (one (set_field f (expr_tree e)))
push_set_field ss f e = body_push ss (SetField f e) ∙ ap (λ (t : StmtTree). followed (body_tree ss) (one t)) (tree_of_set_field f e)

pub tree_of_lit : (value width : ℕ) → expr_tree (Lit value width) ≡ lit value width
tree_of_lit value width = ap expr_tree (sym (rolls-Lit value width)) ∙ fold-roll-Expr ExprTree expr_step (Expr-F.Lit value width)

pub tree_of_local : (x : ℕ) → expr_tree (Local x) ≡ local x
tree_of_local x = ap expr_tree (sym (rolls-Local x)) ∙ fold-roll-Expr ExprTree expr_step (Expr-F.Local x)

-- an 8-bit number, however it is told
pub tree_of_byte : (value value' width : ℕ) → value ≡ value' → width ≡ 8 → expr_tree (Lit value width) ≡ lit value' 8
tree_of_byte value value' width is wide = tree_of_lit value width ∙ ap (λ (v : ℕ). lit v width) is ∙ ap (lit value') wide
