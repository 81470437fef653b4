-- The tree that a Rust value stands for.
use Rattle.std.specs.Prelude.{List, [], ◌∷◌, map}
use Rattle.element_lang.specs.Tree.{ExprTree, Exprs, StmtTree, BodyTree, Tree}
use Rattle.element_lang.specs.Tree.ExprTree.{lit, local, field, byte, shift, apply}
use Rattle.element_lang.specs.Tree.Exprs.{no_expr, expr}
use Rattle.element_lang.specs.Tree.StmtTree.{let_local, assign, set_field, look, put, del, choose, repeat, send, drop}
use Rattle.element_lang.specs.Tree.BodyTree.{done, stmt}
use Rattle.element_lang.specs.declared.tree.Expr.{Expr, fold-Expr}
use Rattle.element_lang.specs.declared.tree.Expr.TheOpen.{Expr-F}
use Rattle.element_lang.specs.declared.tree.Stmt.{Stmt, fold-Stmt}
use Rattle.element_lang.specs.declared.tree.Stmt.TheOpen.{Stmt-F}
use Rattle.element_lang.specs.declared.tree.Middlebox.{Middlebox}

-- a list as the tree's own kind of list
abbrev pub exprs_of : List ExprTree → Exprs
exprs_of [] = no_expr
exprs_of (e ∷ es) = expr e (exprs_of es)

abbrev pub body_of : List StmtTree → BodyTree
body_of [] = done
body_of (s ∷ ss) = stmt s (body_of ss)

-- one level, with the tree of each child in its place
abbrev pub expr_step : Expr-F ExprTree → ExprTree
expr_step (Expr-F.Lit value width) = lit value width
expr_step (Expr-F.Local number) = local number
expr_step (Expr-F.Field f) = field f
expr_step (Expr-F.Byte index) = byte index.value
expr_step (Expr-F.Shift op by arg) = shift op by arg.value
expr_step (Expr-F.Apply op width args) = apply op width (exprs_of args.items)

abbrev pub expr_tree : Expr → ExprTree
expr_tree = fold-Expr ExprTree expr_step

abbrev pub expr_trees : List Expr → Exprs
expr_trees es = exprs_of (map expr_tree es)

abbrev pub stmt_step : Stmt-F StmtTree → StmtTree
stmt_step (Stmt-F.Let x value) = let_local x (expr_tree value)
stmt_step (Stmt-F.Assign x value) = assign x (expr_tree value)
stmt_step (Stmt-F.SetField f value) = set_field f (expr_tree value)
stmt_step (Stmt-F.Look found into object keys) = look found into.items object (expr_trees keys.items)
stmt_step (Stmt-F.Put ok object keys values) = put ok object (expr_trees keys.items) (expr_trees values.items)
stmt_step (Stmt-F.Del was object keys) = del was object (expr_trees keys.items)
stmt_step (Stmt-F.If cond first second) = choose (expr_tree cond) (body_of first.items) (body_of second.items)
stmt_step (Stmt-F.Repeat index count body) = repeat index count (body_of body.items)
stmt_step (Stmt-F.Send port) = send (expr_tree port)
stmt_step Stmt-F.Drop = drop

abbrev pub stmt_tree : Stmt → StmtTree
stmt_tree = fold-Stmt StmtTree stmt_step

abbrev pub body_tree : List Stmt → BodyTree
body_tree ss = body_of (map stmt_tree ss)

abbrev pub tree : Middlebox → Tree
tree m = record { objects = m.objects; locals = m.locals; body = body_tree m.body.items }
