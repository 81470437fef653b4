-- How deep brackets stand in one another in a printed text, told from the tree.
use Rattle.std.specs.Prelude.{ℕ, suc, max, Bool, true, false, List, [], ◌∷◌}
use Rattle.gal_bits.specs.declared.op.Op.TheVariants as ops
use Rattle.state_store.specs.declared.object.Kind.{Kind}
use Rattle.state_store.specs.declared.object.Kind.TheVariants.{Table, Int, Map, Vector}
use Rattle.state_store.specs.declared.object.Row.{Row}
use Rattle.state_store.specs.declared.object.ObjectDecl.{ObjectDecl}
use Rattle.element_lang.specs.Tree.{ExprTree, Exprs, StmtTree, BodyTree, Tree}
use Rattle.element_lang.specs.Tree.ExprTree.{lit, local, field, byte, shift, apply}
use Rattle.element_lang.specs.Tree.Exprs.{no_expr, expr}
use Rattle.element_lang.specs.Tree.StmtTree.{let_local, assign, set_field, look, put, del, choose, repeat, send, drop}
use Rattle.element_lang.specs.Tree.BodyTree.{done, stmt}
use Rattle.element_print.specs.declared.place.Place.{Place}
use Rattle.element_print.specs.declared.place.Place.TheVariants.{Whole, Operand, Turned}
use Rattle.element_print.specs.Printed.{needs_brackets}
use Rattle.element_print.specs.Lengths.{nameless}

-- one deeper, where brackets stand around it
abbrev pub within_if : Bool → ℕ → ℕ
within_if true depth = suc depth
within_if false depth = depth

abbrev mutual
  pub expr_depth : ExprTree → ℕ
  expr_depth (lit value width) = 0
  expr_depth (local x) = 0
  expr_depth (field f) = 0
  expr_depth (byte index) = suc (expr_depth index)
  expr_depth (shift op by arg) = within_if (needs_brackets Operand (nameless arg)) (expr_depth arg)
  expr_depth (apply ops.Not width args) = parts_depth Turned args
  expr_depth (apply ops.Cast width args) = suc (parts_depth Whole args)
  expr_depth (apply ops.Select width args) = suc (parts_depth Whole args)
  expr_depth (apply ops.Adjust width args) = suc (parts_depth Whole args)
  expr_depth (apply op width args) = parts_depth Operand args

  pub parts_depth : Place → Exprs → ℕ
  parts_depth place no_expr = 0
  parts_depth place (expr e es) = max (within_if (needs_brackets place (nameless e)) (expr_depth e)) (parts_depth place es)

-- a key stands in square brackets
abbrev pub keyed_depth : Exprs → ℕ
keyed_depth keys = suc (parts_depth Whole keys)

-- a statement, but for what stands in its blocks
abbrev pub head_depth : StmtTree → ℕ
head_depth (let_local x value) = expr_depth value
head_depth (assign x value) = expr_depth value
head_depth (set_field f value) = expr_depth value
head_depth (look found into object keys) = keyed_depth keys
head_depth (put ok object keys values) = max (keyed_depth keys) (parts_depth Whole values)
head_depth (del was object keys) = keyed_depth keys
head_depth (choose cond first second) = expr_depth cond
head_depth (repeat index count body) = 0
head_depth (send port) = expr_depth port
head_depth drop = 0

abbrev mutual
  pub stmt_depth : StmtTree → ℕ
  stmt_depth (choose cond first second) =
      max (head_depth (choose cond first second)) (suc (max (body_depth first) (body_depth second)))
  stmt_depth (repeat index count body) = suc (body_depth body)
  stmt_depth s = head_depth s

  pub body_depth : BodyTree → ℕ
  body_depth done = 0
  body_depth (stmt s b) = max (stmt_depth s) (body_depth b)

-- widths stand in brackets, and the numbers of a row in brackets within braces
abbrev pub rows_depth : List Row → ℕ
rows_depth [] = 1
rows_depth (r ∷ rs) = 2

abbrev pub depth_as : Kind → ObjectDecl → ℕ
depth_as Table o = rows_depth o.rows
depth_as Map o = 1
depth_as Vector o = 1
depth_as Int o = 0

abbrev pub decls_depth : List ObjectDecl → ℕ
decls_depth [] = 0
decls_depth (o ∷ os) = max (depth_as o.kind o) (decls_depth os)

-- the whole, whose statements stand in braces
abbrev pub text_depth : Tree → ℕ
text_depth m = max (decls_depth m.objects) (suc (body_depth m.body))
