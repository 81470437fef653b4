-- Trees whose shifts have a width, and whose looks bind few locals.
use Rattle.std.specs.Prelude.{◌≤◌, ℕ, List, length}
use Rattle.element_lang.specs.Tree.{ExprTree, Exprs, StmtTree, BodyTree}
use Rattle.element_lang.specs.Tree.ExprTree.{byte, shift, apply}
use Rattle.element_lang.specs.Tree.Exprs.{no_expr, expr}
use Rattle.element_lang.specs.Tree.StmtTree.{let_local, assign, set_field, look, put, del, choose, repeat, send, drop}
use Rattle.element_lang.specs.Tree.BodyTree.{done, stmt}
use Rattle.element_lang.specs.Widths.{width_of}

abbrev mutual
  pub IsSizedExpr : List ℕ → ExprTree → Type 0
  IsSizedExpr widths (byte index) = IsSizedExpr widths index
  IsSizedExpr widths (shift op by arg) = (1 ≤ width_of widths arg) × IsSizedExpr widths arg
  IsSizedExpr widths (apply op width args) = AreSizedExprs widths args
  IsSizedExpr widths _ = Unit {0}

  pub AreSizedExprs : List ℕ → Exprs → Type 0
  AreSizedExprs widths no_expr = Unit {0}
  AreSizedExprs widths (expr e es) = IsSizedExpr widths e × AreSizedExprs widths es

abbrev mutual
  pub IsSizedStmt : List ℕ → StmtTree → Type 0
  IsSizedStmt widths (let_local x value) = IsSizedExpr widths value
  IsSizedStmt widths (assign x value) = IsSizedExpr widths value
  IsSizedStmt widths (set_field f value) = IsSizedExpr widths value
  IsSizedStmt widths (look found into object keys) = AreSizedExprs widths keys × (length into ≤ 8)
  IsSizedStmt widths (put ok object keys values) = AreSizedExprs widths keys × AreSizedExprs widths values
  IsSizedStmt widths (del was object keys) = AreSizedExprs widths keys
  IsSizedStmt widths (choose cond first second) =
      IsSizedExpr widths cond × IsSizedBody widths first × IsSizedBody widths second
  IsSizedStmt widths (repeat index count body) = IsSizedBody widths body
  IsSizedStmt widths (send port) = IsSizedExpr widths port
  IsSizedStmt widths drop = Unit {0}

  pub IsSizedBody : List ℕ → BodyTree → Type 0
  IsSizedBody widths done = Unit {0}
  IsSizedBody widths (stmt s b) = IsSizedStmt widths s × IsSizedBody widths b
