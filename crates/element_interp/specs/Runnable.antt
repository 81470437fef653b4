-- Trees that can be run: each operator has as many arguments as it takes, and no key or value has more than 8 numbers.
use Rattle.std.specs.Prelude.{◌≡◌, ◌≤◌}
use Rattle.gal_bits.specs.Operators.{operator_row}
use Rattle.element_lang.specs.Tree.{ExprTree, Exprs, StmtTree, BodyTree}
use Rattle.element_lang.specs.Tree.ExprTree.{byte, shift, apply, lit, local, field}
use Rattle.element_lang.specs.Tree.Exprs.{no_expr, expr}
use Rattle.element_lang.specs.Tree.StmtTree.{let_local, assign, set_field, look, put, del, choose, repeat, send, drop}
use Rattle.element_lang.specs.Tree.BodyTree.{done, stmt}
use Rattle.element_lang.specs.Rules.{count_of}

abbrev mutual
  pub IsRunnableExpr : ExprTree → Type 0
  IsRunnableExpr (lit value width) = Unit {0}
  IsRunnableExpr (local x) = Unit {0}
  IsRunnableExpr (field f) = Unit {0}
  IsRunnableExpr (byte index) = IsRunnableExpr index
  IsRunnableExpr (shift op by arg) = ((operator_row op).arity ≡ 2) × IsRunnableExpr arg
  IsRunnableExpr (apply op width args) =
      (count_of args ≡ (operator_row op).arity) × (count_of args ≤ 8) × AreRunnableExprs args

  pub AreRunnableExprs : Exprs → Type 0
  AreRunnableExprs no_expr = Unit {0}
  AreRunnableExprs (expr e es) = IsRunnableExpr e × AreRunnableExprs es

abbrev mutual
  pub IsRunnableStmt : StmtTree → Type 0
  IsRunnableStmt (let_local x value) = IsRunnableExpr value
  IsRunnableStmt (assign x value) = IsRunnableExpr value
  IsRunnableStmt (set_field f value) = IsRunnableExpr value
  IsRunnableStmt (look found into object keys) = (count_of keys ≤ 8) × AreRunnableExprs keys
  IsRunnableStmt (put ok object keys values) =
      (count_of keys ≤ 8) × AreRunnableExprs keys × (count_of values ≤ 8) × AreRunnableExprs values
  IsRunnableStmt (del was object keys) = (count_of keys ≤ 8) × AreRunnableExprs keys
  IsRunnableStmt (choose cond first second) = IsRunnableExpr cond × IsRunnableBody first × IsRunnableBody second
  IsRunnableStmt (repeat index count body) = IsRunnableBody body
  IsRunnableStmt (send port) = IsRunnableExpr port
  IsRunnableStmt drop = Unit {0}

  pub IsRunnableBody : BodyTree → Type 0
  IsRunnableBody done = Unit {0}
  IsRunnableBody (stmt s b) = IsRunnableStmt s × IsRunnableBody b
