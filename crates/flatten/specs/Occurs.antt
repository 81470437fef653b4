-- Which fields occur in a body.
use Rattle.std.specs.Prelude.{Bool, false, ◌||◌, ◌==◌}
use Rattle.packet_fields.specs.declared.field.Field.{Field}
use Rattle.packet_fields.specs.Table.{field_index}
use Rattle.element_lang.specs.Tree.{ExprTree, Exprs, StmtTree, BodyTree}
use Rattle.element_lang.specs.Tree.ExprTree.{lit, local, field, byte, shift, apply}
use Rattle.element_lang.specs.Tree.Exprs.{no_expr, expr}
use Rattle.element_lang.specs.Tree.StmtTree.{let_local, assign, set_field, look, put, del, choose, repeat, send, drop}
use Rattle.element_lang.specs.Tree.BodyTree.{done, stmt}

abbrev pub same_field : Field → Field → Bool
same_field f g = field_index f == field_index g

-- the field is read in an expression
abbrev mutual
  pub is_in_expr : Field → ExprTree → Bool
  is_in_expr f (lit value width) = false
  is_in_expr f (local x) = false
  is_in_expr f (field g) = same_field f g
  is_in_expr f (byte index) = is_in_expr f index
  is_in_expr f (shift op by arg) = is_in_expr f arg
  is_in_expr f (apply op width args) = is_in_exprs f args

  pub is_in_exprs : Field → Exprs → Bool
  is_in_exprs f no_expr = false
  is_in_exprs f (expr e es) = is_in_expr f e || is_in_exprs f es

-- the field is read or written in a statement, also in one that is never done
abbrev mutual
  pub is_in_stmt : Field → StmtTree → Bool
  is_in_stmt f (let_local x value) = is_in_expr f value
  is_in_stmt f (assign x value) = is_in_expr f value
  is_in_stmt f (set_field g value) = same_field f g || is_in_expr f value
  is_in_stmt f (look found into object keys) = is_in_exprs f keys
  is_in_stmt f (put ok object keys values) = is_in_exprs f keys || is_in_exprs f values
  is_in_stmt f (del was object keys) = is_in_exprs f keys
  is_in_stmt f (choose cond first second) = is_in_expr f cond || is_in_body f first || is_in_body f second
  is_in_stmt f (repeat index count body) = is_in_body f body
  is_in_stmt f (send port) = is_in_expr f port
  is_in_stmt f drop = false

  pub is_in_body : Field → BodyTree → Bool
  is_in_body f done = false
  is_in_body f (stmt s b) = is_in_stmt f s || is_in_body f b
