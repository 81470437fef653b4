-- The syntax tree as a value, without the pointers and capacities of the Rust one.
use Rattle.std.specs.Prelude.{ℕ, List}
use Rattle.gal_bits.specs.declared.op.Op.{Op}
use Rattle.packet_fields.specs.declared.field.Field.{Field}
use Rattle.state_store.specs.declared.object.ObjectDecl.{ObjectDecl}
use Rattle.element_lang.specs.declared.tree.Local.{Local}

mutual
  pub data ExprTree : Type 0 where
    -- a number, and how many bits wide it is
    lit : (value width : ℕ) → ExprTree
    local : (number : ℕ) → ExprTree
    field : (f : Field) → ExprTree
    byte : (index : ExprTree) → ExprTree
    shift : (op : Op) (by : ℕ) (arg : ExprTree) → ExprTree
    apply : (op : Op) (width : ℕ) (args : Exprs) → ExprTree

  -- expressions, in order
  pub data Exprs : Type 0 where
    no_expr : Exprs
    expr : ExprTree → Exprs → Exprs

mutual
  pub data StmtTree : Type 0 where
    let_local : (local : ℕ) (value : ExprTree) → StmtTree
    assign : (local : ℕ) (value : ExprTree) → StmtTree
    set_field : (f : Field) (value : ExprTree) → StmtTree
    look : (found : ℕ) (into : List ℕ) (object : ℕ) (keys : Exprs) → StmtTree
    put : (ok object : ℕ) (keys values : Exprs) → StmtTree
    del : (was object : ℕ) (keys : Exprs) → StmtTree
    choose : (cond : ExprTree) (first second : BodyTree) → StmtTree
    repeat : (index count : ℕ) (body : BodyTree) → StmtTree
    send : (port : ExprTree) → StmtTree
    drop : StmtTree

  -- statements, in order
  pub data BodyTree : Type 0 where
    done : BodyTree
    stmt : StmtTree → BodyTree → BodyTree

-- a whole middlebox
pub record Tree : Type 0 where
  pub objects : List ObjectDecl
  pub locals : List Local
  pub body : BodyTree
