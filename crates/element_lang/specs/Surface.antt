-- The tree that a text has: objects and locals go by their names, and widths stand only where they are written.
use Rattle.std.specs.Prelude.{ℕ, List, [], ◌∷◌, map, length, Option, Some, None, slice_get, slice_index}
use Rattle.gal_bits.specs.declared.op.Op.{Op}
use Rattle.gal_bits.specs.declared.op.Op.TheVariants.{Cast}
use Rattle.packet_fields.specs.declared.field.Field.{Field}
use Rattle.state_store.specs.declared.object.Kind.{Kind}
use Rattle.state_store.specs.declared.object.Kind.TheVariants.{Table, Map, Vector, Int}
use Rattle.state_store.specs.declared.object.Row.{Row}
use Rattle.state_store.specs.declared.object.ObjectDecl.{ObjectDecl}
use Rattle.element_lang.specs.declared.tree.Local.{Local}
use Rattle.element_lang.specs.Tree as trees
use Rattle.element_lang.specs.Tree.{ExprTree, Exprs, StmtTree, BodyTree, Tree}

mutual
  pub data SurfaceExpr : Type 0 where
    lit : (value width : ℕ) → SurfaceExpr
    name : (word : List ℕ) → SurfaceExpr
    field : (f : Field) → SurfaceExpr
    byte : (index : SurfaceExpr) → SurfaceExpr
    shift : (op : Op) (by : ℕ) (arg : SurfaceExpr) → SurfaceExpr
    -- an operator; the width is that of a cast, and 0 for every other
    apply : (op : Op) (width : ℕ) (args : SurfaceExprs) → SurfaceExpr

  pub data SurfaceExprs : Type 0 where
    no_expr : SurfaceExprs
    expr : SurfaceExpr → SurfaceExprs → SurfaceExprs

mutual
  pub data SurfaceStmt : Type 0 where
    let_local : (local : List ℕ) (value : SurfaceExpr) → SurfaceStmt
    assign : (local : List ℕ) (value : SurfaceExpr) → SurfaceStmt
    set_field : (f : Field) (value : SurfaceExpr) → SurfaceStmt
    look : (found : List ℕ) (into : List (List ℕ)) (object : List ℕ) (keys : SurfaceExprs) → SurfaceStmt
    put : (ok object : List ℕ) (keys values : SurfaceExprs) → SurfaceStmt
    del : (was object : List ℕ) (keys : SurfaceExprs) → SurfaceStmt
    choose : (cond : SurfaceExpr) (first second : SurfaceBody) → SurfaceStmt
    repeat : (index : List ℕ) (count : ℕ) (body : SurfaceBody) → SurfaceStmt
    send : (port : SurfaceExpr) → SurfaceStmt
    drop : SurfaceStmt

  -- Statements, in order. `at` tells where one begins: how many tokens there are from its first one to the end of the
  -- source.
  pub data SurfaceBody : Type 0 where
    done : SurfaceBody
    stmt : (at : ℕ) → SurfaceStmt → SurfaceBody → SurfaceBody

-- a number and the width that is written behind it
pub record Literal : Type 0 where
  pub value : ℕ
  pub width : ℕ

-- a row of a table
pub record SurfaceRow : Type 0 where
  pub keys : List Literal
  pub values : List Literal

-- a declaration: widths of keys and values as they are written, and what each kind has besides
pub data SurfaceDecl : Type 0 where
  table_decl : (word keys values : List ℕ) (rows : List SurfaceRow) → SurfaceDecl
  map_decl : (word keys values : List ℕ) (capacity : ℕ) → SurfaceDecl
  vector_decl : (word : List ℕ) (length : ℕ) (values : List ℕ) → SurfaceDecl
  int_decl : (word : List ℕ) (width start : ℕ) → SurfaceDecl

-- a declaration, and where it begins, told as for a statement
pub record Declared : Type 0 where
  pub at : ℕ
  pub decl : SurfaceDecl

pub record Surface : Type 0 where
  pub objects : List Declared
  pub body : SurfaceBody

-- the object that is declared, whose widths, sizes and rows may break a rule
abbrev pub value_row : SurfaceRow → Row
value_row row = record { keys = map (λ l. l.value) row.keys; values = map (λ l. l.value) row.values }

abbrev pub object_of : SurfaceDecl → ObjectDecl
object_of (table_decl word keys values rows) =
    record {
      name = word;
      kind = Table;
      keys = keys;
      values = values;
      size = length rows;
      start = 0;
      rows = map value_row rows;
    }
object_of (map_decl word keys values capacity) =
    record { name = word; kind = Map; keys = keys; values = values; size = capacity; start = 0; rows = [] }
object_of (vector_decl word size values) =
    record { name = word; kind = Vector; keys = 32 ∷ []; values = values; size = size; start = 0; rows = [] }
object_of (int_decl word width start) =
    record { name = word; kind = Int; keys = []; values = width ∷ []; size = 1; start = start; rows = [] }

-- the same tree with each place at 0
abbrev mutual
  pub unplaced_stmt : SurfaceStmt → SurfaceStmt
  unplaced_stmt (choose cond first second) = choose cond (unplaced_body first) (unplaced_body second)
  unplaced_stmt (repeat index count body) = repeat index count (unplaced_body body)
  unplaced_stmt (let_local word value) = let_local word value
  unplaced_stmt (assign word value) = assign word value
  unplaced_stmt (set_field f value) = set_field f value
  unplaced_stmt (look found into object keys) = look found into object keys
  unplaced_stmt (put ok object keys values) = put ok object keys values
  unplaced_stmt (del was object keys) = del was object keys
  unplaced_stmt (send port) = send port
  unplaced_stmt drop = drop

  pub unplaced_body : SurfaceBody → SurfaceBody
  unplaced_body done = done
  unplaced_body (stmt at s b) = stmt 0 (unplaced_stmt s) (unplaced_body b)

abbrev pub unplaced_decl : Declared → Declared
unplaced_decl d = record { at = 0; decl = d.decl }

abbrev pub unplaced : Surface → Surface
unplaced surface = record { objects = map unplaced_decl surface.objects; body = unplaced_body surface.body }

-- the names of a local and of an object; a number of none has the empty name, which no word is
abbrev pub name_of_local : Option Local → List ℕ
name_of_local None = []
name_of_local (Some l) = l.name

abbrev pub name_of_object : Option ObjectDecl → List ℕ
name_of_object None = []
name_of_object (Some o) = o.name

abbrev pub local_name : Tree → ℕ → List ℕ
local_name m x = name_of_local (slice_get m.locals x)

abbrev pub object_name : Tree → ℕ → List ℕ
object_name m x = name_of_object (slice_get m.objects x)

-- the width that is written with an operator
abbrev pub written_width : Op → ℕ → ℕ
written_width Cast width = width
written_width _ width = 0

-- a tree with its names put back, and each place at 0
abbrev mutual
  pub named_expr : Tree → ExprTree → SurfaceExpr
  named_expr m (trees.lit value width) = lit value width
  named_expr m (trees.local x) = name (local_name m x)
  named_expr m (trees.field f) = field f
  named_expr m (trees.byte index) = byte (named_expr m index)
  named_expr m (trees.shift op by arg) = shift op by (named_expr m arg)
  named_expr m (trees.apply op width args) = apply op (written_width op width) (named_exprs m args)

  pub named_exprs : Tree → Exprs → SurfaceExprs
  named_exprs m trees.no_expr = no_expr
  named_exprs m (trees.expr e es) = expr (named_expr m e) (named_exprs m es)

abbrev mutual
  pub named_stmt : Tree → StmtTree → SurfaceStmt
  named_stmt m (trees.let_local x value) = let_local (local_name m x) (named_expr m value)
  named_stmt m (trees.assign x value) = assign (local_name m x) (named_expr m value)
  named_stmt m (trees.set_field f value) = set_field f (named_expr m value)
  named_stmt m (trees.look found into object keys) =
      look (local_name m found) (map (local_name m) into) (object_name m object) (named_exprs m keys)
  named_stmt m (trees.put ok object keys values) =
      put (local_name m ok) (object_name m object) (named_exprs m keys) (named_exprs m values)
  named_stmt m (trees.del was object keys) = del (local_name m was) (object_name m object) (named_exprs m keys)
  named_stmt m (trees.choose cond first second) = choose (named_expr m cond) (named_body m first) (named_body m second)
  named_stmt m (trees.repeat index count body) = repeat (local_name m index) count (named_body m body)
  named_stmt m (trees.send port) = send (named_expr m port)
  named_stmt m trees.drop = drop

  pub named_body : Tree → BodyTree → SurfaceBody
  named_body m trees.done = done
  named_body m (trees.stmt s b) = stmt 0 (named_stmt m s) (named_body m b)

-- numbers with the widths that are declared for them, one by one
abbrev pub literals : List ℕ → List ℕ → List Literal
literals widths [] = []
literals [] (n ∷ ns) = record { value = n; width = 0 } ∷ literals [] ns
literals (w ∷ ws) (n ∷ ns) = record { value = n; width = w } ∷ literals ws ns

abbrev pub named_row : List ℕ → List ℕ → Row → SurfaceRow
named_row keys values row = record { keys = literals keys row.keys; values = literals values row.values }

-- a declaration of this kind as it is written
abbrev pub named_as : Kind → ObjectDecl → SurfaceDecl
named_as Table o = table_decl o.name o.keys o.values (map (named_row o.keys o.values) o.rows)
named_as Map o = map_decl o.name o.keys o.values o.size
named_as Vector o = vector_decl o.name o.size o.values
named_as Int o = int_decl o.name (slice_index o.values 0) o.start

abbrev pub named_decl : ObjectDecl → SurfaceDecl
named_decl o = named_as o.kind o

abbrev pub named : Tree → Surface
named m = record { objects = map (λ o. record { at = 0; decl = named_decl o }) m.objects; body = named_body m m.body }
