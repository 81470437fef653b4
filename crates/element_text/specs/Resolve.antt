-- The middlebox of a surface tree: names become numbers, and a piece that breaks a rule has none.
use Rattle.std.specs.Prelude.{ℕ, ◌+◌, ◌^◌, Bool, true, false, not, ◌&&◌, ◌||◌, List, [], ◌∷◌, ◌++◌, map, length, nat_le}
use Rattle.std.specs.Prelude.{nat_lt, ◌==◌, if◌then◌else◌, Option, Some, None, is_none, slice_get, option_and_then}
use Rattle.std.specs.Option.{option_map}
use Rattle.std.specs.List.{list_any, list_all}
use Rattle.std.specs.Str.{bytes_eq}
use Rattle.gal_bits.specs.declared.op.Op.{Op}
use Rattle.gal_bits.specs.declared.op.Op.TheVariants.{Not, Shl, Shr, Eq, Ne, Lt, Add, Sub, Mul, Div, Rem, And, Or, Xor}
use Rattle.gal_bits.specs.declared.op.Op.TheVariants.{Le, Cast, Select, Adjust}
use Rattle.packet_fields.specs.Table.{row}
use Rattle.state_store.specs.declared.object.ObjectDecl.{ObjectDecl}
use Rattle.element_lang.specs.declared.tree.Local.{Local}
use Rattle.element_lang.specs.Tree as trees
use Rattle.element_lang.specs.Tree.{ExprTree, Exprs, StmtTree, BodyTree, Tree}
use Rattle.element_lang.specs.Rules.{is_width, is_shift, same_widths, is_count, fits_keys, fits_values, can_put}
use Rattle.element_lang.specs.Rules.{can_del, always_ends, ends_always, any_repeats, is_good_object}
use Rattle.element_lang.specs.Rules.{are_good_objects}
use Rattle.element_lang.specs.Surface.{SurfaceExpr, SurfaceExprs, SurfaceStmt, SurfaceBody, SurfaceRow, map_decl, vector_decl, int_decl}
use Rattle.element_lang.specs.Surface.{SurfaceDecl, Declared, Surface, lit, name, field, byte, shift, apply, no_expr}
use Rattle.element_lang.specs.Surface.{expr, let_local, assign, set_field, look, put, del, choose, repeat, send, drop}
use Rattle.element_lang.specs.Surface.{done, stmt, table_decl, object_of}

infixl 10 ◌>>=◌
abbrev pub ◌>>=◌ : {A B : Type 0} → Option A → (A → Option B) → Option B
o >>= f = option_and_then f o

-- what a test lets through
abbrev pub when : {A : Type 0} → Bool → Option A → Option A
when true o = o
when false o = None

-- a local in scope: its number, and how it was declared
pub record Known : Type 0 where
  pub number : ℕ
  pub decl : Local

-- what is declared so far, and which locals are in scope, the oldest first
pub record Env : Type 0 where
  pub objects : List ObjectDecl
  pub locals : List Local
  pub scope : List Known

-- the local in scope that has a name
abbrev pub local_in : List Known → List ℕ → Option Known
local_in [] word = None
local_in (k ∷ ks) word = if bytes_eq word k.decl.name then Some k else local_in ks word

-- the number of the object that has a name, where the first of the list has number n
abbrev pub object_from : ℕ → List ObjectDecl → List ℕ → Option ℕ
object_from n [] word = None
object_from n (o ∷ os) word = if bytes_eq word o.name then Some n else object_from (n + 1) os word

-- an expression and the width of its value
pub record Typed : Type 0 where
  pub tree : ExprTree
  pub width : ℕ

-- expressions and the widths of their values
pub record TypedList : Type 0 where
  pub trees : Exprs
  pub widths : List ℕ

-- the width of one value, of two of the same width, and of the second and third where the first has 1 bit
abbrev pub width_of_one : List ℕ → Option ℕ
width_of_one (a ∷ []) = Some a
width_of_one _ = None

abbrev pub width_of_two : List ℕ → Option ℕ
width_of_two (a ∷ b ∷ []) = when (a == b) (Some a)
width_of_two _ = None

abbrev pub width_of_choice : List ℕ → Option ℕ
width_of_choice (a ∷ b ∷ c ∷ []) = when (a == 1 && b == c) (Some b)
width_of_choice _ = None

-- the width of an operator's result where none is written
abbrev pub unwritten_width : Op → List ℕ → Option ℕ
unwritten_width Add args = width_of_two args
unwritten_width Sub args = width_of_two args
unwritten_width Mul args = width_of_two args
unwritten_width Div args = width_of_two args
unwritten_width Rem args = width_of_two args
unwritten_width And args = width_of_two args
unwritten_width Or args = width_of_two args
unwritten_width Xor args = width_of_two args
unwritten_width Not args = width_of_one args
unwritten_width Shl args = None
unwritten_width Shr args = None
unwritten_width Eq args = option_map (λ w. 1) (width_of_two args)
unwritten_width Ne args = option_map (λ w. 1) (width_of_two args)
unwritten_width Lt args = option_map (λ w. 1) (width_of_two args)
unwritten_width Le args = option_map (λ w. 1) (width_of_two args)
unwritten_width Cast args = None
unwritten_width Select args = width_of_choice args
unwritten_width Adjust args = when (same_widths args (16 ∷ 16 ∷ 16 ∷ [])) (Some 16)

-- the width of an operator's result, where the arguments have these widths; a width is written with a cast alone
abbrev pub accepted_width : Op → ℕ → List ℕ → Option ℕ
accepted_width Cast written args = width_of_one args >>= (λ w. when (is_width written) (Some written))
accepted_width op written args = when (written == 0) (unwritten_width op args)

-- an operator on these arguments
abbrev pub typed_apply : Op → ℕ → TypedList → Option Typed
typed_apply op written args =
    option_map (λ w. record { tree = trees.apply op w args.trees; width = w }) (accepted_width op written args.widths)

abbrev pub typed_local : Known → Typed
typed_local k = record { tree = trees.local k.number; width = k.decl.width }

-- the byte of an index, and a shift
abbrev pub typed_byte : Typed → Option Typed
typed_byte i = when (i.width == 16) (Some (record { tree = trees.byte i.tree; width = 8 }))

abbrev pub typed_shift : Op → ℕ → Typed → Option Typed
typed_shift op by a = when (is_shift op && nat_le by 63)
    (Some (record { tree = trees.shift op by a.tree; width = a.width }))

-- an expression, and a list of them, over the locals in scope
abbrev mutual
  pub typed_expr : List Known → SurfaceExpr → Option Typed
  typed_expr scope (lit value width) =
      when (is_width width && nat_lt value (2 ^ width)) (Some (record { tree = trees.lit value width; width = width }))
  typed_expr scope (name word) = option_map typed_local (local_in scope word)
  typed_expr scope (field f) = Some (record { tree = trees.field f; width = (row f).width })
  typed_expr scope (byte index) = typed_expr scope index >>= typed_byte
  typed_expr scope (shift op by arg) = typed_expr scope arg >>= typed_shift op by
  typed_expr scope (apply op written args) = typed_exprs scope args >>= typed_apply op written

  pub typed_exprs : List Known → SurfaceExprs → Option TypedList
  typed_exprs scope no_expr = Some (record { trees = trees.no_expr; widths = [] })
  typed_exprs scope (expr e es) = do
    first ← typed_expr scope e
    rest ← typed_exprs scope es
    Some (record { trees = trees.expr first.tree rest.trees; widths = first.width ∷ rest.widths })

-- no object and no local in scope has this name
abbrev pub is_free : Env → List ℕ → Bool
is_free env word = not (list_any (bytes_eq word) (map (λ o. o.name) env.objects)) && is_none (local_in env.scope word)

-- one more local
abbrev pub with_local : Env → Local → Env
with_local env l = record {
  objects = env.objects;
  locals = env.locals ++ l ∷ [];
  scope = env.scope ++ record { number = length env.locals; decl = l } ∷ [];
}

abbrev pub declared : Env → List ℕ → ℕ → Option Env
declared env word width =
    when (is_free env word && is_width width) (Some (with_local env (record { name = word; width = width })))

-- one local for each name, with the width at its place
abbrev pub all_declared : Env → List (List ℕ) → List ℕ → Option Env
all_declared env [] [] = Some env
all_declared env [] (v ∷ vs) = None
all_declared env (w ∷ ws) [] = None
all_declared env (w ∷ ws) (v ∷ vs) = declared env w v >>= (λ next. all_declared next ws vs)

-- as many numbers as there are names, from n on
abbrev pub numbers_from : ℕ → List (List ℕ) → List ℕ
numbers_from n [] = []
numbers_from n (w ∷ ws) = n ∷ numbers_from (n + 1) ws

abbrev pub values_of : Option ObjectDecl → List ℕ
values_of None = []
values_of (Some o) = o.values

-- a statement, and what is declared behind it
pub record Made : Type 0 where
  pub tree : StmtTree
  pub env : Env

-- statements, and the locals that are declared behind them
pub record MadeBody : Type 0 where
  pub tree : BodyTree
  pub locals : List Local

abbrev pub with_locals : Env → List Local → Env
with_locals env locals = record { objects = env.objects; locals = locals; scope = env.scope }

abbrev pub is_done : SurfaceBody → Bool
is_done done = true
is_done (stmt at s b) = false

-- a condition, which has 1 bit
abbrev pub made_condition : Env → SurfaceExpr → Option ExprTree
made_condition env cond = do
  c ← typed_expr env.scope cond
  when (c.width == 1) (Some c.tree)

-- a statement, and a body of them, behind what is declared so far
abbrev mutual
  pub made_stmt : Env → SurfaceStmt → Option Made
  made_stmt env (let_local word value) = do
    v ← typed_expr env.scope value
    next ← declared env word v.width
    Some (record { tree = trees.let_local (length env.locals) v.tree; env = next })
  made_stmt env (assign word value) = do
    v ← typed_expr env.scope value
    k ← local_in env.scope word
    when (k.decl.width == v.width) (Some (record { tree = trees.assign k.number v.tree; env = env }))
  made_stmt env (set_field f value) = do
    v ← typed_expr env.scope value
    when ((row f).writable && v.width == (row f).width) (Some (record { tree = trees.set_field f v.tree; env = env }))
  made_stmt env (look found into object keys) = do
    o ← object_from 0 env.objects object
    ks ← typed_exprs env.scope keys
    when (fits_keys (slice_get env.objects o) ks.widths) (do
      next ← all_declared env (found ∷ into) (1 ∷ values_of (slice_get env.objects o))
      Some (record {
        tree = trees.look (length env.locals) (numbers_from (length env.locals + 1) into) o ks.trees;
        env = next;
      }))
  made_stmt env (put ok object keys values) = do
    o ← object_from 0 env.objects object
    ks ← typed_exprs env.scope keys
    vs ← typed_exprs env.scope values
    when (can_put (slice_get env.objects o) && fits_keys (slice_get env.objects o) ks.widths
        && fits_values (slice_get env.objects o) vs.widths) (do
          next ← declared env ok 1
          Some (record { tree = trees.put (length env.locals) o ks.trees vs.trees; env = next }))
  made_stmt env (del was object keys) = do
    o ← object_from 0 env.objects object
    ks ← typed_exprs env.scope keys
    when (can_del (slice_get env.objects o) && fits_keys (slice_get env.objects o) ks.widths) (do
      next ← declared env was 1
      Some (record { tree = trees.del (length env.locals) o ks.trees; env = next }))
  made_stmt env (choose cond first second) = do
    c ← made_condition env cond
    a ← made_body env first
    b ← made_body (with_locals env a.locals) second
    Some (record { tree = trees.choose c a.tree b.tree; env = with_locals env b.locals })
  made_stmt env (repeat index count body) =
      when (is_count count) (do
        inside ← declared env index 32
        b ← made_body inside body
        when (not (any_repeats b.tree) && not (ends_always b.tree))
            (Some (record { tree = trees.repeat (length env.locals) count b.tree; env = with_locals env b.locals })))
  made_stmt env (send port) = do
    p ← typed_expr env.scope port
    when (p.width == 8) (Some (record { tree = trees.send p.tree; env = env }))
  made_stmt env drop = Some (record { tree = trees.drop; env = env })

  pub made_body : Env → SurfaceBody → Option MadeBody
  made_body env done = Some (record { tree = trees.done; locals = env.locals })
  made_body env (stmt at s b) = do
    first ← made_stmt env s
    when (not (always_ends first.tree) || is_done b) (do
      rest ← made_body first.env b
      Some (record { tree = trees.stmt first.tree rest.tree; locals = rest.locals }))

-- the literals of a row are written with the declared widths
abbrev pub is_written_row : List ℕ → List ℕ → SurfaceRow → Bool
is_written_row keys values row =
    same_widths (map (λ l. l.width) row.keys) keys && same_widths (map (λ l. l.width) row.values) values

abbrev pub are_written : List ℕ → List ℕ → List SurfaceRow → Bool
are_written keys values rows = list_all (is_written_row keys values) rows

abbrev pub is_written : SurfaceDecl → Bool
is_written (table_decl word keys values rows) = are_written keys values rows
is_written (map_decl word keys values capacity) = true
is_written (vector_decl word size values) = true
is_written (int_decl word width start) = true

-- a declaration that is written so, and keeps the rules of its kind
abbrev pub is_good_decl : SurfaceDecl → Bool
is_good_decl d = is_written d && is_good_object (object_of d).kind (object_of d)

abbrev pub are_good_decls : List SurfaceDecl → Bool
are_good_decls ds = list_all is_written ds && are_good_objects [] (map object_of ds)

-- declarations without their places
abbrev pub decls_of : List Declared → List SurfaceDecl
decls_of ds = map (λ d. d.decl) ds

abbrev pub resolved : Surface → Option Tree
resolved s =
    let decls = decls_of s.objects in
    let objects = map object_of decls in
    when (are_good_decls decls) (do
      b ← made_body (record { objects = objects; locals = []; scope = [] }) s.body
      Some (record { objects = objects; locals = b.locals; body = b.tree }))
