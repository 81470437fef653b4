-- Which rules a declaration or a statement breaks by its own parts, and the first in a source that breaks one.
use Rattle.std.specs.Prelude.{ℕ, ◌^◌, Bool, true, false, not, ◌&&◌, ◌||◌, List, [], ◌∷◌, ◌++◌, map, length, nat_le}
use Rattle.std.specs.Prelude.{nat_lt, ◌==◌, if◌then◌else◌, Option, Some, None, is_none}
use Rattle.std.specs.List.{list_any, list_all}
use Rattle.std.specs.Str.{bytes_eq}
use Rattle.gal_bits.specs.declared.op.Op.{Op}
use Rattle.gal_bits.specs.declared.op.Op.TheVariants.{Eq, Ne, Lt, Le, Cast, Select, Adjust}
use Rattle.packet_fields.specs.Table.{row}
use Rattle.state_store.specs.declared.object.ObjectDecl.{ObjectDecl}
use Rattle.gal_bits.specs.Fitting.{sum_of}
use Rattle.element_lang.specs.declared.tree.Local.{Local}
use Rattle.element_lang.specs.declared.broken.Broken.{Broken}
use Rattle.element_lang.specs.Rules.{is_width, same_widths, fits_operator, is_count, fits_keys, fits_values, can_put}
use Rattle.element_lang.specs.Rules.{can_del, is_size}
use Rattle.element_lang.specs.Surface.{SurfaceExpr, SurfaceExprs, SurfaceStmt, SurfaceBody, Literal, SurfaceRow}
use Rattle.element_lang.specs.Surface.{SurfaceDecl, Declared, Surface, lit, name, field, byte, shift, apply, no_expr}
use Rattle.element_lang.specs.Surface.{expr, let_local, assign, set_field, look, put, del, choose, repeat, send, drop}
use Rattle.element_lang.specs.Surface.{done, stmt, table_decl, map_decl, vector_decl, int_decl, object_of}

-- ## What a statement sees

pub record Sight : Type 0 where
  -- all that are declared
  pub objects : List ObjectDecl
  -- those in scope
  pub locals : List Local
  -- it stands within a `repeat`
  pub repeated : Bool
  -- a statement before it, in the same block, always ends
  pub ended : Bool

abbrev pub local_named : List Local → List ℕ → Option Local
local_named [] word = None
local_named (l ∷ ls) word = if bytes_eq word l.name then Some l else local_named ls word

abbrev pub object_named : List ObjectDecl → List ℕ → Option ObjectDecl
object_named [] word = None
object_named (o ∷ os) word = if bytes_eq word o.name then Some o else object_named os word

-- ## Expressions

abbrev pub width_of_local : Option Local → ℕ
width_of_local None = 0
width_of_local (Some l) = l.width

-- the width of an operator's result, where one is written with it and the arguments have these widths
abbrev pub result_width : Op → ℕ → List ℕ → ℕ
result_width Cast written args = written
result_width Eq written args = 1
result_width Ne written args = 1
result_width Lt written args = 1
result_width Le written args = 1
result_width Adjust written args = 16
result_width Select written (c ∷ x ∷ args) = x
result_width op written (x ∷ args) = x
result_width op written [] = 0

-- the width of an expression's value
abbrev mutual
  pub width_in : List Local → SurfaceExpr → ℕ
  width_in locals (lit value width) = width
  width_in locals (name word) = width_of_local (local_named locals word)
  width_in locals (field f) = (row f).width
  width_in locals (byte index) = 8
  width_in locals (shift op by arg) = width_in locals arg
  width_in locals (apply op written args) = result_width op written (widths_in locals args)

  pub widths_in : List Local → SurfaceExprs → List ℕ
  widths_in locals no_expr = []
  widths_in locals (expr e es) = width_in locals e ∷ widths_in locals es

-- a test holds of an expression, or of one inside it
abbrev mutual
  pub in_expr : (SurfaceExpr → Bool) → SurfaceExpr → Bool
  in_expr test (lit value width) = test (lit value width)
  in_expr test (name word) = test (name word)
  in_expr test (field f) = test (field f)
  in_expr test (byte index) = test (byte index) || in_expr test index
  in_expr test (shift op by arg) = test (shift op by arg) || in_expr test arg
  in_expr test (apply op written args) = test (apply op written args) || in_exprs test args

  pub in_exprs : (SurfaceExpr → Bool) → SurfaceExprs → Bool
  in_exprs test no_expr = false
  in_exprs test (expr e es) = in_expr test e || in_exprs test es

-- a width that is written isn't from 1 to 64
abbrev pub is_bad_width : SurfaceExpr → Bool
is_bad_width (lit value width) = not (is_width width)
is_bad_width (apply Cast written args) = not (is_width written)
is_bad_width _ = false

-- a literal isn't below 2^width
abbrev pub is_too_large : SurfaceExpr → Bool
is_too_large (lit value width) = not (nat_lt value (2 ^ width))
is_too_large _ = false

-- a name isn't that of a local in scope
abbrev pub is_unknown : List Local → SurfaceExpr → Bool
is_unknown locals (name word) = is_none (local_named locals word)
is_unknown locals _ = false

-- widths don't fit the operator, or an index isn't of 16 bits
abbrev pub is_misfit : List Local → SurfaceExpr → Bool
is_misfit locals (byte index) = not (width_in locals index == 16)
is_misfit locals (apply op written args) =
    not (fits_operator op (result_width op written (widths_in locals args)) (widths_in locals args))
is_misfit locals _ = false

-- a shift is above 63
abbrev pub is_far_shift : SurfaceExpr → Bool
is_far_shift (shift op by arg) = not (nat_le by 63)
is_far_shift _ = false

-- ## Statements

-- a statement behind which a run never goes on, and a body that ends with one
abbrev mutual
  pub always_ends : SurfaceStmt → Bool
  always_ends (choose cond first second) = ends_always first && ends_always second
  always_ends (send port) = true
  always_ends drop = true
  always_ends (let_local word value) = false
  always_ends (assign word value) = false
  always_ends (set_field f value) = false
  always_ends (look found into object keys) = false
  always_ends (put ok object keys values) = false
  always_ends (del was object keys) = false
  always_ends (repeat index count body) = false

  pub ends_always : SurfaceBody → Bool
  ends_always done = false
  ends_always (stmt at s done) = always_ends s
  ends_always (stmt at s (stmt bt t b)) = ends_always (stmt bt t b)

abbrev pub appended : SurfaceExprs → SurfaceExprs → SurfaceExprs
appended no_expr more = more
appended (expr e es) more = expr e (appended es more)

-- the expressions that are a statement's own, not those of statements inside it
abbrev pub own_exprs : SurfaceStmt → SurfaceExprs
own_exprs (let_local word value) = expr value no_expr
own_exprs (assign word value) = expr value no_expr
own_exprs (set_field f value) = expr value no_expr
own_exprs (look found into object keys) = keys
own_exprs (put ok object keys values) = appended keys values
own_exprs (del was object keys) = keys
own_exprs (choose cond first second) = expr cond no_expr
own_exprs (repeat index count body) = no_expr
own_exprs (send port) = expr port no_expr
own_exprs drop = no_expr

-- the locals that it declares, with their widths
abbrev pub value_widths : Option ObjectDecl → List ℕ
value_widths None = []
value_widths (Some o) = o.values

abbrev pub locals_of : List (List ℕ) → List ℕ → List Local
locals_of [] widths = []
locals_of (word ∷ words) [] = record { name = word; width = 0 } ∷ locals_of words []
locals_of (word ∷ words) (w ∷ widths) = record { name = word; width = w } ∷ locals_of words widths

abbrev pub declares : Sight → SurfaceStmt → List Local
declares sight (let_local word value) = record { name = word; width = width_in sight.locals value } ∷ []
declares sight (look found into object keys) =
    locals_of (found ∷ into) (1 ∷ value_widths (object_named sight.objects object))
declares sight (put ok object keys values) = record { name = ok; width = 1 } ∷ []
declares sight (del was object keys) = record { name = was; width = 1 } ∷ []
declares sight (repeat index count body) = record { name = index; width = 32 } ∷ []
declares sight _ = []

-- each of these names is that of no object, of no local in scope and of none of those before it
abbrev pub are_free : List ObjectDecl → List Local → List Local → Bool
are_free objects locals [] = true
are_free objects locals (l ∷ ls) =
    is_none (object_named objects l.name) && is_none (local_named locals l.name)
    && are_free objects (locals ++ l ∷ []) ls

-- the names that it uses are those of locals in scope and of declared objects
abbrev pub uses_unknown : Sight → SurfaceStmt → Bool
uses_unknown sight (assign word value) = is_none (local_named sight.locals word)
uses_unknown sight (look found into object keys) = is_none (object_named sight.objects object)
uses_unknown sight (put ok object keys values) = is_none (object_named sight.objects object)
uses_unknown sight (del was object keys) = is_none (object_named sight.objects object)
uses_unknown sight _ = false

-- the width of what it takes isn't the one that is wanted there
abbrev pub takes_misfit : Sight → SurfaceStmt → Bool
takes_misfit sight (assign word value) =
    not (width_of_local (local_named sight.locals word) == width_in sight.locals value)
takes_misfit sight (set_field f value) = not ((row f).width == width_in sight.locals value)
takes_misfit sight (choose cond first second) = not (width_in sight.locals cond == 1)
takes_misfit sight (send port) = not (width_in sight.locals port == 8)
takes_misfit sight _ = false

abbrev pub writes_fixed : SurfaceStmt → Bool
writes_fixed (set_field f value) = not (row f).writable
writes_fixed _ = false

-- keys, values or bound names don't fit the object in count or width
abbrev pub misfits_object : Sight → SurfaceStmt → Bool
misfits_object sight (look found into object keys) =
    not (fits_keys (object_named sight.objects object) (widths_in sight.locals keys))
    || not (length into == length (value_widths (object_named sight.objects object)))
misfits_object sight (put ok object keys values) =
    not (fits_keys (object_named sight.objects object) (widths_in sight.locals keys))
    || not (fits_values (object_named sight.objects object) (widths_in sight.locals values))
misfits_object sight (del was object keys) =
    not (fits_keys (object_named sight.objects object) (widths_in sight.locals keys))
misfits_object sight _ = false

-- it puts to a table, or deletes from anything but a map
abbrev pub changes_fixed : Sight → SurfaceStmt → Bool
changes_fixed sight (put ok object keys values) = not (can_put (object_named sight.objects object))
changes_fixed sight (del was object keys) = not (can_del (object_named sight.objects object))
changes_fixed sight _ = false

-- its count isn't from 1 to 64, or it stands within another one
abbrev pub repeats_badly : Sight → SurfaceStmt → Bool
repeats_badly sight (repeat index count body) = not (is_count count) || sight.repeated
repeats_badly sight _ = false

abbrev pub repeats_an_end : SurfaceStmt → Bool
repeats_an_end (repeat index count body) = ends_always body
repeats_an_end _ = false

-- the names that it uses, in expressions too
abbrev pub is_lost : Sight → SurfaceStmt → Bool
is_lost sight s = in_exprs (is_unknown sight.locals) (own_exprs s) || uses_unknown sight s

-- The rules that a statement can break, from the lowest on, each with the test that says whether it is broken. Where a
-- name isn't
-- known, widths and objects aren't tested.
abbrev pub stmt_tests : Sight → SurfaceStmt → List (ℕ × Bool)
stmt_tests sight s =
    (2, in_exprs is_bad_width (own_exprs s))
    ∷ (4, in_exprs is_too_large (own_exprs s))
    ∷ (7, not (are_free sight.objects sight.locals (declares sight s)))
    ∷ (8, is_lost sight s)
    ∷ (9, not (is_lost sight s) && (in_exprs (is_misfit sight.locals) (own_exprs s) || takes_misfit sight s))
    ∷ (10, writes_fixed s)
    ∷ (11, not (is_lost sight s) && misfits_object sight s)
    ∷ (12, not (is_lost sight s) && changes_fixed sight s)
    ∷ (13, in_exprs is_far_shift (own_exprs s) || repeats_badly sight s)
    ∷ (14, sight.ended || repeats_an_end s)
    ∷ []

-- ## Declarations

-- widths that are written in a declaration, and in its rows
abbrev pub literal_widths : List SurfaceRow → List ℕ
literal_widths [] = []
literal_widths (row ∷ rows) = map (λ l. l.width) row.keys ++ (map (λ l. l.width) row.values ++ literal_widths rows)

abbrev pub surface_rows : SurfaceDecl → List SurfaceRow
surface_rows (table_decl word keys values rows) = rows
surface_rows _ = []

abbrev pub is_too_large_literal : Literal → Bool
is_too_large_literal l = not (nat_lt l.value (2 ^ l.width))

abbrev pub is_too_large_row : SurfaceRow → Bool
is_too_large_row row = list_any is_too_large_literal row.keys || list_any is_too_large_literal row.values

abbrev pub starts_too_large : SurfaceDecl → Bool
starts_too_large (int_decl word width start) = not (nat_lt start (2 ^ width))
starts_too_large _ = false

-- 1 to 8 numbers, of 128 bits at most together
abbrev pub is_list_of_numbers : List ℕ → Bool
is_list_of_numbers widths = nat_le 1 (length widths) && nat_le (length widths) 8 && nat_le (sum_of widths) 128

abbrev pub has_long_lists : SurfaceDecl → Bool
has_long_lists (table_decl word keys values rows) = not (is_list_of_numbers keys) || not (is_list_of_numbers values)
has_long_lists (map_decl word keys values capacity) = not (is_list_of_numbers keys) || not (is_list_of_numbers values)
has_long_lists (vector_decl word size values) = not (is_list_of_numbers values)
has_long_lists (int_decl word width start) = false

abbrev pub has_bad_size : SurfaceDecl → Bool
has_bad_size (map_decl word keys values capacity) = not (is_size capacity)
has_bad_size (vector_decl word size values) = not (is_size size)
has_bad_size _ = false

-- a row has other widths than declared, or the keys of an earlier one
abbrev pub has_bad_rows : List ℕ → List ℕ → List (List ℕ) → List SurfaceRow → Bool
has_bad_rows keys values seen [] = false
has_bad_rows keys values seen (row ∷ rows) =
    not (same_widths (map (λ l. l.width) row.keys) keys) || not (same_widths (map (λ l. l.width) row.values) values)
    || list_any (same_widths (map (λ l. l.value) row.keys)) seen
    || has_bad_rows keys values (map (λ l. l.value) row.keys ∷ seen) rows

abbrev pub has_bad_row : SurfaceDecl → Bool
has_bad_row (table_decl word keys values rows) = has_bad_rows keys values [] rows
has_bad_row _ = false

-- the same of a declaration, behind these objects
abbrev pub decl_tests : List ObjectDecl → SurfaceDecl → List (ℕ × Bool)
decl_tests objects d =
    (1, not (is_none (object_named objects (object_of d).name)))
    ∷ (2, not (list_all is_width ((object_of d).keys ++ ((object_of d).values ++ literal_widths (surface_rows d)))))
    ∷ (3, has_long_lists d)
    ∷ (4, list_any is_too_large_row (surface_rows d) || starts_too_large d)
    ∷ (5, has_bad_size d)
    ∷ (6, has_bad_row d)
    ∷ []

-- ## The first

abbrev pub lowest_broken : ℕ → List (ℕ × Bool) → Option Broken
lowest_broken at [] = None
lowest_broken at ((rule, true) ∷ tests) = Some (record { rule = rule; at = at })
lowest_broken at ((rule, false) ∷ tests) = lowest_broken at tests

infixr 10 ◌or_else◌
abbrev pub ◌or_else◌ : Option Broken → Option Broken → Option Broken
None or_else next = next
(Some b) or_else next = Some b

-- what the statements in a block see: no statement is before the first
abbrev pub inside : Sight → Sight
inside sight = record { objects = sight.objects; locals = sight.locals; repeated = sight.repeated; ended = false }

abbrev pub in_repeat : Sight → SurfaceStmt → Sight
in_repeat sight s = record {
  objects = sight.objects;
  locals = sight.locals ++ declares sight s;
  repeated = true;
  ended = false;
}

-- the locals that are in scope behind it: the one that counts the turns of a `repeat` is in scope in its body alone
abbrev pub binds : Sight → SurfaceStmt → List Local
binds sight (repeat index count body) = []
binds sight s = declares sight s

-- what is seen behind a statement
abbrev pub behind : Sight → SurfaceStmt → Sight
behind sight s = record {
  objects = sight.objects;
  locals = sight.locals ++ binds sight s;
  repeated = sight.repeated;
  ended = sight.ended || always_ends s;
}

abbrev mutual
  -- in the statements inside a statement
  pub broken_within : Sight → SurfaceStmt → Option Broken
  broken_within sight (choose cond first second) =
      broken_in (inside sight) first or_else broken_in (inside sight) second
  broken_within sight (repeat index count body) = broken_in (in_repeat sight (repeat index count body)) body
  broken_within sight _ = None

  pub broken_in : Sight → SurfaceBody → Option Broken
  broken_in sight done = None
  broken_in sight (stmt at s b) =
      lowest_broken at (stmt_tests sight s) or_else (broken_within sight s or_else broken_in (behind sight s) b)

abbrev pub broken_decl : List ObjectDecl → List Declared → Option Broken
broken_decl objects [] = None
broken_decl objects (d ∷ ds) =
    lowest_broken d.at (decl_tests objects d.decl) or_else broken_decl (objects ++ object_of d.decl ∷ []) ds

-- of all declarations and statements that break a rule the first, and the lowest rule that it breaks
abbrev pub first_broken : Surface → Option Broken
first_broken surface =
    broken_decl [] surface.objects
    or_else broken_in (record {
      objects = map (λ d. object_of d.decl) surface.objects;
      locals = [];
      repeated = false;
      ended = false;
    }) surface.body
