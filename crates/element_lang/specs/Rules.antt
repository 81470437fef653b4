-- The rules that a middlebox keeps, each as a test.
use Rattle.std.specs.Prelude.{ℕ, suc, ◌+◌, ◌^◌, Bool, true, false, not, ◌&&◌, ◌||◌, List, [], ◌∷◌, ◌++◌, map, length}
use Rattle.std.specs.Prelude.{nat_le, nat_lt, ◌==◌, slice_get, slice_index}
use Rattle.std.specs.List.{list_any, list_all}
use Rattle.std.specs.Str.{bytes_eq}
pub use Rattle.gal_bits.specs.Fitting.{is_width, same_widths, fits_operator, is_shift}
use Rattle.gal_bits.specs.Fitting.{sum_of}
pub use Rattle.state_store.specs.Fitting.{fits_keys, fits_values, can_put, can_del}
use Rattle.packet_fields.specs.Table.{row}
use Rattle.state_store.specs.declared.object.Kind.{Kind}
use Rattle.state_store.specs.declared.object.Kind.TheVariants.{Table, Map, Vector, Int}
use Rattle.state_store.specs.declared.object.Row.{Row}
use Rattle.state_store.specs.declared.object.ObjectDecl.{ObjectDecl}
use Rattle.state_store.specs.Kept.{have_widths}
use Rattle.element_lang.specs.Tree.{ExprTree, Exprs, StmtTree, BodyTree, Tree}
use Rattle.element_lang.specs.Tree.ExprTree.{lit, local, field, byte, shift, apply}
use Rattle.element_lang.specs.Tree.Exprs.{no_expr, expr}
use Rattle.element_lang.specs.Tree.StmtTree.{let_local, assign, set_field, look, put, del, choose, repeat, send, drop}
use Rattle.element_lang.specs.Tree.BodyTree.{done, stmt}
use Rattle.element_lang.specs.Widths.{local_widths, width_of}
use Rattle.element_lang.specs.Surface.{local_name}

abbrev pub count_of : Exprs → ℕ
count_of no_expr = 0
count_of (expr e es) = suc (count_of es)

abbrev pub widths_of : List ℕ → Exprs → List ℕ
widths_of widths no_expr = []
widths_of widths (expr e es) = width_of widths e ∷ widths_of widths es

-- Literals fit their widths, locals are among those in scope, and widths fit the operators.
abbrev mutual
  pub is_good_expr : List ℕ → List ℕ → ExprTree → Bool
  is_good_expr widths scope (lit value width) = is_width width && nat_lt value (2 ^ width)
  is_good_expr widths scope (local x) = list_any (λ y. y == x) scope
  is_good_expr widths scope (field f) = true
  is_good_expr widths scope (byte index) = is_good_expr widths scope index && width_of widths index == 16
  is_good_expr widths scope (shift op by arg) = is_shift op && nat_le by 63 && is_good_expr widths scope arg
  is_good_expr widths scope (apply op width args) =
      are_good_exprs widths scope args && fits_operator op width (widths_of widths args)

  pub are_good_exprs : List ℕ → List ℕ → Exprs → Bool
  are_good_exprs widths scope no_expr = true
  are_good_exprs widths scope (expr e es) = is_good_expr widths scope e && are_good_exprs widths scope es

-- the names of the objects
abbrev pub object_names : Tree → List (List ℕ)
object_names m = map (λ o. o.name) m.objects

-- so many numbers from n on
abbrev pub counted_from : ℕ → List ℕ → Bool
counted_from n [] = true
counted_from n (x ∷ xs) = x == n && counted_from (n + 1) xs

-- locals that are declared together have names of their own: none is that of an object, of a local in scope, or of
-- another of them
abbrev pub are_fresh : Tree → List ℕ → List ℕ → Bool
are_fresh m scope [] = true
are_fresh m scope (x ∷ xs) =
    not (list_any (bytes_eq (local_name m x)) (object_names m))
    && not (list_any (λ y. bytes_eq (local_name m x) (local_name m y)) scope) && are_fresh m (x ∷ scope) xs

-- the locals that a statement declares, in order
abbrev pub binds : StmtTree → List ℕ
binds (let_local x value) = x ∷ []
binds (look found into object keys) = found ∷ into
binds (put ok object keys values) = ok ∷ []
binds (del was object keys) = was ∷ []
binds _ = []

-- how many locals are declared in it, at any depth
abbrev mutual
  pub declared_in : StmtTree → ℕ
  declared_in (let_local x value) = 1
  declared_in (look found into object keys) = suc (length into)
  declared_in (put ok object keys values) = 1
  declared_in (del was object keys) = 1
  declared_in (choose cond first second) = declared_by first + declared_by second
  declared_in (repeat index count body) = suc (declared_by body)
  declared_in (assign x value) = 0
  declared_in (set_field f value) = 0
  declared_in (send port) = 0
  declared_in drop = 0

  pub declared_by : BodyTree → ℕ
  declared_by done = 0
  declared_by (stmt s b) = declared_in s + declared_by b

-- a statement behind which a run never goes on, and a body that ends with one
abbrev mutual
  pub always_ends : StmtTree → Bool
  always_ends (choose cond first second) = ends_always first && ends_always second
  always_ends (send port) = true
  always_ends drop = true
  always_ends (let_local x value) = false
  always_ends (assign x value) = false
  always_ends (set_field f value) = false
  always_ends (look found into object keys) = false
  always_ends (put ok object keys values) = false
  always_ends (del was object keys) = false
  always_ends (repeat index count body) = false

  pub ends_always : BodyTree → Bool
  ends_always done = false
  ends_always (stmt s done) = always_ends s
  ends_always (stmt s (stmt t b)) = ends_always (stmt t b)

-- a repeat stands in it, at any depth
abbrev mutual
  pub repeats : StmtTree → Bool
  repeats (repeat index count body) = true
  repeats (choose cond first second) = any_repeats first || any_repeats second
  repeats (let_local x value) = false
  repeats (assign x value) = false
  repeats (set_field f value) = false
  repeats (look found into object keys) = false
  repeats (put ok object keys values) = false
  repeats (del was object keys) = false
  repeats (send port) = false
  repeats drop = false

  pub any_repeats : BodyTree → Bool
  any_repeats done = false
  any_repeats (stmt s b) = repeats s || any_repeats b

abbrev pub is_empty : BodyTree → Bool
is_empty done = true
is_empty (stmt s b) = false

-- a body is repeated 1 to 64 times
abbrev pub is_count : ℕ → Bool
is_count n = nat_le 1 n && nat_le n 64

-- Each statement keeps its rules, over the locals in scope; `next` is the number of the next local that is declared.
abbrev mutual
  pub is_good_stmt : Tree → List ℕ → ℕ → StmtTree → Bool
  is_good_stmt m scope next (let_local x value) =
      let widths = local_widths m in
      is_good_expr widths scope value && slice_index widths x == width_of widths value
      && counted_from next (x ∷ []) && are_fresh m scope (x ∷ [])
  is_good_stmt m scope next (assign x value) =
      let widths = local_widths m in
      is_good_expr widths scope value && list_any (λ y. y == x) scope && slice_index widths x == width_of widths value
  is_good_stmt m scope next (set_field f value) =
      let widths = local_widths m in
      is_good_expr widths scope value && (row f).writable && width_of widths value == (row f).width
  is_good_stmt m scope next (look found into object keys) =
      let widths = local_widths m in
      let declaration = slice_get m.objects object in
      are_good_exprs widths scope keys && fits_keys declaration (widths_of widths keys)
      && fits_values declaration (map (slice_index widths) into) && slice_index widths found == 1
      && counted_from next (found ∷ into) && are_fresh m scope (found ∷ into)
  is_good_stmt m scope next (put ok object keys values) =
      let widths = local_widths m in
      let declaration = slice_get m.objects object in
      are_good_exprs widths scope keys && are_good_exprs widths scope values && can_put declaration
      && fits_keys declaration (widths_of widths keys) && fits_values declaration (widths_of widths values)
      && slice_index widths ok == 1 && counted_from next (ok ∷ []) && are_fresh m scope (ok ∷ [])
  is_good_stmt m scope next (del was object keys) =
      let widths = local_widths m in
      let declaration = slice_get m.objects object in
      are_good_exprs widths scope keys && can_del declaration && fits_keys declaration (widths_of widths keys)
      && slice_index widths was == 1 && counted_from next (was ∷ []) && are_fresh m scope (was ∷ [])
  is_good_stmt m scope next (choose cond first second) =
      let widths = local_widths m in
      is_good_expr widths scope cond && width_of widths cond == 1
      && is_good_body m scope next first && is_good_body m scope (next + declared_by first) second
  is_good_stmt m scope next (repeat index count body) =
      is_count count && not (any_repeats body) && not (ends_always body)
      && slice_index (local_widths m) index == 32 && counted_from next (index ∷ []) && are_fresh m scope (index ∷ [])
      && is_good_body m (index ∷ scope) (next + 1) body
  is_good_stmt m scope next (send port) =
      let widths = local_widths m in is_good_expr widths scope port && width_of widths port == 8
  is_good_stmt m scope next drop = true

  -- and none follows one that always ends
  pub is_good_body : Tree → List ℕ → ℕ → BodyTree → Bool
  is_good_body m scope next done = true
  is_good_body m scope next (stmt s b) =
      is_good_stmt m scope next s && (not (always_ends s) || is_empty b)
      && is_good_body m (binds s ++ scope) (next + declared_in s) b

-- a key or a value has 1 to 8 numbers, each of 1 to 64 bits and of 128 bits together
abbrev pub are_widths : List ℕ → Bool
are_widths ws = nat_le 1 (length ws) && nat_le (length ws) 8 && list_all is_width ws && nat_le (sum_of ws) 128

-- a map has room for 1 to 1,048,576 rows, and a vector has as many
abbrev pub is_size : ℕ → Bool
is_size n = nat_le 1 n && nat_le n 1048576

-- The keys and values of a table's rows have the declared widths, and no two rows have the same key.
abbrev pub are_good_rows : List ℕ → List ℕ → List (List ℕ) → List Row → Bool
are_good_rows keys values seen [] = true
are_good_rows keys values seen (row ∷ rows) =
    have_widths keys row.keys && have_widths values row.values
    && not (list_any (same_widths row.keys) seen) && are_good_rows keys values (row.keys ∷ seen) rows

-- Each kind's own rules, where what it doesn't have stands at 0 or is empty.
abbrev pub is_good_object : Kind → ObjectDecl → Bool
is_good_object Table o = are_widths o.keys && are_widths o.values && o.size == length o.rows && o.start == 0
    && are_good_rows o.keys o.values [] o.rows
is_good_object Map o = are_widths o.keys && are_widths o.values && is_size o.size && o.start == 0 && length o.rows == 0
is_good_object Vector o =
    same_widths o.keys (32 ∷ []) && are_widths o.values && is_size o.size && o.start == 0 && length o.rows == 0
is_good_object Int o =
    length o.keys == 0 && same_widths o.values (slice_index o.values 0 ∷ []) && is_width (slice_index o.values 0)
    && o.size == 1 && nat_lt o.start (2 ^ slice_index o.values 0) && length o.rows == 0

-- each object keeps its rules, and has a name of its own
abbrev pub are_good_objects : List (List ℕ) → List ObjectDecl → Bool
are_good_objects names [] = true
are_good_objects names (o ∷ os) =
    is_good_object o.kind o && not (list_any (bytes_eq o.name) names) && are_good_objects (o.name ∷ names) os

-- the whole middlebox: its locals are those that its statements declare, in order
abbrev pub is_good : Tree → Bool
is_good m = are_good_objects [] m.objects && declared_by m.body == length m.locals && is_good_body m [] 0 m.body
