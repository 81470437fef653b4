-- A middlebox that keeps the rules can be run.
use Rattle.std.proofs.Common.{◌≡◌, ◌≤◌, ◌+◌, ℕ, zero, suc, true, ◌==◌, List, [], ◌∷◌, ◌++◌, length, nat_le, Option, Some, None, slice_get, slice_index, refl, sym, ap, ◌∙◌, subst, arith, true≢false}
use Rattle.gal_bits.specs.declared.op.Op.{Op}
use Rattle.gal_bits.specs.declared.op.Op.TheVariants.{Add, Not, Shl, Shr, Eq, Ne, Lt, Le, Cast, Select, Adjust}
use Rattle.gal_bits.specs.Operators.{operator_row}
use Rattle.state_store.specs.declared.object.Kind.{Kind}
use Rattle.state_store.specs.declared.object.Kind.TheVariants.{Vector, Int}
use Rattle.state_store.specs.declared.object.ObjectDecl.{ObjectDecl}
use Rattle.std.proofs.lemmas.Bool.{leb-true, eqb-true}
use Rattle.std.proofs.lemmas.Option.{same_Some}
use Rattle.element_lang.specs.Tree.{ExprTree, Exprs, StmtTree, BodyTree, Tree}
use Rattle.element_lang.specs.Tree.ExprTree.{byte, shift, apply}
use Rattle.element_lang.specs.Tree.Exprs.{no_expr, expr}
use Rattle.element_lang.specs.Tree.StmtTree.{let_local, assign, set_field, look, put, del, choose, repeat, send, drop}
use Rattle.element_lang.specs.Tree.BodyTree.{done, stmt}
use Rattle.element_lang.specs.Widths.{local_widths}
use Rattle.element_lang.specs.Rules.{count_of, widths_of, same_widths, fits_operator, is_shift, is_good_expr, are_good_exprs, is_good_stmt, is_good_body, is_good, fits_keys, fits_values, are_widths, is_good_object, are_good_objects, declared_in, declared_by, binds}
use Rattle.element_interp.specs.Runnable.{IsRunnableExpr, AreRunnableExprs, IsRunnableStmt, IsRunnableBody}
use Rattle.lemmas.proofs.Tests.{and_first, and_second}

same_length : (xs ys : List ℕ) → same_widths xs ys ≡ true → length xs ≡ length ys
same_length [] [] h = refl
same_length [] (y ∷ ys) h = absurd (true≢false (sym h))
same_length (x ∷ xs) [] h = absurd (true≢false (sym h))
same_length (x ∷ xs) (y ∷ ys) h = ap suc (same_length xs ys (and_second (x == y) (same_widths xs ys) h))

count_widths : (widths : List ℕ) (es : Exprs) → length (widths_of widths es) ≡ count_of es
count_widths widths no_expr = refl
count_widths widths (expr e es) = ap suc (count_widths widths es)

-- an operator that its arguments fit has as many as it takes
arity : (op : Op) (w : ℕ) (args : List ℕ) → fits_operator op w args ≡ true → length args ≡ (operator_row op).arity
arity Not w args h = same_length args (w ∷ []) h
arity Shl w args h = absurd (true≢false (sym h))
arity Shr w args h = absurd (true≢false (sym h))
arity Eq w args h = same_length args (slice_index args 0 ∷ slice_index args 0 ∷ []) (and_second (w == 1) _ h)
arity Ne w args h = same_length args (slice_index args 0 ∷ slice_index args 0 ∷ []) (and_second (w == 1) _ h)
arity Lt w args h = same_length args (slice_index args 0 ∷ slice_index args 0 ∷ []) (and_second (w == 1) _ h)
arity Le w args h = same_length args (slice_index args 0 ∷ slice_index args 0 ∷ []) (and_second (w == 1) _ h)
arity Cast w args h = eqb-true (length args) 1 (and_second _ (length args == 1) h)
arity Select w args h = same_length args (1 ∷ w ∷ w ∷ []) h
arity Adjust w args h = same_length args (16 ∷ 16 ∷ 16 ∷ []) (and_second (w == 16) _ h)
arity _ w args h = same_length args (w ∷ w ∷ []) h

few_arguments : (op : Op) → (operator_row op).arity ≤ 8
few_arguments Add = omega arith
few_arguments _ = omega arith

shift_arity : (op : Op) → is_shift op ≡ true → (operator_row op).arity ≡ 2
shift_arity Not h = absurd (true≢false (sym h))
shift_arity Cast h = absurd (true≢false (sym h))
shift_arity Select h = absurd (true≢false (sym h))
shift_arity Adjust h = absurd (true≢false (sym h))
shift_arity _ h = refl

mutual
  good_expr : (widths scope : List ℕ) (e : ExprTree) → is_good_expr widths scope e ≡ true → IsRunnableExpr e
  good_expr widths scope (byte index) h = good_expr widths scope index (and_first (is_good_expr widths scope index) _ h)
  good_expr widths scope (shift op by arg) h =
      (shift_arity op (and_first (is_shift op) _ (and_first _ _ h)), good_expr widths scope arg (and_second _ (is_good_expr widths scope arg) h))
  good_expr widths scope (apply op width args) h =
      let count = sym (count_widths widths args) ∙ arity op width (widths_of widths args) (and_second _ (fits_operator op width (widths_of widths args)) h) in
      let small = few_arguments op in
      (count, omega arith, good_exprs widths scope args (and_first (are_good_exprs widths scope args) _ h))
  good_expr widths scope _ h = tt

  good_exprs : (widths scope : List ℕ) (es : Exprs) → are_good_exprs widths scope es ≡ true → AreRunnableExprs es
  good_exprs widths scope no_expr h = tt
  good_exprs widths scope (expr e es) h = (good_expr widths scope e (and_first (is_good_expr widths scope e) _ h), good_exprs widths scope es (and_second _ (are_good_exprs widths scope es) h))

-- the lists of widths of a declared object are short
record IsShort (o : ObjectDecl) : Type 0 where
  keys : length o.keys ≤ 8
  values : length o.values ≤ 8

short_widths : (ws : List ℕ) → are_widths ws ≡ true → length ws ≤ 8
short_widths ws h = leb-true (length ws) 8 (and_second _ (nat_le (length ws) 8) (and_first _ _ (and_first _ _ h)))

short_object : (kind : Kind) (o : ObjectDecl) → is_good_object kind o ≡ true → IsShort o
short_object Vector o h =
    let widths = and_first _ _ (and_first _ _ (and_first _ _ h)) in
    let one = same_length o.keys (32 ∷ []) (and_first (same_widths o.keys (32 ∷ [])) _ widths) in
    record { keys = omega arith; values = short_widths o.values (and_second _ (are_widths o.values) widths) }
short_object Int o h =
    let widths = and_first _ _ (and_first _ _ (and_first _ _ (and_first _ _ h))) in
    let none = eqb-true (length o.keys) 0 (and_first (length o.keys == 0) _ widths) in
    let one = same_length o.values (slice_index o.values 0 ∷ []) (and_second _ (same_widths o.values (slice_index o.values 0 ∷ [])) widths) in
    record { keys = omega arith; values = omega arith }
short_object _ o h =
    let widths = and_first _ _ (and_first _ _ (and_first _ _ h)) in
    record { keys = short_widths o.keys (and_first (are_widths o.keys) _ widths); values = short_widths o.values (and_second _ (are_widths o.values) widths) }

short_objects : (names : List (List ℕ)) (os : List ObjectDecl) (n : ℕ) (o : ObjectDecl) → are_good_objects names os ≡ true → slice_get os n ≡ Some o → IsShort o
short_objects names [] n o h got = cc
short_objects names (x ∷ xs) zero o h got = subst IsShort (same_Some x o got) (short_object x.kind x (and_first (is_good_object x.kind x) _ (and_first _ _ h)))
short_objects names (x ∷ xs) (suc n) o h got = short_objects (x.name ∷ names) xs n o (and_second _ (are_good_objects (x.name ∷ names) xs) h) got

-- a key or a value that fits an object has at most 8 numbers
few_of : (m : Tree) (n : ℕ) (widths : List ℕ) (es : Exprs) → are_good_objects [] m.objects ≡ true → fits_keys (slice_get m.objects n) (widths_of widths es) ≡ true → count_of es ≤ 8
few_of m n widths es good fits = by_option (slice_get m.objects n) refl fits
  where
    by_option : (found : Option ObjectDecl) → slice_get m.objects n ≡ found → fits_keys found (widths_of widths es) ≡ true → count_of es ≤ 8
    by_option None is h = absurd (true≢false (sym h))
    by_option (Some o) is h =
        let short = (short_objects [] m.objects n o good is).keys in
        let same = same_length (widths_of widths es) o.keys h in
        let count = count_widths widths es in
        omega arith

few_values : (m : Tree) (n : ℕ) (widths : List ℕ) (es : Exprs) → are_good_objects [] m.objects ≡ true → fits_values (slice_get m.objects n) (widths_of widths es) ≡ true → count_of es ≤ 8
few_values m n widths es good fits = by_option (slice_get m.objects n) refl fits
  where
    by_option : (found : Option ObjectDecl) → slice_get m.objects n ≡ found → fits_values found (widths_of widths es) ≡ true → count_of es ≤ 8
    by_option None is h = absurd (true≢false (sym h))
    by_option (Some o) is h =
        let short = (short_objects [] m.objects n o good is).values in
        let same = same_length (widths_of widths es) o.values h in
        let count = count_widths widths es in
        omega arith

mutual
  good_stmt : (m : Tree) (scope : List ℕ) (next : ℕ) (s : StmtTree) → are_good_objects [] m.objects ≡ true → is_good_stmt m scope next s ≡ true → IsRunnableStmt s
  good_stmt m scope next (let_local x value) good h = good_expr (local_widths m) scope value (and_first _ _ (and_first _ _ (and_first _ _ h)))
  good_stmt m scope next (assign x value) good h = good_expr (local_widths m) scope value (and_first _ _ (and_first _ _ h))
  good_stmt m scope next (set_field f value) good h = good_expr (local_widths m) scope value (and_first _ _ (and_first _ _ h))
  good_stmt m scope next (look found into object keys) good h =
      let first = and_first _ _ (and_first _ _ (and_first _ _ (and_first _ _ h))) in
      (few_of m object (local_widths m) keys good (and_second _ _ first), good_exprs (local_widths m) scope keys (and_first _ _ first))
  good_stmt m scope next (put ok object keys values) good h =
      let five = and_first _ _ (and_first _ _ (and_first _ _ h)) in
      let four = and_first _ _ five in
      let three = and_first _ _ four in
      let two = and_first _ _ three in (
        few_of m object (local_widths m) keys good (and_second _ _ four),
        good_exprs (local_widths m) scope keys (and_first _ _ two),
        few_values m object (local_widths m) values good (and_second _ _ five),
        good_exprs (local_widths m) scope values (and_second _ _ two),
      )
  good_stmt m scope next (del was object keys) good h =
      let three = and_first _ _ (and_first _ _ (and_first _ _ h)) in
      (few_of m object (local_widths m) keys good (and_second _ _ three), good_exprs (local_widths m) scope keys (and_first _ _ (and_first _ _ three)))
  good_stmt m scope next (choose cond first second) good h =
      let three = and_first _ _ h in
      (good_expr (local_widths m) scope cond (and_first _ _ (and_first _ _ three)), good_body m scope next first good (and_second _ _ three), good_body m scope (next + declared_by first) second good (and_second _ _ h))
  good_stmt m scope next (repeat index count body) good h = good_body m (index ∷ scope) (next + 1) body good (and_second _ _ h)
  good_stmt m scope next (send port) good h = good_expr (local_widths m) scope port (and_first _ _ h)
  good_stmt m scope next drop good h = tt

  good_body : (m : Tree) (scope : List ℕ) (next : ℕ) (b : BodyTree) → are_good_objects [] m.objects ≡ true → is_good_body m scope next b ≡ true → IsRunnableBody b
  good_body m scope next done good h = tt
  good_body m scope next (stmt s b) good h =
      (good_stmt m scope next s good (and_first _ _ (and_first _ _ h)), good_body m (binds s ++ scope) (next + declared_in s) b good (and_second _ _ h))

-- the whole middlebox
pub good_runs : (m : Tree) → is_good m ≡ true → IsRunnableBody m.body
good_runs m h = good_body m [] 0 m.body (and_first _ _ (and_first _ _ h)) (and_second _ _ h)
