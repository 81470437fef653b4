-- The expressions of a middlebox that keeps the rules have bits, and its looks bind few locals.
use Rattle.std.proofs.Common.{◌≡◌, ◌≤◌, ◌+◌, ℕ, zero, suc, true, ◌==◌, List, [], ◌∷◌, ◌++◌, length, map, nat_le, Option, Some, None, slice_get, slice_index, refl, sym, ap, subst, arith, true≢false, ⊎_elim}
use Rattle.std.proofs.lemmas.Bool.{leb-true, eqb-true, or_cases, false≢true}
use Rattle.std.specs.List.{list_any, list_all}
use Rattle.gal_bits.specs.declared.op.Op.{Op}
use Rattle.gal_bits.specs.declared.op.Op.TheVariants.{Not, Shl, Shr, Eq, Ne, Lt, Le, Cast, Select, Adjust}
use Rattle.packet_fields.specs.declared.field.Field.{Field}
use Rattle.packet_fields.specs.FieldOrder.{width_range}
use Rattle.packet_fields.specs.Table.{row}
use Rattle.state_store.specs.declared.object.Kind.{Kind}
use Rattle.state_store.specs.declared.object.Kind.TheVariants.{Int}
use Rattle.state_store.specs.declared.object.ObjectDecl.{ObjectDecl}
use Rattle.element_lang.specs.Tree.{ExprTree, Exprs, StmtTree, BodyTree, Tree}
use Rattle.element_lang.specs.Tree.ExprTree.{lit, local, field, byte, shift, apply}
use Rattle.element_lang.specs.Tree.Exprs.{no_expr, expr}
use Rattle.element_lang.specs.Tree.StmtTree.{let_local, assign, set_field, look, put, del, choose, repeat, send, drop}
use Rattle.element_lang.specs.Tree.BodyTree.{done, stmt}
use Rattle.element_lang.specs.Widths.{local_widths, width_of}
use Rattle.element_lang.specs.Rules.{widths_of, same_widths, fits_operator, is_good_expr, are_good_exprs, is_good_stmt, is_good_body, is_good, fits_values, are_widths, is_good_object, are_good_objects, declared_in, declared_by, binds, is_width}
use Rattle.flatten.specs.Sized.{IsSizedExpr, AreSizedExprs, IsSizedStmt, IsSizedBody}
use Rattle.lemmas.proofs.Tests.{and_first, and_second}

-- each local in scope has bits
abbrev pub Wide : List ℕ → List ℕ → Type 0
Wide ws [] = Unit {0}
Wide ws (x ∷ xs) = (1 ≤ slice_index ws x) × Wide ws xs

pub wide_in : (ws scope : List ℕ) (x : ℕ) → list_any (λ y. y == x) scope ≡ true → Wide ws scope → 1 ≤ slice_index ws x
wide_in ws [] x h w = absurd (false≢true h)
wide_in ws (y ∷ ys) x h w =
    ⊎_elim (λ e. subst (λ z. 1 ≤ slice_index ws z) (eqb-true y x e) w.0) (λ e. wide_in ws ys x e w.1) (or_cases (y == x) (list_any (λ y. y == x) ys) h)

pub wide_both : (ws xs ys : List ℕ) → Wide ws xs → Wide ws ys → Wide ws (xs ++ ys)
wide_both ws [] ys p q = q
wide_both ws (x ∷ xs) ys p q = (p.0, wide_both ws xs ys p.1 q)

pub field_wide : (f : Field) → 1 ≤ (row f).width
field_wide f = (width_range f).0

-- each of these widths is that of something
abbrev AllWide : List ℕ → Type 0
AllWide [] = Unit {0}
AllWide (w ∷ ws) = (1 ≤ w) × AllWide ws

first_wide : (ls : List ℕ) (width : ℕ) (more : List ℕ) → AllWide ls → same_widths ls (width ∷ more) ≡ true → 1 ≤ width
first_wide [] width more w h = absurd (true≢false (sym h))
first_wide (l ∷ ls) width more w h = subst (λ n. 1 ≤ n) (eqb-true l width (and_first (l == width) _ h)) w.0

second_wide : (ls : List ℕ) (bit width : ℕ) (more : List ℕ) → AllWide ls → same_widths ls (bit ∷ width ∷ more) ≡ true → 1 ≤ width
second_wide [] bit width more w h = absurd (true≢false (sym h))
second_wide (l ∷ ls) bit width more w h = first_wide ls width more w.1 (and_second (l == bit) _ h)

op_wide : (op : Op) (width : ℕ) (ls : List ℕ) → AllWide ls → fits_operator op width ls ≡ true → 1 ≤ width
op_wide Not width ls w h = first_wide ls width [] w h
op_wide Shl width ls w h = absurd (true≢false (sym h))
op_wide Shr width ls w h = absurd (true≢false (sym h))
op_wide Eq width ls w h = let e = eqb-true width 1 (and_first (width == 1) _ h) in omega arith
op_wide Ne width ls w h = let e = eqb-true width 1 (and_first (width == 1) _ h) in omega arith
op_wide Lt width ls w h = let e = eqb-true width 1 (and_first (width == 1) _ h) in omega arith
op_wide Le width ls w h = let e = eqb-true width 1 (and_first (width == 1) _ h) in omega arith
op_wide Cast width ls w h = leb-true 1 width (and_first _ _ (and_first (is_width width) _ h))
op_wide Select width ls w h = second_wide ls 1 width (width ∷ []) w h
op_wide Adjust width ls w h = let e = eqb-true width 16 (and_first (width == 16) _ h) in omega arith
op_wide _ width ls w h = first_wide ls width (width ∷ []) w h

mutual
  pub expr_wide : (ws scope : List ℕ) (e : ExprTree) → Wide ws scope → is_good_expr ws scope e ≡ true → 1 ≤ width_of ws e
  expr_wide ws scope (lit value width) w h = leb-true 1 width (and_first _ _ (and_first (is_width width) _ h))
  expr_wide ws scope (local x) w h = wide_in ws scope x h w
  expr_wide ws scope (field f) w h = field_wide f
  expr_wide ws scope (byte index) w h = omega arith
  expr_wide ws scope (shift op by arg) w h = expr_wide ws scope arg w (and_second _ (is_good_expr ws scope arg) h)
  expr_wide ws scope (apply op width args) w h =
      op_wide op width (widths_of ws args) (exprs_wide ws scope args w (and_first (are_good_exprs ws scope args) _ h)) (and_second _ (fits_operator op width (widths_of ws args)) h)

  exprs_wide : (ws scope : List ℕ) (es : Exprs) → Wide ws scope → are_good_exprs ws scope es ≡ true → AllWide (widths_of ws es)
  exprs_wide ws scope no_expr w h = tt
  exprs_wide ws scope (expr e es) w h = (expr_wide ws scope e w (and_first (is_good_expr ws scope e) _ h), exprs_wide ws scope es w (and_second _ (are_good_exprs ws scope es) h))

mutual
  expr_sized : (ws scope : List ℕ) (e : ExprTree) → Wide ws scope → is_good_expr ws scope e ≡ true → IsSizedExpr ws e
  expr_sized ws scope (byte index) w h = expr_sized ws scope index w (and_first (is_good_expr ws scope index) _ h)
  expr_sized ws scope (shift op by arg) w h =
      (expr_wide ws scope arg w (and_second _ (is_good_expr ws scope arg) h), expr_sized ws scope arg w (and_second _ (is_good_expr ws scope arg) h))
  expr_sized ws scope (apply op width args) w h = exprs_sized ws scope args w (and_first (are_good_exprs ws scope args) _ h)
  expr_sized ws scope _ w h = tt

  exprs_sized : (ws scope : List ℕ) (es : Exprs) → Wide ws scope → are_good_exprs ws scope es ≡ true → AreSizedExprs ws es
  exprs_sized ws scope no_expr w h = tt
  exprs_sized ws scope (expr e es) w h = (expr_sized ws scope e w (and_first (is_good_expr ws scope e) _ h), exprs_sized ws scope es w (and_second _ (are_good_exprs ws scope es) h))

-- the values of a declared object are few, and have bits
same_length : (xs ys : List ℕ) → same_widths xs ys ≡ true → length xs ≡ length ys
same_length [] [] h = refl
same_length (x ∷ xs) (y ∷ ys) h = ap suc (same_length xs ys (and_second (x == y) (same_widths xs ys) h))
same_length _ _ h = absurd (true≢false (sym h))

record HasFew (o : ObjectDecl) : Type 0 where
  few : length o.values ≤ 8
  wide : AllWide o.values

all_wide : (ws : List ℕ) → list_all is_width ws ≡ true → AllWide ws
all_wide [] h = tt
all_wide (w ∷ ws) h = (leb-true 1 w (and_first _ _ (and_first (is_width w) _ h)), all_wide ws (and_second _ (list_all is_width ws) h))

of_widths : (o : ObjectDecl) → are_widths o.values ≡ true → HasFew o
of_widths o h = record {
  few = leb-true (length o.values) 8 (and_second _ (nat_le (length o.values) 8) (and_first _ _ (and_first _ _ h)));
  wide = all_wide o.values (and_second _ (list_all is_width o.values) (and_first _ _ h));
}

wide_from : (ws vs : List ℕ) → same_widths ws vs ≡ true → AllWide vs → AllWide ws
wide_from [] vs h w = tt
wide_from (x ∷ ws) [] h w = absurd (true≢false (sym h))
wide_from (x ∷ ws) (v ∷ vs) h w = (subst (λ n. 1 ≤ n) (sym (eqb-true x v (and_first (x == v) _ h))) w.0, wide_from ws vs (and_second _ (same_widths ws vs) h) w.1)

object_few : (kind : Kind) (o : ObjectDecl) → is_good_object kind o ≡ true → HasFew o
object_few Int o h =
    let three = and_first _ _ (and_first _ _ (and_first _ _ h)) in
    let same = and_second _ (same_widths o.values (slice_index o.values 0 ∷ [])) (and_first _ _ three) in
    let one = same_length o.values (slice_index o.values 0 ∷ []) same in
    record {
      few = omega arith;
      wide = wide_from o.values (slice_index o.values 0 ∷ []) same (leb-true 1 (slice_index o.values 0) (and_first _ _ (and_second _ (is_width (slice_index o.values 0)) three)), tt);
    }
object_few _ o h = of_widths o (and_second _ (are_widths o.values) (and_first _ _ (and_first _ _ (and_first _ _ h))))

abbrev or_else : {X : Type 0} → X → Option X → X
or_else d None = d
or_else d (Some x) = x

objects_few : (names : List (List ℕ)) (os : List ObjectDecl) (n : ℕ) (o : ObjectDecl) → are_good_objects names os ≡ true → slice_get os n ≡ Some o → HasFew o
objects_few names [] n o h got = cc
objects_few names (x ∷ xs) zero o h got = subst HasFew (ap (or_else o) got) (object_few x.kind x (and_first (is_good_object x.kind x) _ (and_first _ _ h)))
objects_few names (x ∷ xs) (suc n) o h got = objects_few (x.name ∷ names) xs n o (and_second _ (are_good_objects (x.name ∷ names) xs) h) got

record BindsFew (ws into : List ℕ) : Type 0 where
  few : length into ≤ 8
  wide : Wide ws into

into_wide : (ws into vs : List ℕ) → same_widths (map (slice_index ws) into) vs ≡ true → AllWide vs → Wide ws into
into_wide ws [] vs h w = tt
into_wide ws (x ∷ into) [] h w = absurd (true≢false (sym h))
into_wide ws (x ∷ into) (v ∷ vs) h w =
    (subst (λ n. 1 ≤ n) (sym (eqb-true (slice_index ws x) v (and_first (slice_index ws x == v) _ h))) w.0, into_wide ws into vs (and_second _ (same_widths (map (slice_index ws) into) vs) h) w.1)

length_map : (f : ℕ → ℕ) (xs : List ℕ) → length (map f xs) ≡ length xs
length_map f [] = refl
length_map f (x ∷ xs) = ap suc (length_map f xs)

binds_few : (m : Tree) (n : ℕ) (ws into : List ℕ) → are_good_objects [] m.objects ≡ true → fits_values (slice_get m.objects n) (map (slice_index ws) into) ≡ true → BindsFew ws into
binds_few m n ws into good fits = by_option (slice_get m.objects n) refl fits
  where
    by_option : (found : Option ObjectDecl) → slice_get m.objects n ≡ found → fits_values found (map (slice_index ws) into) ≡ true → BindsFew ws into
    by_option None is h = absurd (true≢false (sym h))
    by_option (Some o) is h =
        let has = objects_few [] m.objects n o good is in
        let same = same_length (map (slice_index ws) into) o.values h in
        let count = length_map (slice_index ws) into in
        record { few = omega (arith, has.few, same, count); wide = into_wide ws into o.values h has.wide }

one_wide : (ws : List ℕ) (x : ℕ) → (slice_index ws x == 1) ≡ true → 1 ≤ slice_index ws x
one_wide ws x h = let e = eqb-true (slice_index ws x) 1 h in omega arith

-- what a statement declares has bits
pub binds_wide : (m : Tree) (scope : List ℕ) (next : ℕ) (s : StmtTree) → are_good_objects [] m.objects ≡ true → Wide (local_widths m) scope → is_good_stmt m scope next s ≡ true → Wide (local_widths m) (binds s)
binds_wide m scope next (let_local x value) good w h =
    let two = and_first _ _ (and_first _ _ h) in
    (subst (λ n. 1 ≤ n) (sym (eqb-true (slice_index (local_widths m) x) (width_of (local_widths m) value) (and_second _ _ two))) (expr_wide (local_widths m) scope value w (and_first _ _ two)), tt)
binds_wide m scope next (look found into object keys) good w h =
    let three = and_first _ _ (and_first _ _ h) in
    (one_wide (local_widths m) found (and_second _ _ three), (binds_few m object (local_widths m) into good (and_second _ _ (and_first _ _ three))).wide)
binds_wide m scope next (put ok object keys values) good w h = (one_wide (local_widths m) ok (and_second _ _ (and_first _ _ (and_first _ _ h))), tt)
binds_wide m scope next (del was object keys) good w h = (one_wide (local_widths m) was (and_second _ _ (and_first _ _ (and_first _ _ h))), tt)
binds_wide m scope next _ good w h = tt

mutual
  stmt_sized : (m : Tree) (scope : List ℕ) (next : ℕ) (s : StmtTree) → are_good_objects [] m.objects ≡ true → Wide (local_widths m) scope → is_good_stmt m scope next s ≡ true → IsSizedStmt (local_widths m) s
  stmt_sized m scope next (let_local x value) good w h = expr_sized (local_widths m) scope value w (and_first _ _ (and_first _ _ (and_first _ _ h)))
  stmt_sized m scope next (assign x value) good w h = expr_sized (local_widths m) scope value w (and_first _ _ (and_first _ _ h))
  stmt_sized m scope next (set_field f value) good w h = expr_sized (local_widths m) scope value w (and_first _ _ (and_first _ _ h))
  stmt_sized m scope next (look found into object keys) good w h =
      let three = and_first _ _ (and_first _ _ h) in
      (exprs_sized (local_widths m) scope keys w (and_first _ _ (and_first _ _ (and_first _ _ three))), (binds_few m object (local_widths m) into good (and_second _ _ (and_first _ _ three))).few)
  stmt_sized m scope next (put ok object keys values) good w h =
      let two = and_first _ _ (and_first _ _ (and_first _ _ (and_first _ _ (and_first _ _ (and_first _ _ h))))) in
      (exprs_sized (local_widths m) scope keys w (and_first _ _ two), exprs_sized (local_widths m) scope values w (and_second _ _ two))
  stmt_sized m scope next (del was object keys) good w h =
      let three = and_first _ _ (and_first _ _ (and_first _ _ h)) in
      exprs_sized (local_widths m) scope keys w (and_first _ _ (and_first _ _ three))
  stmt_sized m scope next (choose cond first second) good w h =
      let three = and_first _ _ h in
      (expr_sized (local_widths m) scope cond w (and_first _ _ (and_first _ _ three)), body_sized m scope next first good w (and_second _ _ three), body_sized m scope (next + declared_by first) second good w (and_second _ _ h))
  stmt_sized m scope next (repeat index count body) good w h =
      let four = and_first _ _ (and_first _ _ (and_first _ _ h)) in
      let e = eqb-true (slice_index (local_widths m) index) 32 (and_second _ _ four) in
      body_sized m (index ∷ scope) (next + 1) body good (omega (arith, e), w) (and_second _ _ h)
  stmt_sized m scope next (send port) good w h = expr_sized (local_widths m) scope port w (and_first _ _ h)
  stmt_sized m scope next drop good w h = tt

  body_sized : (m : Tree) (scope : List ℕ) (next : ℕ) (b : BodyTree) → are_good_objects [] m.objects ≡ true → Wide (local_widths m) scope → is_good_body m scope next b ≡ true → IsSizedBody (local_widths m) b
  body_sized m scope next done good w h = tt
  body_sized m scope next (stmt s b) good w h =
      let first = and_first _ _ (and_first _ _ h) in
      (stmt_sized m scope next s good w first, body_sized m (binds s ++ scope) (next + declared_in s) b good (wide_both (local_widths m) (binds s) scope (binds_wide m scope next s good w first) w) (and_second _ _ h))

-- the whole middlebox
pub good_sized : (m : Tree) → is_good m ≡ true → IsSizedBody (local_widths m) m.body
good_sized m h = body_sized m [] 0 m.body (and_first _ _ (and_first _ _ h)) tt (and_second _ _ h)
