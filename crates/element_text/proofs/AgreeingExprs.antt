-- An expression has numbers exactly where the tests find nothing wrong in it, and then has the width that they say.
use Rattle.std.proofs.Common.{◌≡◌, ℕ, ◌^◌, Bool, true, false, not, ◌&&◌, ◌||◌, List, [], ◌∷◌, map, nat_le, nat_lt, ◌==◌, if◌then◌else◌, Some, is_none, option_map, refl, sym, ap, subst, ◌∙◌, arith}
use Rattle.std.specs.List.{list_all}
use Rattle.std.specs.Str.{bytes_eq}
use Rattle.std.proofs.lemmas.Bool.{eqb-true, eq-eqb, and_parts, false≢true}
use Rattle.std.proofs.lemmas.Option.{IfSome_then}
use Rattle.gal_bits.specs.declared.op.Op.{Op}
use Rattle.gal_bits.specs.declared.op.Op.TheVariants.{Add, Sub, Mul, Div, Rem, And, Or, Xor, Not, Shl, Shr, Cast, Select, Adjust}
use Rattle.packet_fields.specs.Table.{row}
use Rattle.element_lang.specs.declared.tree.Local.{Local}
use Rattle.element_lang.specs.Tree as trees
use Rattle.element_lang.specs.Rules.{is_width, is_shift, fits_operator}
use Rattle.element_lang.specs.Surface.{SurfaceExpr, SurfaceExprs, lit, name, field, byte, shift, apply, no_expr, expr, written_width}
use Rattle.element_lang.specs.Broken.{local_named, width_of_local, width_in, widths_in, in_expr, in_exprs, is_bad_width, is_too_large, is_unknown, is_misfit, is_far_shift}
use Rattle.element_lang.specs.Broken as broken
use Rattle.element_text.specs.Resolve.{Known, local_in, Typed, TypedList, accepted_width, typed_apply, typed_local, typed_expr, typed_exprs}
use Rattle.element_text.proofs.Operators.{result_fits, fitting_result, result_wide}
use Rattle.element_text.proofs.CompleteExprs.{field_wide}
use Rattle.element_text.proofs.Agreement.{Agrees, agrees_some, agrees_none, agrees_to, agrees_bound, agrees_when, agrees_map, agrees_from}
use Rattle.gal_bits.specs.Fits.{same_list}

-- ## What may be wrong in an expression

-- A shift by an operator that shifts nothing, or a width that is written with another operator than a cast: no source spells one.
abbrev pub is_odd : SurfaceExpr → Bool
is_odd (shift op by arg) = not (is_shift op)
is_odd (apply op written args) = not (written == written_width op written)
is_odd _ = false

-- any of the tests
abbrev pub is_wrong : List Local → SurfaceExpr → Bool
is_wrong locals e = is_far_shift e || (is_misfit locals e || (is_unknown locals e || (is_too_large e || (is_bad_width e || is_odd e))))

-- a width, which is one of a value
pub record HasWidth (w : ℕ) (t : Typed) : Type 0 where
  pub width : t.width ≡ w
  pub wide : is_width w ≡ true

pub record HaveWidths (ws : List ℕ) (ts : TypedList) : Type 0 where
  pub widths : ts.widths ≡ ws
  pub wide : list_all is_width ws ≡ true

-- ## Locals in scope

abbrev pub is_wide : Local → Bool
is_wide l = is_width l.width

abbrev pub decls : List Known → List Local
decls = map (λ k. k.decl)

-- these are in scope, and each has a width of a value
pub record InScope (locals : List Local) (scope : List Known) : Type 0 where
  pub same : decls scope ≡ locals
  pub wide : list_all is_wide locals ≡ true

-- what is known of the local of a name
abbrev Looked : List Local → List Known → List ℕ → Type 0
Looked locals scope word = Agrees (local_in scope word) (not (is_none (local_named locals word)))
    (λ k. HasWidth (width_of_local (local_named locals word)) (typed_local k))

looked : (scope : List Known) (word : List ℕ) → list_all is_wide (decls scope) ≡ true → Looked (decls scope) scope word
looked [] word e = agrees_none (λ k. HasWidth 0 (typed_local k))
looked (k ∷ ks) word e =
    let p = and_parts _ _ e in
    by_test (bytes_eq word k.decl.name) p.0 (looked ks word p.1)
  where
    by_test : (b : Bool) → is_width k.decl.width ≡ true → Looked (decls ks) ks word
        → Agrees (if b then Some k else local_in ks word) (not (is_none (if b then Some k.decl else local_named (decls ks) word)))
        (λ j. HasWidth (width_of_local (if b then Some k.decl else local_named (decls ks) word)) (typed_local j))
    by_test true wide h = agrees_some k (λ j. HasWidth k.decl.width (typed_local j)) (record { width = refl; wide = wide })
    by_test false wide h = h

pub local_agrees : (locals : List Local) (scope : List Known) (word : List ℕ) → InScope locals scope → Looked locals scope word
local_agrees locals scope word h =
    let e : list_all is_wide (decls scope) ≡ true = ap (list_all is_wide) h.same ∙ h.wide in
    subst (λ ls. Looked ls scope word) h.same (looked scope word e)

-- ## Operators

-- the width that is written with an operator is what is written back
written_back : (op : Op) (written : ℕ) (ws : List ℕ) → (written == written_width op written) ≡ true
    → written_width op (broken.result_width op written ws) ≡ written
written_back Cast written ws e = refl
written_back _ written ws e = sym (eqb-true written 0 e)

none_odd : (op : Op) (v written : ℕ) → written_width op v ≡ written → (written == written_width op written) ≡ true
none_odd Cast v written e = eq-eqb written written refl
none_odd _ v written e = eq-eqb written 0 (sym e)

-- a cast's width is one
none_bad : (op : Op) (v written : ℕ) (ws : List ℕ) (args : SurfaceExprs) → fits_operator op v ws ≡ true → written_width op v ≡ written
    → is_bad_width (apply op written args) ≡ false
none_bad Cast v written ws args e back = ap (λ w. not (is_width w)) (sym back) ∙ ap not (and_parts _ _ e).0
none_bad _ v written ws args e back = refl

number_is : (v n : ℕ) (b : Bool) → (v == n && b) ≡ true → v ≡ n
number_is v n b e = eqb-true v n (and_parts _ _ e).0

-- the width of a result that fits
result_is : (op : Op) (v written : ℕ) (ws : List ℕ) → fits_operator op v ws ≡ true → written_width op v ≡ written → v ≡ broken.result_width op written ws
result_is Add v written ws e back = rw (same_list ws (v ∷ v ∷ []) e)
result_is Sub v written ws e back = rw (same_list ws (v ∷ v ∷ []) e)
result_is Mul v written ws e back = rw (same_list ws (v ∷ v ∷ []) e)
result_is Div v written ws e back = rw (same_list ws (v ∷ v ∷ []) e)
result_is Rem v written ws e back = rw (same_list ws (v ∷ v ∷ []) e)
result_is And v written ws e back = rw (same_list ws (v ∷ v ∷ []) e)
result_is Or v written ws e back = rw (same_list ws (v ∷ v ∷ []) e)
result_is Xor v written ws e back = rw (same_list ws (v ∷ v ∷ []) e)
result_is Not v written ws e back = rw (same_list ws (v ∷ []) e)
result_is Shl v written ws e back = absurd (false≢true e)
result_is Shr v written ws e back = absurd (false≢true e)
result_is Cast v written ws e back = back
result_is Select v written ws e back = rw (same_list ws (1 ∷ v ∷ v ∷ []) e)
result_is Adjust v written ws e back = number_is v 16 _ e
result_is _ v written ws e back = number_is v 1 _ e

-- the tests of an operator
operator_parts : (f b o : Bool) → not (not f || (b || not o)) ≡ true → (f ≡ true) × (o ≡ true)
operator_parts true true o e = absurd (false≢true e)
operator_parts true false true e = (refl, refl)
operator_parts true false false e = absurd (false≢true e)
operator_parts false b o e = absurd (false≢true e)

operator_tests : (f b o : Bool) → f ≡ true → b ≡ false → o ≡ true → not (not f || (b || not o)) ≡ true
operator_tests f b o e g h = grind arith

-- what is known of the width of a result
record IsResult (w v : ℕ) : Type 0 where
  same : v ≡ w
  wide : is_width w ≡ true

operator_agrees : (op : Op) (written : ℕ) (ws : List ℕ) (args : SurfaceExprs) → list_all is_width ws ≡ true
    → Agrees (accepted_width op written ws)
    (not (not (fits_operator op (broken.result_width op written ws) ws) || (is_bad_width (apply op written args) || is_odd (apply op written args))))
    (IsResult (broken.result_width op written ws))
operator_agrees op written ws args wide =
    let w = broken.result_width op written ws in
    let fits = fits_operator op w ws in
    let bad = is_bad_width (apply op written args) in
    let own = written == written_width op written in
    let test = not (not fits || (bad || not own)) in
    agrees_from (accepted_width op written ws) test w (IsResult w)
    (λ e.
    let parts = operator_parts fits bad own e in
    ap (λ n. accepted_width op n ws) (sym (written_back op written ws parts.1)) ∙ fitting_result op w ws parts.0)
    (IfSome_then (accepted_width op written ws) {Q = λ v. (test ≡ true) × IsResult w v} (result_fits op written ws) (λ v p.
    let is : v ≡ w = result_is op v written ws p.0 p.1 in
    let good : fits ≡ true = ap (λ x. fits_operator op x ws) (sym is) ∙ p.0 in
    let tests = operator_tests fits bad own good (none_bad op v written ws args p.0 p.1) (none_odd op v written p.1) in
    (tests, record { same = is; wide = result_wide op w ws good wide })))

apply_agrees : (op : Op) (written : ℕ) (locals : List Local) (args : SurfaceExprs) (ts : TypedList) → HaveWidths (widths_in locals args) ts
    → Agrees (typed_apply op written ts) (not (is_wrong locals (apply op written args))) (HasWidth (width_in locals (apply op written args)))
apply_agrees op written locals args ts h =
    let Q = HasWidth (width_in locals (apply op written args)) in
    let made : ℕ → Typed = λ w. record { tree = trees.apply op w ts.trees; width = w } in
    subst (λ vs. Agrees (option_map made (accepted_width op written vs)) (not (is_wrong locals (apply op written args))) Q) (sym h.widths)
    (agrees_map made Q (operator_agrees op written (widths_in locals args) args h.wide) (λ w r. record { width = r.same; wide = r.wide }))

-- ## Expressions

literal_tests : (a b : Bool) → ((a && b) && true) ≡ not (not b || (not a || false))
literal_tests a b = grind arith

name_tests : (a : Bool) → not a ≡ not (a || false)
name_tests a = grind arith

byte_tests : (i w : Bool) → (not i && (w && true)) ≡ not ((not w || false) || i)
byte_tests i w = grind arith

shift_tests : (i s n : Bool) → (not i && ((s && n) && true)) ≡ not ((not n || not s) || i)
shift_tests i s n = grind arith

apply_tests : (i w : Bool) → (not i && not w) ≡ not (w || i)
apply_tests i w = grind arith

list_tests : (a b : Bool) → (not a && (not b && true)) ≡ not (a || b)
list_tests a b = grind arith

-- an expression of this width
typed : (t : Typed) (w : ℕ) → t.width ≡ w → is_width w ≡ true → Agrees (Some t) true (HasWidth w)
typed t w e f = agrees_some t (HasWidth w) (record { width = e; wide = f })

mutual
  pub expr_agrees : (locals : List Local) (scope : List Known) → InScope locals scope → (e : SurfaceExpr)
      → Agrees (typed_expr scope e) (not (in_expr (is_wrong locals) e)) (HasWidth (width_in locals e))
  expr_agrees locals scope h (lit value width) =
      let a = is_width width in
      let b = nat_lt value (2 ^ width) in
      agrees_to (literal_tests a b) (agrees_when (a && b) (λ e. typed (record { tree = trees.lit value width; width = width }) width refl (and_parts _ _ e).0))
  expr_agrees locals scope h (name word) =
      let w = width_of_local (local_named locals word) in
      agrees_to (name_tests (is_none (local_named locals word))) (agrees_map typed_local (HasWidth w) (local_agrees locals scope word h) (λ k f. f))
  expr_agrees locals scope h (field f) = typed (record { tree = trees.field f; width = (row f).width }) (row f).width refl (field_wide f)
  expr_agrees locals scope h (byte index) =
      let w = width_in locals index in
      agrees_to (byte_tests (in_expr (is_wrong locals) index) (w == 16)) (agrees_bound (expr_agrees locals scope h index) (λ t f.
      agrees_to (ap (λ v. (v == 16) && true) f.width) (agrees_when (t.width == 16) (λ e. typed (record { tree = trees.byte t.tree; width = 8 }) 8 refl refl))))
  expr_agrees locals scope h (shift op by arg) =
      let w = width_in locals arg in
      agrees_to (shift_tests (in_expr (is_wrong locals) arg) (is_shift op) (nat_le by 63)) (agrees_bound (expr_agrees locals scope h arg) (λ t f.
      agrees_when (is_shift op && nat_le by 63) (λ e. typed (record { tree = trees.shift op by t.tree; width = t.width }) w f.width f.wide)))
  expr_agrees locals scope h (apply op written args) =
      agrees_to (apply_tests (in_exprs (is_wrong locals) args) (is_wrong locals (apply op written args)))
      (agrees_bound (exprs_agree locals scope h args) (λ ts f. apply_agrees op written locals args ts f))

  pub exprs_agree : (locals : List Local) (scope : List Known) → InScope locals scope → (es : SurfaceExprs)
      → Agrees (typed_exprs scope es) (not (in_exprs (is_wrong locals) es)) (HaveWidths (widths_in locals es))
  exprs_agree locals scope h no_expr = agrees_some (record { trees = trees.no_expr; widths = [] }) (HaveWidths []) (record { widths = refl; wide = refl })
  exprs_agree locals scope h (expr e es) =
      let both : Typed → TypedList → TypedList = λ t ts. record { trees = trees.expr t.tree ts.trees; widths = t.width ∷ ts.widths } in
      agrees_to (list_tests (in_expr (is_wrong locals) e) (in_exprs (is_wrong locals) es))
      (agrees_bound (expr_agrees locals scope h e) (λ t f. agrees_bound (exprs_agree locals scope h es) (λ ts g.
      agrees_some (both t ts) (HaveWidths (width_in locals e ∷ widths_in locals es)) (record { widths = rw (f.width, g.widths); wide = rw (f.wide, g.wide) }))))
