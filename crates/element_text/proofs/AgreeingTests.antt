-- The tests of a statement, those of its expressions first.
use Rattle.std.proofs.Common.{◌≡◌, ℕ, Bool, true, false, not, ◌&&◌, ◌||◌, List, [], ◌∷◌, ◌++◌, is_none, refl, sym, ap, ap₂, ◌∙◌, arith}
use Rattle.element_lang.specs.declared.tree.Local.{Local}
use Rattle.element_lang.specs.Surface.{SurfaceExpr, SurfaceExprs, SurfaceStmt, byte, shift, apply, no_expr, expr}
use Rattle.element_lang.specs.Broken.{Sight, in_expr, in_exprs, is_bad_width, is_too_large, is_unknown, is_misfit, is_far_shift, appended, own_exprs, declares, are_free, uses_unknown, takes_misfit, writes_fixed, misfits_object, changes_fixed, repeats_badly, repeats_an_end, stmt_tests, lowest_broken}
use Rattle.element_text.proofs.Agreement.{all_of, pulled, one_fails}
use Rattle.element_text.proofs.AgreeingExprs.{is_odd, is_wrong}

-- no rule is broken
abbrev pub none_of : List (ℕ × Bool) → Bool
none_of [] = true
none_of ((rule, b) ∷ tests) = not b && none_of tests

pub none_lowest : (at : ℕ) (tests : List (ℕ × Bool)) → is_none (lowest_broken at tests) ≡ none_of tests
none_lowest at [] = refl
none_lowest at ((rule, true) ∷ tests) = refl
none_lowest at ((rule, false) ∷ tests) = none_lowest at tests

-- ## Several tests of expressions at once

either : (a b c d : Bool) → ((a || b) || (c || d)) ≡ ((a || c) || (b || d))
either a b c d = grind arith

mutual
  in_either : (p q : SurfaceExpr → Bool) (e : SurfaceExpr) → in_expr (λ x. p x || q x) e ≡ (in_expr p e || in_expr q e)
  in_either p q (byte index) = ap (λ b. (p (byte index) || q (byte index)) || b) (in_either p q index)
      ∙ either (p (byte index)) (q (byte index)) (in_expr p index) (in_expr q index)
  in_either p q (shift op by arg) =
      ap (λ b. (p (shift op by arg) || q (shift op by arg)) || b) (in_either p q arg)
      ∙ either (p (shift op by arg)) (q (shift op by arg)) (in_expr p arg) (in_expr q arg)
  in_either p q (apply op written args) =
      ap (λ b. (p (apply op written args) || q (apply op written args)) || b) (in_eithers p q args)
      ∙ either (p (apply op written args)) (q (apply op written args)) (in_exprs p args) (in_exprs q args)
  in_either p q _ = refl

  in_eithers : (p q : SurfaceExpr → Bool) (es : SurfaceExprs) → in_exprs (λ x. p x || q x) es ≡ (in_exprs p es || in_exprs q es)
  in_eithers p q no_expr = refl
  in_eithers p q (expr e es) = ap₂ (λ a b. a || b) (in_either p q e) (in_eithers p q es) ∙ either (in_expr p e) (in_expr q e) (in_exprs p es) (in_exprs q es)

-- what is wrong in several expressions
wrong_parts : (locals : List Local) (es : SurfaceExprs)
    → in_exprs (is_wrong locals) es ≡ (in_exprs is_far_shift es
    || (in_exprs (is_misfit locals) es || (in_exprs (is_unknown locals) es || (in_exprs is_too_large es || (in_exprs is_bad_width es || in_exprs is_odd es)))))
wrong_parts locals es =
    let last : SurfaceExpr → Bool = λ x. is_bad_width x || is_odd x in
    let fourth : SurfaceExpr → Bool = λ x. is_too_large x || last x in
    let third : SurfaceExpr → Bool = λ x. is_unknown locals x || fourth x in
    let second : SurfaceExpr → Bool = λ x. is_misfit locals x || third x in
    in_eithers is_far_shift second es
    ∙ ap (λ b. in_exprs is_far_shift es || b) (in_eithers (is_misfit locals) third es
    ∙ ap (λ b. in_exprs (is_misfit locals) es || b) (in_eithers (is_unknown locals) fourth es
    ∙ ap (λ b. in_exprs (is_unknown locals) es || b) (in_eithers is_too_large last es
    ∙ ap (λ b. in_exprs is_too_large es || b) (in_eithers is_bad_width is_odd es))))

-- in those of two lists
pub in_joined : (p : SurfaceExpr → Bool) (es more : SurfaceExprs) → in_exprs p (appended es more) ≡ (in_exprs p es || in_exprs p more)
in_joined p no_expr more = refl
in_joined p (expr e es) more = ap (λ b. in_expr p e || b) (in_joined p es more) ∙ grouped (in_expr p e) (in_exprs p es) (in_exprs p more)
  where
    grouped : (a b c : Bool) → (a || (b || c)) ≡ ((a || b) || c)
    grouped true b c = refl
    grouped false b c = refl

-- ## All tests of a statement

-- in the order of the rules, and without those that aren't made where a name isn't known
in_order : (b l f u v m n w o c h r e : Bool)
    → none_of ((2, b) ∷ (4, l) ∷ (7, not f) ∷ (8, u || v) ∷ (9, not (u || v) && (m || n)) ∷ (10, w) ∷ (11, not (u || v) && o) ∷ (12, not (u || v) && c)
    ∷ (13, h || r) ∷ (14, e) ∷ [])
    ≡ all_of (not b ∷ not l ∷ f ∷ not u ∷ not v ∷ not m ∷ not n ∷ not w ∷ not o ∷ not c ∷ not h ∷ not r ∷ not e ∷ [])
in_order b l f u v m n w o c h r e = grind arith

-- those of the expressions in front
expressions_first : (b l f u v m n w o c h r e : Bool)
    → all_of (b ∷ l ∷ f ∷ u ∷ v ∷ m ∷ n ∷ w ∷ o ∷ c ∷ h ∷ r ∷ e ∷ []) ≡ (h && (m && (u && (l && (b && all_of (v ∷ n ∷ w ∷ o ∷ c ∷ r ∷ e ∷ f ∷ []))))))
expressions_first b l f u v m n w o c h r e =
    pulled (b ∷ l ∷ f ∷ u ∷ v ∷ m ∷ n ∷ w ∷ o ∷ c ∷ []) h (r ∷ e ∷ [])
    ∙ ap (λ t. h && t) (pulled (b ∷ l ∷ f ∷ u ∷ v ∷ []) m (n ∷ w ∷ o ∷ c ∷ r ∷ e ∷ [])
    ∙ ap (λ t. m && t) (pulled (b ∷ l ∷ f ∷ []) u (v ∷ n ∷ w ∷ o ∷ c ∷ r ∷ e ∷ [])
    ∙ ap (λ t. u && t) (pulled (b ∷ []) l (f ∷ v ∷ n ∷ w ∷ o ∷ c ∷ r ∷ e ∷ [])
    ∙ ap (λ t. l && (b && t)) (sym (pulled (v ∷ n ∷ w ∷ o ∷ c ∷ r ∷ e ∷ []) f [])))))

together : (h m u l b o x : Bool) → ((not h && (not m && (not u && (not l && (not b && x))))) && not o) ≡ (not (h || (m || (u || (l || (b || o))))) && x)
together h m u l b o x = grind arith

-- the tests of what isn't an expression
abbrev pub own_tests : Sight → SurfaceStmt → List Bool
own_tests sight s =
    not (uses_unknown sight s) ∷ not (takes_misfit sight s) ∷ not (writes_fixed s) ∷ not (misfits_object sight s) ∷ not (changes_fixed sight s)
    ∷ not (repeats_badly sight s) ∷ not (sight.ended || repeats_an_end s) ∷ are_free sight.objects sight.locals (declares sight s) ∷ []

-- all in the order of the rules, but the last two
abbrev early_tests : Sight → SurfaceStmt → List Bool
early_tests sight s =
    not (in_exprs is_bad_width (own_exprs s)) ∷ not (in_exprs is_too_large (own_exprs s)) ∷ are_free sight.objects sight.locals (declares sight s)
    ∷ not (in_exprs (is_unknown sight.locals) (own_exprs s)) ∷ not (uses_unknown sight s) ∷ not (in_exprs (is_misfit sight.locals) (own_exprs s))
    ∷ not (takes_misfit sight s)
    ∷ not (writes_fixed s) ∷ not (misfits_object sight s) ∷ not (changes_fixed sight s) ∷ not (in_exprs is_far_shift (own_exprs s)) ∷ []

tests_in_order : (sight : Sight) (s : SurfaceStmt)
    → none_of (stmt_tests sight s) ≡ all_of (early_tests sight s ++ not (repeats_badly sight s) ∷ not (sight.ended || repeats_an_end s) ∷ [])
tests_in_order sight s =
    in_order (in_exprs is_bad_width (own_exprs s)) (in_exprs is_too_large (own_exprs s)) (are_free sight.objects sight.locals (declares sight s))
    (in_exprs (is_unknown sight.locals) (own_exprs s)) (uses_unknown sight s) (in_exprs (is_misfit sight.locals) (own_exprs s)) (takes_misfit sight s)
    (writes_fixed s) (misfits_object sight s) (changes_fixed sight s) (in_exprs is_far_shift (own_exprs s)) (repeats_badly sight s)
    (sight.ended || repeats_an_end s)

-- no test fails, and no expression is odd, exactly where nothing is wrong in the expressions and all other tests hold
pub tests_apart : (sight : Sight) (s : SurfaceStmt)
    → (none_of (stmt_tests sight s) && not (in_exprs is_odd (own_exprs s))) ≡
    (not (in_exprs (is_wrong sight.locals) (own_exprs s)) && all_of (own_tests sight s))
tests_apart sight s =
    let es = own_exprs s in
    let bad = in_exprs is_bad_width es in
    let large = in_exprs is_too_large es in
    let unknown = in_exprs (is_unknown sight.locals) es in
    let misfit = in_exprs (is_misfit sight.locals) es in
    let far = in_exprs is_far_shift es in
    let odd = in_exprs is_odd es in
    let own = all_of (own_tests sight s) in
    let first =
    tests_in_order sight s
    ∙ expressions_first (not bad) (not large) (are_free sight.objects sight.locals (declares sight s)) (not unknown) (not (uses_unknown sight s)) (not misfit)
    (not (takes_misfit sight s))
    (not (writes_fixed s)) (not (misfits_object sight s)) (not (changes_fixed sight s)) (not far) (not (repeats_badly sight s))
    (not (sight.ended || repeats_an_end s)) in
    ap (λ b. b && not odd) first
    ∙ together far misfit unknown large bad odd own
    ∙ ap (λ b. not b && own) (sym (wrong_parts sight.locals es))

-- behind a statement that always ends a rule is broken
pub ended_fails : (sight : Sight) (s : SurfaceStmt) → sight.ended ≡ true → none_of (stmt_tests sight s) ≡ false
ended_fails sight s ended =
    let front = early_tests sight s ++ not (repeats_badly sight s) ∷ [] in
    tests_in_order sight s ∙ ap (λ b. all_of (front ++ not (b || repeats_an_end s) ∷ [])) ended ∙ one_fails front []

-- and by a repeat that may not stand there
pub repeat_fails : (sight : Sight) (s : SurfaceStmt) → repeats_badly sight s ≡ true → none_of (stmt_tests sight s) ≡ false
repeat_fails sight s wrong =
    let last = not (sight.ended || repeats_an_end s) ∷ [] in
    tests_in_order sight s ∙ ap (λ b. all_of (early_tests sight s ++ not b ∷ last)) wrong ∙ one_fails (early_tests sight s) last
