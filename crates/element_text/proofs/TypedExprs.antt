-- How a list of expressions is resolved from front to back.
use Rattle.std.proofs.Common.{◌≡◌, ℕ, ◌+◌, ◌<◌, ◌≤◌, List, [], ◌∷◌, ◌++◌, length, drop, get_or, map, Option, Some, None, refl, sym, ap, ◌∙◌, append_assoc}
use Rattle.std.proofs.lemmas.List.{at_drop_all, map-append, append-nil}
use Rattle.element_lang.specs.declared.tree.Expr.{Expr}
use Rattle.element_lang.specs.Tree.{ExprTree, Exprs}
use Rattle.element_lang.specs.Tree.Exprs.{no_expr, expr}
use Rattle.element_lang.specs.View.{exprs_of, expr_tree, expr_trees}
use Rattle.element_lang.specs.Surface as surface
use Rattle.element_grammar.specs.declared.surface.SurfaceExpr.{SurfaceExpr}
use Rattle.element_text.specs.declared.expressions.TypedExpr.{TypedExpr}
use Rattle.element_grammar.specs.Surface.{surface_expr, surface_exprs}
use Rattle.element_text.specs.Resolve.{◌>>=◌, Known, Typed, TypedList, typed_expr, typed_exprs}
use Rattle.element_text.specs.Typed.{typed_of}
use Rattle.lemmas.proofs.Lists.{folded_item}

-- expressions in front of others
abbrev pub exprs_onto : List ExprTree → Exprs → Exprs
exprs_onto [] r = r
exprs_onto (t ∷ ts) r = expr t (exprs_onto ts r)

exprs_onto_more : (ts : List ExprTree) (t : ExprTree) (r : Exprs) → exprs_onto (ts ++ t ∷ []) r ≡ exprs_onto ts (expr t r)
exprs_onto_more [] t r = refl
exprs_onto_more (u ∷ ts) t r = ap (expr u) (exprs_onto_more ts t r)

exprs_onto_none : (ts : List ExprTree) → exprs_onto ts no_expr ≡ exprs_of ts
exprs_onto_none [] = refl
exprs_onto_none (u ∷ ts) = ap (expr u) (exprs_onto_none ts)

-- these expressions and their widths, and behind them others, if there are any
abbrev pub in_front : List ExprTree → List ℕ → Option TypedList → Option TypedList
in_front ts ws None = None
in_front ts ws (Some r) = Some (record { trees = exprs_onto ts r.trees; widths = ws ++ r.widths })

-- one expression in front of others
abbrev pub join : Typed → Option TypedList → Option TypedList
join t o = o >>= (λ rest. Some (record { trees = expr t.tree rest.trees; widths = t.width ∷ rest.widths }))

in_front_more : (ts : List ExprTree) (ws : List ℕ) (t : Typed) (o : Option TypedList) → in_front (ts ++ t.tree ∷ []) (ws ++ t.width ∷ []) o ≡ in_front ts ws (join t o)
in_front_more ts ws t None = refl
in_front_more ts ws t (Some r) = rw (exprs_onto_more ts t.tree r.trees, append_assoc ws (t.width ∷ []) r.widths)

-- the expressions that were made, and those that are left, are all
pub record Typing (text : List ℕ) (scope : List Known) (made : List Expr) (widths : List ℕ) (left all : List SurfaceExpr) : Type 0 where
  pub told : in_front (map expr_tree made) widths (typed_exprs scope (surface_exprs text left)) ≡ typed_exprs scope (surface_exprs text all)

-- the next expression
first_typed : (scope : List Known) (e : surface.SurfaceExpr) (es : surface.SurfaceExprs) (t : Typed) → typed_expr scope e ≡ Some t → typed_exprs scope (surface.expr e es) ≡ join t (typed_exprs scope es)
first_typed scope e es t h = ap (λ o. o >>= (λ first. join first (typed_exprs scope es))) h

-- one more expression
pub typing_more : {text : List ℕ} {scope : List Known} {made new : List Expr} {widths more : List ℕ} {all : List SurfaceExpr} (at : ℕ) (e : SurfaceExpr) (t : TypedExpr) → at < length all → e ≡ get_or all at e → Typing text scope made widths (drop at all) all → typed_expr scope (surface_expr text e) ≡ Some (typed_of t) → new ≡ made ++ t.expr ∷ [] → more ≡ widths ++ t.width ∷ [] → Typing text scope new more (drop (at + 1) all) all
typing_more {text = text} {scope = scope} {made = made} {new = new} {widths = widths} {more = more} {all = all} at e t within is h typed pushed widened =
    let rest = typed_exprs scope (surface_exprs text (drop (at + 1) all)) in
    let trees : map expr_tree new ≡ map expr_tree made ++ expr_tree t.expr ∷ [] = ap (map expr_tree) pushed ∙ map-append expr_tree made (t.expr ∷ []) in
    let split = folded_item (λ l. in_front (map expr_tree made) widths (typed_exprs scope (surface_exprs text l))) all at e within is in
    let first = first_typed scope (surface_expr text e) (surface_exprs text (drop (at + 1) all)) (typed_of t) typed in
    record {
      told = ap (λ l. in_front l more rest) trees ∙ ap (λ l. in_front (map expr_tree made ++ expr_tree t.expr ∷ []) l rest) widened
          ∙ in_front_more (map expr_tree made) widths (typed_of t) rest ∙ ap (in_front (map expr_tree made) widths) (sym first) ∙ sym split ∙ h.told;
    }

-- no expression is left
pub typing_end : {text : List ℕ} {scope : List Known} {made : List Expr} {widths : List ℕ} {all : List SurfaceExpr} (at : ℕ) → length all ≤ at → Typing text scope made widths (drop at all) all → typed_exprs scope (surface_exprs text all) ≡ Some (record { trees = expr_trees made; widths = widths })
typing_end {text = text} {scope = scope} {made = made} {widths = widths} {all = all} at past h =
    let none = at_drop_all (λ l. in_front (map expr_tree made) widths (typed_exprs scope (surface_exprs text l))) all at past in
    let P : Exprs → List ℕ → Option TypedList = λ a b. Some (record { trees = a; widths = b }) in
    sym h.told ∙ none ∙ ap (λ a. P a (widths ++ [])) (exprs_onto_none (map expr_tree made)) ∙ ap (P (expr_trees made)) (append-nil widths)
