-- An expression with numbers keeps the rules, and with its names put back it is the one that it was made of.
use Rattle.std.proofs.Common.{◌≡◌, ℕ, ◌^◌, Bool, true, false, ◌&&◌, List, [], ◌∷◌, ◌++◌, nat_lt, nat_le, Option, Some, None, IfSome, slice_get, ◌==◌, refl, sym, ap, ◌∙◌}
use Rattle.std.specs.List.{list_any}
use Rattle.std.specs.Option.{option_or}
use Rattle.std.specs.Str.{bytes_eq}
use Rattle.std.proofs.lemmas.Bool.{eq-eqb, or_from, or_right, or_left}
use Rattle.std.proofs.lemmas.Option.{IfSome_then}
use Rattle.element_lang.specs.Tree as trees
use Rattle.element_lang.specs.Tree.{Tree}
use Rattle.element_lang.specs.Widths.{local_widths, width_of}
use Rattle.element_lang.specs.Rules.{is_width, is_shift, widths_of, is_good_expr, are_good_exprs}
use Rattle.element_lang.specs.Surface.{SurfaceExpr, SurfaceExprs, lit, name, field, byte, shift, apply, no_expr, expr, name_of_local, local_name, named_expr, named_exprs}
use Rattle.element_text.specs.Resolve.{Known, local_in, Typed, TypedList, accepted_width, typed_local, typed_expr, typed_exprs}
use Rattle.element_text.proofs.Optional.{Gives, gives, gives_bound, gives_when, gives_map}
use Rattle.element_text.proofs.NamesInScope.{local_in_pushed, alone, none_of_two, not_alone, width_at}
use Rattle.element_text.proofs.Operators.{Fitting, result_fits}

-- A local in scope has this name, stands in the middlebox under its number, and the number is among those in scope.
pub record IsFound (m : Tree) (numbers : List ℕ) (word : List ℕ) (k : Known) : Type 0 where
  pub named : k.decl.name ≡ word
  pub stands : slice_get m.locals k.number ≡ Some k.decl
  pub among : list_any (λ y. y == k.number) numbers ≡ true

-- The locals in scope have these numbers: what is found by a name is found, and a name that finds nothing is that of none.
pub record Fits (m : Tree) (numbers : List ℕ) (scope : List Known) : Type 0 where
  pub found : (word : List ℕ) → IfSome (local_in scope word) (IsFound m numbers word)
  pub free : (word : List ℕ) → local_in scope word ≡ None → list_any (λ y. bytes_eq word (local_name m y)) numbers ≡ false

pub fits_none : (m : Tree) → Fits m [] []
fits_none m = record { found = λ word. tt; free = λ word e. refl }

-- the order of the numbers does not matter
pub fits_moved : (m : Tree) (numbers others : List ℕ) (scope : List Known) → ((p : ℕ → Bool) → list_any p numbers ≡ list_any p others) → Fits m numbers scope
    → Fits m others scope
fits_moved m numbers others scope same h = record {
  found = λ word. IfSome_then (local_in scope word) {Q = IsFound m others word} (h.found word) (λ k f.
      record { named = f.named; stands = f.stands; among = sym (same (λ y. y == k.number)) ∙ f.among });
  free = λ word e. sym (same (λ y. bytes_eq word (local_name m y))) ∙ h.free word e;
}

-- one of two that are tried in turn
either : (o p : Option Known) (P : Known → Type 0) → IfSome o P → IfSome p P → IfSome (option_or o p) P
either None p P h k = k
either (Some x) p P h k = h

-- one more local
pub fits_pushed : (m : Tree) (numbers : List ℕ) (scope : List Known) (k : Known) → slice_get m.locals k.number ≡ Some k.decl → Fits m numbers scope
    → Fits m (k.number ∷ numbers) (scope ++ k ∷ [])
fits_pushed m numbers scope k stands h =
    let name_is : local_name m k.number ≡ k.decl.name = ap name_of_local stands in
    record {
      found = λ word.
          let Q = IsFound m (k.number ∷ numbers) word in
          rw local_in_pushed (either (local_in scope word) (local_in (k ∷ []) word) Q
          (IfSome_then (local_in scope word) {Q = Q} (h.found word) (λ j f. record { named = f.named; stands = f.stands; among = or_right _ _ f.among }))
          (IfSome_then (local_in (k ∷ []) word) {Q = Q} (alone k word) (λ j f. record {
            named = ap (λ i. i.decl.name) f.0 ∙ f.1;
            stands = ap (λ i. slice_get m.locals i.number) f.0 ∙ stands ∙ ap (λ i. Some i.decl) (sym f.0);
            among = or_left _ _ (eq-eqb k.number j.number (ap (λ i. i.number) (sym f.0)));
          })));
      free = λ word e.
          let parts = none_of_two _ _ (sym (local_in_pushed scope k word) ∙ e) in
          or_from _ _ (ap (bytes_eq word) name_is ∙ not_alone k word parts.1) (h.free word parts.0);
    }

-- ## Expressions

-- what is known of an expression that has a type
pub record IsTyped (m : Tree) (numbers : List ℕ) (e : SurfaceExpr) (t : Typed) : Type 0 where
  pub named : named_expr m t.tree ≡ e
  pub width : width_of (local_widths m) t.tree ≡ t.width
  pub good : is_good_expr (local_widths m) numbers t.tree ≡ true

pub record AreTyped (m : Tree) (numbers : List ℕ) (es : SurfaceExprs) (ts : TypedList) : Type 0 where
  pub named : named_exprs m ts.trees ≡ es
  pub widths : widths_of (local_widths m) ts.trees ≡ ts.widths
  pub good : are_good_exprs (local_widths m) numbers ts.trees ≡ true

typed : (m : Tree) (numbers : List ℕ) (e : SurfaceExpr) (t : Typed) → named_expr m t.tree ≡ e → width_of (local_widths m) t.tree ≡ t.width
    → is_good_expr (local_widths m) numbers t.tree ≡ true → Gives (Some t) (IsTyped m numbers e)
typed m numbers e t a b c = record { known = record { named = a; width = b; good = c } }

mutual
  pub expr_typed : (m : Tree) (numbers : List ℕ) (scope : List Known) → Fits m numbers scope → (e : SurfaceExpr)
      → Gives (typed_expr scope e) (IsTyped m numbers e)
  expr_typed m numbers scope f (lit value width) =
      gives_when (is_width width && nat_lt value (2 ^ width)) (λ e.
      typed m numbers (lit value width) (record { tree = trees.lit value width; width = width }) refl refl e)
  expr_typed m numbers scope f (name word) =
      gives_map typed_local (IsTyped m numbers (name word)) (gives (local_in scope word) (IsFound m numbers word) (f.found word)) (λ k h. record {
        named = ap (λ o. name (name_of_local o)) h.stands ∙ ap name h.named;
        width = width_at m.locals k.number k.decl h.stands;
        good = h.among;
      })
  expr_typed m numbers scope f (field g) = record { known = record { named = refl; width = refl; good = refl } }
  expr_typed m numbers scope f (byte index) =
      gives_bound (expr_typed m numbers scope f index) (λ t h. gives_when (t.width == 16) (λ e.
      typed m numbers (byte index) (record { tree = trees.byte t.tree; width = 8 }) (ap byte h.named) refl (rw (h.good, h.width, e))))
  expr_typed m numbers scope f (shift op by arg) =
      gives_bound (expr_typed m numbers scope f arg) (λ t h. gives_when (is_shift op && nat_le by 63) (λ e.
      typed m numbers (shift op by arg) (record { tree = trees.shift op by t.tree; width = t.width }) (ap (shift op by) h.named) h.width (rw (e, h.good))))
  expr_typed m numbers scope f (apply op written args) =
      gives_bound (exprs_typed m numbers scope f args) (λ ts h.
      let made : ℕ → Typed = λ w. record { tree = trees.apply op w ts.trees; width = w } in
      gives_map made (IsTyped m numbers (apply op written args))
      (gives (accepted_width op written ts.widths) (Fitting op written ts.widths) (result_fits op written ts.widths))
      (λ w r. record { named = rw (r.1, h.named); width = refl; good = rw (h.good, h.widths, r.0) }))

  pub exprs_typed : (m : Tree) (numbers : List ℕ) (scope : List Known) → Fits m numbers scope → (es : SurfaceExprs)
      → Gives (typed_exprs scope es) (AreTyped m numbers es)
  exprs_typed m numbers scope f no_expr = record { known = record { named = refl; widths = refl; good = refl } }
  exprs_typed m numbers scope f (expr e es) =
      gives_bound (expr_typed m numbers scope f e) (λ t h. gives_bound (exprs_typed m numbers scope f es) (λ ts g.
      let all : TypedList = record { trees = trees.expr t.tree ts.trees; widths = t.width ∷ ts.widths } in
      let r : Gives (Some all) (AreTyped m numbers (expr e es)) =
      record { known = record { named = rw (h.named, g.named); widths = rw (h.width, g.widths); good = rw (h.good, g.good) } } in
      r))
