-- An expression that keeps the rules is made of itself with its names put back.
use Rattle.std.proofs.Common.{◌≡◌, ℕ, Bool, true, false, ◌&&◌, List, [], ◌∷◌, ◌++◌, nat_le, Some, None, slice_get, ◌==◌, refl, sym, ap, ap₂, ◌∙◌, inl, inr}
use Rattle.std.specs.List.{list_any, list_all}
use Rattle.std.specs.Option.{option_or}
use Rattle.std.specs.Str.{bytes_eq}
use Rattle.std.proofs.lemmas.Bool.{eqb-true, and_parts, and_from, or_parts, or_cases, false≢true}
use Rattle.packet_fields.specs.declared.field.Field.{Field}
use Rattle.packet_fields.specs.declared.field.Field.TheVariants.{MetaPort}
use Rattle.packet_fields.specs.Table.{row}
use Rattle.element_lang.specs.declared.tree.Local.{Local}
use Rattle.element_lang.specs.Tree as trees
use Rattle.element_lang.specs.Tree.{ExprTree, Exprs, Tree}
use Rattle.element_lang.specs.Widths.{local_widths, width_of}
use Rattle.element_lang.specs.Rules.{is_width, is_shift, widths_of, is_good_expr, are_good_exprs}
use Rattle.element_lang.specs.Surface.{name_of_local, local_name, named_expr, named_exprs}
use Rattle.element_text.specs.Resolve.{Known, local_in, Typed, TypedList, typed_expr, typed_exprs}
use Rattle.element_text.proofs.NamesInScope.{local_in_pushed, found_alone, none_alone, width_at}
use Rattle.element_text.proofs.Operators.{fitting_result, result_wide}
use Rattle.lemmas.proofs.Lists.{bytes_eq_same}

-- A number in scope is that of a local of the middlebox, which has 1 to 64 bits and is found by its name.
pub record IsKnown (m : Tree) (scope : List Known) (x : ℕ) : Type 0 where
  pub decl : Local
  pub stands : slice_get m.locals x ≡ Some decl
  pub wide : is_width decl.width ≡ true
  pub finds : local_in scope decl.name ≡ Some (record { number = x; decl = decl })

-- The numbers in scope are those of the locals in scope: each is found by its name, and a name that none of them has finds nothing.
pub record Reads (m : Tree) (numbers : List ℕ) (scope : List Known) : Type 0 where
  pub known : (x : ℕ) → list_any (λ y. y == x) numbers ≡ true → IsKnown m scope x
  pub free : (word : List ℕ) → list_any (λ y. bytes_eq word (local_name m y)) numbers ≡ false → local_in scope word ≡ None

pub reads_none : (m : Tree) → Reads m [] []
reads_none m = record { known = λ x e. absurd (false≢true e); free = λ word e. refl }

-- the order of the numbers does not matter
pub reads_moved : (m : Tree) (numbers others : List ℕ) (scope : List Known) → ((p : ℕ → Bool) → list_any p numbers ≡ list_any p others) → Reads m numbers scope → Reads m others scope
reads_moved m numbers others scope same h = record {
  known = λ x e. h.known x (same (λ y. y == x) ∙ e);
  free = λ word e. h.free word (same (λ y. bytes_eq word (local_name m y)) ∙ e);
}

-- one more local, whose name none in scope has
pub reads_pushed : (m : Tree) (numbers : List ℕ) (scope : List Known) (x : ℕ) (l : Local) → slice_get m.locals x ≡ Some l → is_width l.width ≡ true
    → list_any (λ y. bytes_eq l.name (local_name m y)) numbers ≡ false → Reads m numbers scope → Reads m (x ∷ numbers) (scope ++ record { number = x; decl = l } ∷ [])
reads_pushed m numbers scope x l stands wide fresh h =
    let k : Known = record { number = x; decl = l } in
    record {
      known = λ z e. elim (or_cases (x == z) (list_any (λ y. y == z) numbers) e) [
        | inl p ↦
            let same : x ≡ z = eqb-true x z p in
            record {
              decl = l;
              stands = ap (slice_get m.locals) (sym same) ∙ stands;
              wide = wide;
              finds = local_in_pushed scope k l.name ∙ ap₂ option_or (h.free l.name fresh) (found_alone k l.name (bytes_eq_same l.name)) ∙ ap (λ i. Some (record { number = i; decl = l })) same;
            }
        | inr q ↦
            let j = h.known z q in
            record {
              decl = j.decl;
              stands = j.stands;
              wide = j.wide;
              finds = local_in_pushed scope k j.decl.name ∙ ap (λ o. option_or o (local_in (k ∷ []) j.decl.name)) j.finds;
            }
      ];
      free = λ word e.
          let parts = or_parts _ _ e in
          let not_new : bytes_eq word l.name ≡ false = ap (λ o. bytes_eq word (name_of_local o)) (sym stands) ∙ parts.0 in
          local_in_pushed scope k word ∙ ap₂ option_or (h.free word parts.1) (none_alone k word not_new);
    }

-- ## Expressions

-- an expression with its width, and a list of them
abbrev pub typed_in : Tree → ExprTree → Typed
typed_in m t = record { tree = t; width = width_of (local_widths m) t }

abbrev pub all_typed_in : Tree → Exprs → TypedList
all_typed_in m ts = record { trees = ts; widths = widths_of (local_widths m) ts }

module _ (m : Tree) (numbers : List ℕ) (scope : List Known) (h : Reads m numbers scope) where
  mutual
    pub expr_read : (t : ExprTree) → is_good_expr (local_widths m) numbers t ≡ true → typed_expr scope (named_expr m t) ≡ Some (typed_in m t)
    expr_read (trees.lit value width) e = rw e
    expr_read (trees.local x) e = let k = h.known x e in rw (k.stands, k.finds, width_at m.locals x k.decl k.stands)
    expr_read (trees.field f) e = refl
    expr_read (trees.byte index) e = let p = and_parts (is_good_expr (local_widths m) numbers index) _ e in rw (expr_read index p.0, p.1)
    expr_read (trees.shift op by arg) e = let p = and_parts (is_shift op && nat_le by 63) _ e in rw (expr_read arg p.1, p.0)
    expr_read (trees.apply op w args) e =
        let p = and_parts (are_good_exprs (local_widths m) numbers args) _ e in
        rw (exprs_read args p.0, fitting_result op w (widths_of (local_widths m) args) p.1)

    pub exprs_read : (ts : Exprs) → are_good_exprs (local_widths m) numbers ts ≡ true → typed_exprs scope (named_exprs m ts) ≡ Some (all_typed_in m ts)
    exprs_read trees.no_expr e = refl
    exprs_read (trees.expr t ts) e = let p = and_parts (is_good_expr (local_widths m) numbers t) _ e in rw (expr_read t p.0, exprs_read ts p.1)

-- ## Every value has 1 to 64 bits

pub field_wide : (f : Field) → is_width (row f).width ≡ true
field_wide MetaPort = refl
field_wide _ = refl

module _ (m : Tree) (numbers : List ℕ) (scope : List Known) (h : Reads m numbers scope) where
  mutual
    pub expr_wide : (t : ExprTree) → is_good_expr (local_widths m) numbers t ≡ true → is_width (width_of (local_widths m) t) ≡ true
    expr_wide (trees.lit value width) e = (and_parts _ _ e).0
    expr_wide (trees.local x) e = let k = h.known x e in ap is_width (width_at m.locals x k.decl k.stands) ∙ k.wide
    expr_wide (trees.field f) e = field_wide f
    expr_wide (trees.byte index) e = refl
    expr_wide (trees.shift op by arg) e = expr_wide arg (and_parts _ _ e).1
    expr_wide (trees.apply op w args) e = let p = and_parts _ _ e in result_wide op w (widths_of (local_widths m) args) p.1 (exprs_wide args p.0)

    exprs_wide : (ts : Exprs) → are_good_exprs (local_widths m) numbers ts ≡ true → list_all is_width (widths_of (local_widths m) ts) ≡ true
    exprs_wide trees.no_expr e = refl
    exprs_wide (trees.expr t ts) e = let p = and_parts _ _ e in and_from _ _ (expr_wide t p.0) (exprs_wide ts p.1)
