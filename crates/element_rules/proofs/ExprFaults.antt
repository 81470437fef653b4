-- How a list of expressions is tested from front to back.
use Rattle.std.proofs.Common.{◌≡◌, ℕ, ◌+◌, ◌<◌, Bool, List, [], ◌∷◌, ◌++◌, length, drop, get_or, sym, ap, ◌∙◌, append_assoc}
use Rattle.element_lang.specs.declared.tree.Local.{Local}
use Rattle.element_lang.specs.Broken.{widths_in}
use Rattle.element_grammar.specs.declared.surface.SurfaceExpr.{SurfaceExpr}
use Rattle.element_grammar.specs.Surface.{surface_expr, surface_exprs}
use Rattle.element_rules.specs.declared.expressions.Faults.{Faults}
use Rattle.element_rules.specs.declared.expressions.Tested.{Tested}
use Rattle.element_rules.specs.Tested.{both_faults, list_faults, tested}
use Rattle.lemmas.proofs.Lists.{folded_item}
use Rattle.lemmas.proofs.Tests.{or_assoc}

pub both_assoc : (a b c : Faults) → both_faults (both_faults a b) c ≡ both_faults a (both_faults b c)
both_assoc a b c =
    let P : Bool → Bool → Bool → Bool → Bool → Faults = λ v w x y z. record { bad_width = v; too_large = w; unknown = x; misfit = y; far_shift = z } in
    let l = both_faults (both_faults a b) c in
    let r = both_faults a (both_faults b c) in
    ap (λ v. P v l.too_large l.unknown l.misfit l.far_shift) (or_assoc a.bad_width b.bad_width c.bad_width)
    ∙ ap (λ v. P r.bad_width v l.unknown l.misfit l.far_shift) (or_assoc a.too_large b.too_large c.too_large)
    ∙ ap (λ v. P r.bad_width r.too_large v l.misfit l.far_shift) (or_assoc a.unknown b.unknown c.unknown)
    ∙ ap (λ v. P r.bad_width r.too_large r.unknown v l.far_shift) (or_assoc a.misfit b.misfit c.misfit)
    ∙ ap (P r.bad_width r.too_large r.unknown r.misfit) (or_assoc a.far_shift b.far_shift c.far_shift)

-- the widths that were found, and those of what is left, are those of all; so are the faults
pub record Testing (text : List ℕ) (locals : List Local) (widths : List ℕ) (faults : Faults) (left all : List SurfaceExpr) : Type 0 where
  pub widths_so_far : widths ++ widths_in locals (surface_exprs text left) ≡ widths_in locals (surface_exprs text all)
  pub faults_so_far : both_faults faults (list_faults locals (surface_exprs text left)) ≡ list_faults locals (surface_exprs text all)

-- one more expression
pub testing_more : {text : List ℕ} {locals : List Local} {widths more : List ℕ} {faults joined : Faults} {all : List SurfaceExpr} (at : ℕ)
    (e : SurfaceExpr) (t : Tested) → at < length all → e ≡ get_or all at e → Testing text locals widths faults (drop at all) all
    → t ≡ tested locals (surface_expr text e) → more ≡ widths ++ t.width ∷ [] → joined ≡ both_faults faults t.faults → Testing text locals more joined
    (drop (at + 1) all) all
testing_more {text = text} {locals = locals} {widths = widths} {more = more} {faults = faults} {joined = joined} {all = all} at e t within is h made
    pushed added =
    let rest = surface_exprs text (drop (at + 1) all) in
    record {
      widths_so_far = ap (λ l. l ++ widths_in locals rest) pushed ∙ append_assoc widths (t.width ∷ []) (widths_in locals rest)
          ∙ ap (λ (x : Tested). widths ++ x.width ∷ widths_in locals rest) made
          ∙ sym (folded_item (λ l. widths ++ widths_in locals (surface_exprs text l)) all at e within is) ∙ h.widths_so_far;
      faults_so_far = ap (λ x. both_faults x (list_faults locals rest)) added ∙ both_assoc faults t.faults (list_faults locals rest)
          ∙ ap (λ (x : Tested). both_faults faults (both_faults x.faults (list_faults locals rest))) made
          ∙ sym (folded_item (λ l. both_faults faults (list_faults locals (surface_exprs text l))) all at e within is) ∙ h.faults_so_far;
    }
