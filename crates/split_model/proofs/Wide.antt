-- Widths of the values of small objects.
use Rattle.std.proofs.Common.{◌≡◌, ℕ, zero, suc, ◌<◌, List, [], ◌∷◌, refl, ap, sym, ◌∙◌, subst, arith, length, get_or, slice_index, IsTrue}
use Rattle.std.specs.Prelude.{slice_get, Option, Some, None, All, unwrap_or}
use Rattle.std.specs.Option.{option_map}
use Rattle.std.specs.List.{list_all}
use Rattle.std.proofs.lemmas.Bool.{and_parts}
use Rattle.std.proofs.lemmas.Option.{same_Some, slice_get_within, slice_get-get_or}
use Rattle.gal_bits.specs.Fitting.{is_width}
use Rattle.state_store.specs.declared.object.ObjectDecl.{ObjectDecl}
use Rattle.flat_ir.specs.Program.{Work, value_widths, result_widths}
use Rattle.flat_ir.specs.Program.Work.{look}
use Rattle.split_model.specs.Bounds.{IsSmall}

pub width_at : (ws : List ℕ) (i : ℕ) → IsTrue (list_all is_width ws) → i < length ws → IsTrue (is_width (slice_index ws i))
width_at [] i all h = absurd (omega arith)
width_at (w ∷ ws) zero all h = (and_parts (is_width w) (list_all is_width ws) all).0
width_at (w ∷ ws) (suc i) all h = width_at ws i (and_parts (is_width w) (list_all is_width ws) all).1 (omega arith)

pub values_are : (ds : List ObjectDecl) (o : ℕ) (d : ObjectDecl) → slice_get ds o ≡ Some d → value_widths ds o ≡ d.values
values_are ds o d e = ap (λ (x : Option ObjectDecl). unwrap_or (option_map (λ (d : ObjectDecl). d.values) x) []) e

pub no_values : (ds : List ObjectDecl) (o : ℕ) → slice_get ds o ≡ None → value_widths ds o ≡ []
no_values ds o e = ap (λ (x : Option ObjectDecl). unwrap_or (option_map (λ (d : ObjectDecl). d.values) x) []) e

pub small_at : (ds : List ObjectDecl) (o : ℕ) (d : ObjectDecl) → All IsSmall ds → slice_get ds o ≡ Some d → IsSmall d
small_at ds o d all e =
    let within = slice_get_within ds o d e in
    subst IsSmall (same_Some (get_or ds o d) d (sym (slice_get-get_or ds o d within) ∙ e)) (all o d within)

value_wide : (ds : List ObjectDecl) (o p : ℕ) (x : Option ObjectDecl) → slice_get ds o ≡ x → All IsSmall ds → p < length (value_widths ds o) → IsTrue (is_width (slice_index (value_widths ds o) p))
value_wide ds o p None e all h = let none = no_values ds o e in absurd (omega (arith, ap length none))
value_wide ds o p (Some d) e all h =
    let same = values_are ds o d e in
    subst (λ ws. IsTrue (is_width (slice_index ws p))) (sym same) (width_at d.values p (small_at ds o d all e).widths (omega (arith, ap length same)))

-- each result behind the first has 1 to 64 bits
pub result_wide : (ds : List ObjectDecl) (work : Work) (p : ℕ) → All IsSmall ds → 0 < p → p < length (result_widths ds work) → IsTrue (is_width (slice_index (result_widths ds work) p))
result_wide ds work zero all some h = absurd (omega (arith, some))
result_wide ds (look object keys) (suc p) all some h = value_wide ds object p (slice_get ds object) refl all (omega arith)
result_wide ds _ (suc p) all some h = absurd (omega (arith, h))
