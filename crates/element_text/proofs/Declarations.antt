-- What a declaration that keeps its rules says of its parts.
use Rattle.std.proofs.Common.{◌≡◌, ℕ, ◌<◌, ◌+◌, true, ◌&&◌, not, List, [], ◌∷◌, length, map, drop, get_or, refl, sym, ap, ◌∙◌}
use Rattle.std.specs.List.{list_all, list_any}
use Rattle.std.specs.Str.{bytes_eq}
use Rattle.std.proofs.lemmas.Bool.{and_parts, and_from}
use Rattle.std.proofs.lemmas.List.{length-map}
use Rattle.element_lang.specs.Rules.{same_widths, is_good_object, are_good_objects}
use Rattle.element_lang.specs.Surface.{SurfaceDecl, SurfaceRow, Literal, object_of}
use Rattle.element_text.specs.Resolve.{is_written, is_good_decl, are_written}
use Rattle.element_grammar.specs.declared.surface.SurfaceRow as rows
use Rattle.element_grammar.specs.Surface.{surface_literal, surface_row}
use Rattle.gal_bits.specs.Fits.{same_list}
use Rattle.lemmas.proofs.Lists.{folded_item}

-- declarations that keep their rules together keep them one by one
pub one_by_one : (names : List (List ℕ)) (ds : List SurfaceDecl) → (list_all is_written ds && are_good_objects names (map object_of ds)) ≡ true → list_all is_good_decl ds ≡ true
one_by_one names [] e = refl
one_by_one names (d ∷ ds) e =
    let s = object_of d in
    let parts = and_parts (is_written d && list_all is_written ds) (are_good_objects names (map object_of (d ∷ ds))) e in
    let written = and_parts (is_written d) (list_all is_written ds) parts.0 in
    let good = and_parts (is_good_object s.kind s && not (list_any (bytes_eq s.name) names)) (are_good_objects (s.name ∷ names) (map object_of ds)) parts.1 in
    let own = and_parts (is_good_object s.kind s) (not (list_any (bytes_eq s.name) names)) good.0 in
    and_from (is_good_decl d) (list_all is_good_decl ds) (and_from (is_written d) (is_good_object s.kind s) written.0 own.0)
    (one_by_one (s.name ∷ names) ds (and_from (list_all is_written ds) (are_good_objects (s.name ∷ names) (map object_of ds)) written.1 good.1))

-- a row has as many numbers as are declared
as_many : (ls : List Literal) (widths : List ℕ) → same_widths (map (λ l. l.width) ls) widths ≡ true → length ls ≡ length widths
as_many ls widths e = sym (length-map ls (λ (l : Literal). l.width)) ∙ ap length (same_list (map (λ l. l.width) ls) widths e)

pub next_short : (keys values : List ℕ) (all : List rows.SurfaceRow) (at : ℕ) (next : rows.SurfaceRow) → at < length all → next ≡ get_or all at next → are_written keys values (map surface_row (drop at all)) ≡ true
    → (length next.keys.items ≡ length keys) × (length next.values.items ≡ length values)
next_short keys values all at next within item e =
    let row = surface_row next in
    let here : are_written keys values (row ∷ map surface_row (drop (at + 1) all)) ≡ true =
    sym (folded_item (λ l. are_written keys values (map surface_row l)) all at next within item) ∙ e in
    let both = and_parts _ _ (and_parts _ _ here).0 in
    (sym (length-map next.keys.items surface_literal) ∙ as_many row.keys keys both.0, sym (length-map next.values.items surface_literal) ∙ as_many row.values values both.1)
