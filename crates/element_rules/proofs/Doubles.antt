-- How the rows of a table are gone through, with the keys seen so far.
use Rattle.std.proofs.Common.{Vec, Global, ◌≡◌, ◌≢◌, ℕ, suc, ◌+◌, ◌<◌, ◌==◌, Bool, true, false, not, ◌&&◌, ◌||◌, cond, List, [], ◌∷◌, length, drop, get_or, map, refl, sym, ap, ◌∙◌}
use Rattle.std.specs.declared.cmp.Ordering.{Ordering}
use Rattle.std.specs.Ordering.{is_eq, nat_cmp}
use Rattle.std.specs.Cmp.Lexicographic.{slice_cmp, nat_list_eq_equiv}
use Rattle.std.specs.BTreeSet.{BTreeSet, contains}
use Rattle.std.specs.List.{list_any}
use Rattle.std.proofs.lemmas.Bool.{and_right}
use Rattle.std.proofs.lemmas.Map.Text.{is_eq-slice_cmp}
use Rattle.element_lang.specs.Rules.{same_widths}
use Rattle.element_lang.specs.Surface as surface
use Rattle.element_lang.specs.Broken.{has_bad_rows}
use Rattle.element_grammar.specs.declared.surface.SurfaceRow.{SurfaceRow}
use Rattle.element_grammar.specs.Surface.{surface_row}
use Rattle.element_rules.proofs.Bits.{compared}
use Rattle.lemmas.proofs.Lists.{folded_item}

-- lists of different lengths are different
pub other_widths : (xs ys : List ℕ) → length xs ≢ length ys → same_widths xs ys ≡ false
other_widths [] [] h = absurd (h refl)
other_widths [] (y ∷ ys) h = refl
other_widths (x ∷ xs) [] h = refl
other_widths (x ∷ xs) (y ∷ ys) h = and_right (x == y) (same_widths xs ys) (other_widths xs ys (λ e. h (ap suc e)))

-- the order of keys tells whether they are the same
same_key : (key other : List ℕ) → is_eq (slice_cmp nat_cmp key other) ≡ same_widths other key
same_key key other = is_eq-slice_cmp key other ∙ nat_list_eq_equiv.symm key other ∙ compared other key

-- the order in which the keys are kept
abbrev pub key_order : Vec ℕ Global → Vec ℕ Global → Ordering
key_order a b = slice_cmp nat_cmp a.items b.items

-- the numbers of a row's key
abbrev pub key_of : SurfaceRow → List ℕ
key_of row = map (λ (l : surface.Literal). l.value) (surface_row row).keys

-- the widths that are written in a row are the declared ones
abbrev pub fits_row : List ℕ → List ℕ → SurfaceRow → Bool
fits_row keys values row =
    same_widths (map (λ (l : surface.Literal). l.width) (surface_row row).keys) keys && same_widths (map (λ (l : surface.Literal). l.width)
    (surface_row row).values) values

-- The set has the keys of the rows that were seen, and the rows that are left are bad behind them exactly where all are.
pub record Collecting (keys values : List ℕ) (seen : BTreeSet (Vec ℕ Global)) (left all : List SurfaceRow) : Type 0 where
  pub past : List (List ℕ)
  pub told : has_bad_rows keys values past (map surface_row left) ≡ has_bad_rows keys values [] (map surface_row all)
  pub same : (q : Vec ℕ Global) → contains key_order seen q ≡ list_any (same_widths q.items) past

-- a row that fits, and has a new key
all_new : (a b c rest : Bool) → (a && b) ≡ true → c ≡ false → (not a || not b || c || rest) ≡ rest
all_new true true c rest e f = ap (λ x. x || rest) f
all_new true false c rest e f = cc
all_new false b c rest e f = cc

added_key : (is had new : Bool) → is ≡ new → cond is true had ≡ (new || had)
added_key true had new e = ap (λ x. x || had) e
added_key false had new e = ap (λ x. x || had) e

pub collecting_more : {keys values : List ℕ} {seen : BTreeSet (Vec ℕ Global)} {all : List SurfaceRow} (more : BTreeSet (Vec ℕ Global)) (at : ℕ)
    (row : SurfaceRow) (key : Vec ℕ Global) (added : Bool) → at < length all → row ≡ get_or all at row → Collecting keys values seen (drop at all) all
    → fits_row keys values row ≡ true → key.items ≡ key_of row → added ≡ not (contains key_order seen key) → added ≡ true
    → ((q : Vec ℕ Global) → contains key_order more q ≡ cond (is_eq (key_order key q)) true (contains key_order seen q))
    → Collecting keys values more (drop (at + 1) all) all
collecting_more {keys = keys} {values = values} {seen = seen} {all = all} more at row key added within is h fits read was new updated =
    let rest = map surface_row (drop (at + 1) all) in
    let unseen : list_any (same_widths (key_of row)) h.past ≡ false =
    ap (λ k. list_any (same_widths k) h.past) (sym read) ∙ sym (h.same key) ∙ not_in (contains key_order seen key) added was new in
    record {
      past = key_of row ∷ h.past;
      told = sym (sym h.told ∙ folded_item (λ l. has_bad_rows keys values h.past (map surface_row l)) all at row within is
          ∙ all_new _ _ _ (has_bad_rows keys values (key_of row ∷ h.past) rest) fits unseen);
      same = λ q. updated q ∙ added_key (is_eq (key_order key q)) (contains key_order seen q) (same_widths q.items (key_of row))
          (same_key key.items q.items ∙ ap (same_widths q.items) read)
          ∙ ap (λ b. same_widths q.items (key_of row) || b) (h.same q);
    }
  where
    not_in : (had added : Bool) → added ≡ not had → added ≡ true → had ≡ false
    not_in true added e f = cc
    not_in false added e f = refl
