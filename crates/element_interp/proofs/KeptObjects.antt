-- What a store starts with keeps what was declared.
use Rattle.std.proofs.Common.{◌≡◌, ◌≤◌, ◌<◌, ◌+◌, ◌^◌, ◌==◌, ℕ, zero, suc, true, List, [], ◌∷◌, length, replicate, nat_le, Some, slice_get, slice_index, refl, sym, ap, ◌∙◌, subst, arith}
use Rattle.std.specs.FinMap.{empty, get, insert, len, get-empty, len-empty}
use Rattle.std.proofs.lemmas.Bool.{eqb-true, leb-true, ltb-true}
use Rattle.std.proofs.lemmas.Option.{none-some, same_Some}
use Rattle.state_store.specs.declared.object.Kind.{Kind}
use Rattle.state_store.specs.declared.object.Kind.TheVariants.{Table, Map, Vector, Int}
use Rattle.state_store.specs.declared.object.Row.{Row}
use Rattle.state_store.specs.declared.object.ObjectDecl.{ObjectDecl}
use Rattle.state_store.specs.Keeping.{HaveRowWidths, with_row, one_row_more, start_whole}
use Rattle.state_store.specs.Kept.{have_widths, IsWhole, IsKeptObject, IsKept}
use Rattle.state_store.specs.Store.{key_cmp, Contents, with_rows, zeros_from, start_contents, start_object, start_store, object_at}
use Rattle.element_lang.specs.declared.sizes.TheConstants.{MAX_ROWS}
use Rattle.element_lang.specs.Rules.{same_widths, is_size, are_good_rows, is_good_object, are_good_objects}
use Rattle.gal_bits.specs.Fits.{same_list}
use Rattle.state_store.specs.Widths.{one_width, zeros_have_widths}
use Rattle.lemmas.proofs.Tests.{and_first, and_second}

-- ---- rows
no_rows : (keys values : List ℕ) → HaveRowWidths keys values empty
no_rows keys values key there is = absurd (none-some there (sym (get-empty key_cmp key) ∙ is))

-- ---- at the start
-- the rows of a table
few_rows : (rows : List Row) (contents : Contents) → len (with_rows rows contents) ≤ len contents + length rows
few_rows [] contents = omega arith
few_rows (row ∷ rows) contents = omega (arith, few_rows rows (insert contents row.keys row.values), one_row_more row.keys row.values contents)

-- no more than were declared
few_declared : (rows : List Row) (size : ℕ) → size ≡ length rows → len (with_rows rows empty) ≤ size
few_declared rows size all = omega (arith, few_rows rows empty, len-empty key_cmp (List ℕ))

rows_fit : (keys values : List ℕ) (seen : List (List ℕ)) (rows : List Row) (contents : Contents) → are_good_rows keys values seen rows ≡ true → HaveRowWidths keys values contents → HaveRowWidths keys values (with_rows rows contents)
rows_fit keys values seen [] contents h old = old
rows_fit keys values seen (row ∷ rows) contents h old =
    let widths = and_first _ _ (and_first _ _ h) in
    rows_fit keys values (row.keys ∷ seen) rows (insert contents row.keys row.values) (and_second _ (are_good_rows keys values (row.keys ∷ seen) rows) h)
    (with_row keys values row.keys row.values contents (and_first (have_widths keys row.keys) _ widths) (and_second _ (have_widths values row.values) widths) old)

-- the zeros of a vector, whose indices have 32 bits
few_zeros : (n i width : ℕ) (contents : Contents) → len (zeros_from n i width contents) ≤ len contents + n
few_zeros zero i width contents = omega arith
few_zeros (suc n) i width contents =
    omega (arith, few_zeros n (suc i) width (insert contents (i ∷ []) (replicate width 0)), one_row_more (i ∷ []) (replicate width 0) contents)

-- no more than the length
few_indices : (size width : ℕ) → len (zeros_from size 0 width empty) ≤ size
few_indices size width = omega (arith, few_zeros size 0 width empty, len-empty key_cmp (List ℕ))

zeros_fit : (values : List ℕ) (n i : ℕ) (contents : Contents) → i + n ≤ 2 ^ 32 → HaveRowWidths (32 ∷ []) values contents → HaveRowWidths (32 ∷ []) values (zeros_from n i (length values) contents)
zeros_fit values zero i contents within old = old
zeros_fit values (suc n) i contents within old =
    zeros_fit values n (suc i) (insert contents (i ∷ []) (replicate (length values) 0)) (omega arith)
    (with_row (32 ∷ []) values (i ∷ []) (replicate (length values) 0) contents (one_width 32 i [] [] (omega arith) refl) (zeros_have_widths values) old)

small_size : (n : ℕ) → is_size n ≡ true → n ≤ 2 ^ 32
small_size n h =
    let most : n ≤ MAX_ROWS = leb-true n MAX_ROWS (and_second _ (nat_le n MAX_ROWS) h) in
    omega arith

-- the one row of an integer
one_row : (row : List ℕ) (size : ℕ) → size ≡ 1 → len {R = key_cmp} (insert empty [] row) ≤ size
one_row row size one = omega (arith, one_row_more [] row empty, len-empty key_cmp (List ℕ))

-- an object that starts with these contents
kept_from : (d : ObjectDecl) (contents : Contents) → (start_object d).contents ≡ contents → len contents ≤ d.size → HaveRowWidths d.keys d.values contents → IsKeptObject d (start_object d)
kept_from d contents is few rows = record {
  kind = refl;
  size = refl;
  count = refl;
  few = subst (λ (c : Contents). len c ≤ d.size) (sym is) few;
  rows = λ key there found. rows key there (sym (ap (λ (c : Contents). get c key) is) ∙ found);
  table = λ _. refl;
}

start_kept : (kind : Kind) (d : ObjectDecl) → is_good_object kind d ≡ true → d.kind ≡ kind → IsKeptObject d (start_object d)
start_kept Table d h is =
    let all : d.size ≡ length d.rows = eqb-true d.size (length d.rows) (and_second _ _ (and_first _ _ (and_first _ _ h))) in
    kept_from d (with_rows d.rows empty) (ap (λ (kind : Kind). start_contents kind d) is)
    (few_declared d.rows d.size all)
    (rows_fit d.keys d.values [] d.rows empty (and_second _ (are_good_rows d.keys d.values [] d.rows) h) (no_rows d.keys d.values))
start_kept Map d h is =
    kept_from d empty (ap (λ (kind : Kind). start_contents kind d) is) (omega (arith, len-empty key_cmp (List ℕ))) (no_rows d.keys d.values)
start_kept Vector d h is =
    let three = and_first _ _ (and_first _ _ h) in
    let index : d.keys ≡ 32 ∷ [] = same_list d.keys (32 ∷ []) (and_first (same_widths d.keys (32 ∷ [])) _ (and_first _ _ three)) in
    let small : d.size ≤ 2 ^ 32 = small_size d.size (and_second _ (is_size d.size) three) in
    kept_from d (zeros_from d.size 0 (length d.values) empty) (ap (λ (kind : Kind). start_contents kind d) is)
    (few_indices d.size (length d.values))
    (subst (λ keys. HaveRowWidths keys d.values (zeros_from d.size 0 (length d.values) empty)) (sym index) (zeros_fit d.values d.size 0 empty (omega arith) (no_rows (32 ∷ []) d.values)))
start_kept Int d h is =
    let five = and_first _ _ h in
    let four = and_first _ _ five in
    let two = and_first _ _ (and_first _ _ four) in
    let width : ℕ = slice_index d.values 0 in
    let none : d.keys ≡ [] = no_widths d.keys (eqb-true (length d.keys) 0 (and_first (length d.keys == 0) _ two)) in
    let single : d.values ≡ width ∷ [] = same_list d.values (width ∷ []) (and_second _ (same_widths d.values (width ∷ [])) two) in
    let one : d.size ≡ 1 = eqb-true d.size 1 (and_second _ _ four) in
    let small : d.start < 2 ^ width = ltb-true d.start (2 ^ width) (and_second _ _ five) in
    kept_from d (insert empty [] (d.start ∷ [])) (ap (λ (kind : Kind). start_contents kind d) is)
    (one_row (d.start ∷ []) d.size one)
    (with_row d.keys d.values [] (d.start ∷ []) empty
    (subst (λ keys. have_widths keys [] ≡ true) (sym none) refl)
    (subst (λ values. have_widths values (d.start ∷ []) ≡ true) (sym single) (one_width width d.start [] [] small refl))
    (no_rows d.keys d.values))
  where
    no_widths : (widths : List ℕ) → length widths ≡ 0 → widths ≡ []
    no_widths [] e = refl
    no_widths (w ∷ widths) e = absurd (omega arith)

start_length : (os : List ObjectDecl) → length (start_store os) ≡ length os
start_length [] = refl
start_length (o ∷ os) = ap suc (start_length os)

start_each : (names : List (List ℕ)) (os : List ObjectDecl) → are_good_objects names os ≡ true → (number : ℕ) (d : ObjectDecl) → slice_get os number ≡ Some d → IsKeptObject d (object_at (start_store os) number)
start_each names [] h number d got = cc
start_each names (o ∷ os) h zero d got = subst (λ (x : ObjectDecl). IsKeptObject x (start_object o)) (same_Some o d got) (start_kept o.kind o (and_first _ _ (and_first _ _ h)) refl)
start_each names (o ∷ os) h (suc number) d got = start_each (o.name ∷ names) os (and_second _ _ h) number d got

-- each object starts whole
start_whole_each : (os : List ObjectDecl) (number : ℕ) (d : ObjectDecl) → slice_get os number ≡ Some d → IsWhole d (object_at (start_store os) number)
start_whole_each [] number d got = cc
start_whole_each (o ∷ os) zero d got = subst (λ (x : ObjectDecl). IsWhole x (start_object o)) (same_Some o d got) (start_whole o)
start_whole_each (o ∷ os) (suc number) d got = start_whole_each os number d got

pub start_is_kept : (names : List (List ℕ)) (os : List ObjectDecl) → are_good_objects names os ≡ true → IsKept os (start_store os)
start_is_kept names os h = record { count = start_length os; each = start_each names os h; whole = start_whole_each os }
