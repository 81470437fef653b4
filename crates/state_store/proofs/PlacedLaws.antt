-- Rows by place.
use Rattle.std.proofs.Common.{◌≡◌, ℕ, zero, suc, ◌+◌, ◌<◌, ◌≤◌, Bool, true, false, cond, not, ◌&&◌, T, List, [], ◌∷◌, ◌++◌, length, get_or, set, take, drop, replicate, Option, Some, None, is_some, slice_get, nat_le, refl, sym, ap, ap₂, subst, ◌∙◌, arith}
use Rattle.std.specs.Ordering.{eq_by_cmp, is_eq, is_lt}
use Rattle.std.specs.declared.cmp.Ordering.TheVariants.{Less, Equal, Greater}
use Rattle.std.specs.FinMap.{find, get, insert, len, entries, empty, from_sorted, entries-from_sorted}
use Rattle.std.specs.FinMap.Entries.{below_all}
use Rattle.std.proofs.lemmas.Bool.Decides.{nat_tests}
use Rattle.std.specs.List.{insert as insert_at}
use Rattle.std.proofs.lemmas.List.{append-nil, append_assoc, length_push, drop_more, drop_all, take_more}
use Rattle.std.proofs.lemmas.Map.Lookups.{exact_bytes}
use Rattle.std.proofs.lemmas.Option.{slice_get_past, none-some, same_Some}
use Rattle.std.proofs.lemmas.Bool.{le-leb}
use Rattle.std.proofs.lemmas.List.{length-set}
use Rattle.state_store.specs.Fitted.{Fitted, fits_row, is_full_at, keep_answer, kept_row}
use Rattle.state_store.specs.declared.object.Row.{Row}
use Rattle.state_store.specs.declared.packed_rows.Kept.TheVariants.{Stored, Full, Misfit}
use Rattle.state_store.proofs.Entries.{map_get, map_len, map_with, map_empty, with_entry_here, with_entry_new}
use Rattle.state_store.specs.Store.{key_cmp, Contents, zeros_from, row_of, rows_from}
use Rattle.state_store.specs.Places.{Entries, IsSorted, IsPlaceOf, IsGapFor, key_at}
use Rattle.state_store.specs.Placed.{placed, placed_contents, placed_rows}
use Rattle.lemmas.proofs.Tests.{eq_equal}

one_less : (i j : ℕ) → i < j → key_cmp (i ∷ []) (j ∷ []) ≡ Less
one_less i j lt = grind (arith, nat_tests)

one_equal : (i : ℕ) → key_cmp (i ∷ []) (i ∷ []) ≡ Equal
one_equal i = grind (arith, nat_tests)

one_greater : (i j : ℕ) → j < i → key_cmp (i ∷ []) (j ∷ []) ≡ Greater
one_greater i j lt = grind (arith, nat_tests)

pub placed_length : (i : ℕ) (rows : List (List ℕ)) → length (placed i rows) ≡ length rows
unfolding placed
placed_length i [] = refl
placed_length i (r ∷ rows) = ap suc (placed_length (suc i) rows)

below_placed : (i j : ℕ) (rows : List (List ℕ)) → i < j → T (below_all key_cmp (i ∷ []) (placed j rows))
unfolding placed
below_placed i j [] lt = tt
below_placed i j (r ∷ rows) lt =
    subst (λ o. T (is_lt o && below_all key_cmp (i ∷ []) (placed (suc j) rows))) (sym (one_less i j lt)) (below_placed i (suc j) rows (omega arith))

pub placed_sorted : (i : ℕ) (rows : List (List ℕ)) → IsSorted (placed i rows)
unfolding placed
placed_sorted i [] = tt
placed_sorted i (r ∷ rows) = both (below_all key_cmp (i ∷ []) (placed (suc i) rows)) _ (below_placed i (suc i) rows (omega arith)) (placed_sorted (suc i) rows)
  where
    both : (a b : Bool) → T a → T b → T (a && b)
    both true b p q = q
    both false b p q = p

-- ---- the place of a key
key_there : (i j : ℕ) (rows : List (List ℕ)) → j < length rows → key_at (placed i rows) j ≡ (i + j) ∷ []
unfolding placed
key_there i j [] lt = absurd (omega arith)
key_there i zero (r ∷ rows) lt = ap (λ n. n ∷ []) (let e : i ≡ i + 0 = omega arith in e)
key_there i (suc j) (r ∷ rows) lt = key_there (suc i) j rows (omega arith) ∙ ap (λ n. n ∷ []) (let e : suc i + j ≡ i + suc j = omega arith in e)

pub place_of : (rows : List (List ℕ)) (k : ℕ) → k < length rows → IsPlaceOf (placed 0 rows) (k ∷ []) k
place_of rows k lt = record {
  in_range = let e = placed_length 0 rows in omega arith;
  before = λ j less. ap (key_cmp (k ∷ [])) (key_there 0 j rows (omega arith)) ∙ one_greater k (0 + j) (omega arith);
  here = ap (key_cmp (k ∷ [])) (key_there 0 k rows lt ∙ ap (λ n. n ∷ []) (let e : 0 + k ≡ k = omega arith in e)) ∙ one_equal k;
}

pub gap_behind : (rows : List (List ℕ)) (k : ℕ) → length rows ≤ k → IsGapFor (placed 0 rows) (k ∷ []) (length rows)
gap_behind rows k le = record {
  in_range = let e = placed_length 0 rows in omega arith;
  before = λ j less. ap (key_cmp (k ∷ [])) (key_there 0 j rows less) ∙ one_greater k (0 + j) (omega arith);
  next = λ lt. absurd (let e = placed_length 0 rows in omega arith);
}

one_number : (k i : ℕ) → k ∷ [] ≡ i ∷ [] → k ≡ i
one_number k i e = cc

-- ---- a look
-- what is found under a key
abbrev pub at_key : List ℕ → List (List ℕ) → Option (List ℕ)
at_key [] rows = None
at_key (k ∷ []) rows = slice_get rows k
at_key (k ∷ m ∷ ks) rows = None

exact : (k : List ℕ) (i : ℕ) → eq_by_cmp key_cmp k (i ∷ []) ≡ true → k ≡ i ∷ []
exact k i e = exact_bytes k (i ∷ []) (eq_equal (key_cmp k (i ∷ [])) e)

apart : (k : List ℕ) (i : ℕ) → (k ≡ i ∷ [] → ⊥) → eq_by_cmp key_cmp k (i ∷ []) ≡ false
apart k i other = go (eq_by_cmp key_cmp k (i ∷ [])) refl
  where
    go : (b : Bool) → eq_by_cmp key_cmp k (i ∷ []) ≡ b → eq_by_cmp key_cmp k (i ∷ []) ≡ false
    go true e = absurd (other (exact k i e))
    go false e = e

-- no row has a key that isn't one number
find_none : (k : List ℕ) (i : ℕ) (rows : List (List ℕ)) → ((j : ℕ) → k ≡ j ∷ [] → ⊥) → find key_cmp k (placed i rows) ≡ None
unfolding placed
find_none k i [] other = refl
find_none k i (r ∷ rows) other = rw (apart k i (other i)) (find_none k (suc i) rows other)

find_at : (n i : ℕ) (rows : List (List ℕ)) → find key_cmp ((i + n) ∷ []) (placed i rows) ≡ slice_get rows n
unfolding placed
find_at n i [] = refl
find_at zero i (r ∷ rows) = ap (λ o. cond (is_eq o) (Some r) (find key_cmp ((i + 0) ∷ []) (placed (suc i) rows))) (ap (λ m. key_cmp (m ∷ []) (i ∷ [])) (let e : i + 0 ≡ i = omega arith in e) ∙ one_equal i)
find_at (suc n) i (r ∷ rows) =
    rw (apart ((i + suc n) ∷ []) i (λ e. absurd (let s = one_number (i + suc n) i e in omega arith)))
    (ap (λ m. find key_cmp (m ∷ []) (placed (suc i) rows)) (let e : i + suc n ≡ suc i + n = omega arith in e) ∙ find_at n (suc i) rows)

pub placed_get : (rows : List (List ℕ)) (k : List ℕ) → get (placed_contents rows) k ≡ at_key k rows
placed_get rows [] = map_get (placed 0 rows) [] (placed_sorted 0 rows) ∙ find_none [] 0 rows (λ j e. absurd (cc))
placed_get rows (k ∷ []) = map_get (placed 0 rows) (k ∷ []) (placed_sorted 0 rows) ∙ ap (λ m. find key_cmp (m ∷ []) (placed 0 rows)) (let e : k ≡ 0 + k = omega arith in e) ∙ find_at k 0 rows
placed_get rows (k ∷ m ∷ ks) = map_get (placed 0 rows) (k ∷ m ∷ ks) (placed_sorted 0 rows) ∙ find_none (k ∷ m ∷ ks) 0 rows (λ j e. absurd (cc))

pub placed_entries : (rows : List (List ℕ)) → entries (placed_contents rows) ≡ placed 0 rows
placed_entries rows = entries-from_sorted key_cmp (placed 0 rows) (placed_sorted 0 rows)

pub placed_len : (rows : List (List ℕ)) → len (placed_contents rows) ≡ length rows
placed_len rows = map_len (placed 0 rows) (placed_sorted 0 rows) ∙ placed_length 0 rows

-- ---- another row at a place
set_placed : (i j : ℕ) (rows : List (List ℕ)) (v : List ℕ) → j < length rows → set (placed i rows) j ((i + j) ∷ [], v) ≡ placed i (set rows j v)
unfolding placed
set_placed i j [] v lt = absurd (omega arith)
set_placed i zero (r ∷ rows) v lt = ap (λ m. (m ∷ [], v) ∷ placed (suc i) rows) (let e : i + 0 ≡ i = omega arith in e)
set_placed i (suc j) (r ∷ rows) v lt =
    ap (λ l. (i ∷ [], r) ∷ l) (ap (λ m. set (placed (suc i) rows) j (m ∷ [], v)) (let e : i + suc j ≡ suc i + j = omega arith in e) ∙ set_placed (suc i) j rows v (omega arith))

pub placed_set : (rows : List (List ℕ)) (k : ℕ) (v : List ℕ) → k < length rows → placed_contents (set rows k v) ≡ insert (placed_contents rows) (k ∷ []) v
placed_set rows k v lt =
    ap (λ es. from_sorted es)
    (sym (set_placed 0 k rows v lt)
    ∙ ap (λ key. set (placed 0 rows) k (key, v)) (sym (key_there 0 k rows lt))
    ∙ with_entry_here (placed 0 rows) (k ∷ []) v k (place_of rows k lt))
    ∙ map_with (placed 0 rows) (k ∷ []) v (placed_sorted 0 rows)

-- ---- a row behind the others
insert_placed : (i : ℕ) (rows : List (List ℕ)) (v : List ℕ) → insert_at (placed i rows) (length rows) ((i + length rows) ∷ [], v) ≡ placed i (rows ++ v ∷ [])
unfolding placed
insert_placed i [] v = ap (λ m. (m ∷ [], v) ∷ []) (let e : i + 0 ≡ i = omega arith in e)
insert_placed i (r ∷ rows) v =
    ap (λ l. (i ∷ [], r) ∷ l) (ap (λ m. insert_at (placed (suc i) rows) (length rows) (m ∷ [], v)) (let e : i + suc (length rows) ≡ suc i + length rows = omega arith in e) ∙ insert_placed (suc i) rows v)

pub placed_push : (rows : List (List ℕ)) (v : List ℕ) → insert (placed_contents rows) (length rows ∷ []) v ≡ placed_contents (rows ++ v ∷ [])
placed_push rows v =
    sym (map_with (placed 0 rows) (length rows ∷ []) v (placed_sorted 0 rows))
    ∙ ap (λ es. from_sorted es)
    (sym (with_entry_new (placed 0 rows) (length rows ∷ []) v (length rows) (gap_behind rows (length rows) (omega arith)))
    ∙ ap (λ m. insert_at (placed 0 rows) (length rows) (m ∷ [], v)) (let e : length rows ≡ 0 + length rows = omega arith in e)
    ∙ insert_placed 0 rows v)

zeros_behind : (n : ℕ) (rows : List (List ℕ)) (w : ℕ) → zeros_from n (length rows) w (placed_contents rows) ≡ placed_contents (rows ++ replicate n (replicate w 0))
zeros_behind zero rows w = ap placed_contents (sym (append-nil rows))
zeros_behind (suc n) rows w =
    ap (zeros_from n (suc (length rows)) w) (placed_push rows (replicate w 0))
    ∙ ap (λ m. zeros_from n m w (placed_contents (rows ++ replicate w 0 ∷ []))) (let e = length_push rows (replicate w 0) in let s : suc (length rows) ≡ length (rows ++ replicate w 0 ∷ []) = omega arith in s)
    ∙ zeros_behind n (rows ++ replicate w 0 ∷ []) w
    ∙ ap placed_contents (append_assoc rows (replicate w 0 ∷ []) (replicate n (replicate w 0)))

pub placed_zeros : (n w : ℕ) → placed_contents (replicate n (replicate w 0)) ≡ zeros_from n 0 w empty
unfolding placed
placed_zeros n w = sym (ap (zeros_from n 0 w) (sym (map_empty (from_sorted []) refl)) ∙ zeros_behind n [] w)

-- ---- a key and its place
pub there : (rows : List (List ℕ)) (key : List ℕ) (p : ℕ) → key ≡ p ∷ [] → get (placed_contents rows) key ≡ slice_get rows p
there rows key p is = ap (get (placed_contents rows)) is ∙ placed_get rows (p ∷ [])

pub nowhere : (rows : List (List ℕ)) (key : List ℕ) → ((k : ℕ) → key ≡ k ∷ [] → length rows ≤ k) → get (placed_contents rows) key ≡ None
nowhere rows [] past = placed_get rows []
nowhere rows (k ∷ []) past = placed_get rows (k ∷ []) ∙ slice_get_past rows k (past k refl)
nowhere rows (k ∷ m ∷ ks) past = placed_get rows (k ∷ m ∷ ks)

full_by : (rows : List (List ℕ)) (key : List ℕ) → get (placed_contents rows) key ≡ None → is_full_at (length rows) (placed_contents rows) key ≡ true
full_by rows key none =
    (λ i. not (is_some (none i)) && nat_le (length rows) (placed_len rows i)) ∙ le-leb (length rows) (length rows) (omega arith)

not_full_by : (rows : List (List ℕ)) (key v : List ℕ) → get (placed_contents rows) key ≡ Some v → is_full_at (length rows) (placed_contents rows) key ≡ false
not_full_by rows key v some = λ i. not (is_some (some i)) && nat_le (length rows) (len (placed_contents rows))

some_there : (rows : List (List ℕ)) (p : ℕ) → p < length rows → slice_get rows p ≡ Some (get_or rows p [])
some_there [] p lt = absurd (omega arith)
some_there (r ∷ rows) zero lt = refl
some_there (r ∷ rows) (suc p) lt = some_there rows p (omega arith)

module _ (keys values : List ℕ) (rows : List (List ℕ)) (key v : List ℕ) where
  abbrev before : Fitted
  before = placed_rows keys values rows

  pub full_answer : fits_row before key v ≡ true → ((k : ℕ) → key ≡ k ∷ [] → length rows ≤ k) → Full ≡ keep_answer before key v
  full_answer fit past =
      let full = full_by rows key (nowhere rows key past) in
      λ i. cond (sym fit i) (cond (sym full i) Full Stored) Misfit

  pub full_after : fits_row before key v ≡ true → ((k : ℕ) → key ≡ k ∷ [] → length rows ≤ k) → before ≡ kept_row before key v
  full_after fit past =
      let full = full_by rows key (nowhere rows key past) in
      λ i. cond (sym fit i) (cond (sym full i) before (record before { contents = insert (placed_contents rows) key v })) before

  module _ (p : ℕ) (is : key ≡ p ∷ []) (lt : p < length rows) where
    not_full : is_full_at (length rows) (placed_contents rows) key ≡ false
    not_full = not_full_by rows key (get_or rows p []) (there rows key p is ∙ some_there rows p lt)

    pub stored_answer : fits_row before key v ≡ true → Stored ≡ keep_answer before key v
    stored_answer fit = λ i. cond (sym fit i) (cond (sym not_full i) Full Stored) Misfit

    pub stored_after : fits_row before key v ≡ true → placed_rows keys values (set rows p v) ≡ kept_row before key v
    stored_after fit =
        ap₂ (λ (n : ℕ) (m : Contents). record { keys = keys; values = values; capacity = n; contents = m }) (length-set rows p v)
        (placed_set rows p v lt ∙ ap (λ k. insert (placed_contents rows) k v) (sym is))
        ∙ (λ i. cond (sym fit i) (cond (sym not_full i) before (record before { contents = insert (placed_contents rows) key v })) before)

-- ---- rows one by one
pub rows_more : (rows rows' w : List Row) (es : Entries) (i : ℕ) (row : Row) → i < length es → row ≡ row_of (get_or es i ([], [])) → rows' ≡ rows ++ row ∷ []
    → rows ++ rows_from (drop i es) ≡ w → rows' ++ rows_from (drop (i + 1) es) ≡ w
rows_more rows rows' w es i row lt is e so_far =
    ap (λ l. l ++ rows_from (drop (i + 1) es)) e ∙ append_assoc rows (row ∷ []) (rows_from (drop (i + 1) es))
    ∙ ap (λ r. rows ++ r ∷ rows_from (drop (i + 1) es)) is
    ∙ ap (λ l. rows ++ rows_from l) (sym (drop_more es i ([], []) lt)) ∙ so_far

pub rows_all : (rows w : List Row) (es : Entries) (i : ℕ) → length es ≤ i → rows ++ rows_from (drop i es) ≡ w → rows ≡ w
rows_all rows w es i le e = sym (append-nil rows) ∙ ap (λ l. rows ++ rows_from l) (sym (drop_all i es le)) ∙ e

pub entries_more : (fs gs es : Entries) (i : ℕ) (row : Row) → i < length es → row ≡ row_of (get_or es i ([], [])) → gs ≡ fs ++ (row.keys, row.values) ∷ []
    → fs ≡ take i es → gs ≡ take (i + 1) es
entries_more fs gs es i row lt is e so_far =
    e ∙ (λ k. so_far k ++ ((is k).keys, (is k).values) ∷ []) ∙ sym (take_more es i ([], []) lt)

-- a key of one number
pub only_number : (key : List ℕ) (p : ℕ) → length key ≡ 1 → p ≡ get_or key 0 0 → key ≡ p ∷ []
only_number [] p one is = absurd (omega arith)
only_number (k ∷ []) p one is = ap (λ n. n ∷ []) (sym is)
only_number (k ∷ m ∷ ks) p one is = absurd (omega arith)

-- the row at a place
pub placed_at : (i p : ℕ) (rows : List (List ℕ)) (v : List ℕ) → slice_get rows p ≡ Some v → get_or (placed i rows) p ([], []) ≡ ((i + p) ∷ [], v)
unfolding placed
placed_at i p [] v is = absurd (none-some v is)
placed_at i zero (r ∷ rows) v is = ap₂ (λ (n : ℕ) (x : List ℕ). (n ∷ [], x)) (let e : i ≡ i + 0 = omega arith in e) (same_Some r v is)
placed_at i (suc p) (r ∷ rows) v is = placed_at (suc i) p rows v is ∙ ap (λ (n : ℕ). (n ∷ [], v)) (let e : suc i + p ≡ i + suc p = omega arith in e)

pub row_placed : (rows : List (List ℕ)) (p : ℕ) (key v : List ℕ) → key ≡ p ∷ [] → slice_get rows p ≡ Some v
    → ◌≡◌ {A = Row} (record { keys = key; values = v }) (row_of (get_or (entries (placed_contents rows)) p ([], [])))
row_placed rows p key v is got =
    ap (λ k. record { keys = k; values = v }) (is ∙ ap (λ n. n ∷ []) (let e : p ≡ 0 + p = omega arith in e))
    ∙ ap row_of (sym (ap (λ es. get_or es p ([], [])) (placed_entries rows) ∙ placed_at 0 p rows v got))

pub placed_found : (rows : List (List ℕ)) (p : ℕ) (key : List ℕ) (row : Row) → key ≡ p ∷ [] → p < length rows → row ≡ row_of (get_or (entries (placed_contents rows)) p ([], []))
    → Some row.values ≡ get (placed_contents rows) key
placed_found rows p key row is lt e =
    let got = some_there rows p lt in
    ap (λ r. Some r.values) (e ∙ ap row_of (ap (λ es. get_or es p ([], [])) (placed_entries rows) ∙ placed_at 0 p rows (get_or rows p []) got))
    ∙ sym (there rows key p is ∙ got)
