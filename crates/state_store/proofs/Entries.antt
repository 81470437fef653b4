-- What an edit at a place of sorted entries does, and what their finite map then has.
use Rattle.std.proofs.Common.{◌≡◌, ℕ, zero, suc, ◌+◌, Bool, true, false, cond, not, T, List, [], ◌∷◌, length, get_or, set, Option, Some, None, is_some, refl, sym, ap, ◌∙◌, arith, true≢false}
use Rattle.std.specs.declared.cmp.Ordering.TheVariants.{Less, Equal}
use Rattle.std.specs.List.{insert as insert_at, remove as remove_at}
use Rattle.std.specs.Ordering.{eq_by_cmp, is_eq}
use Rattle.std.specs.Cmp.{eq_by_cmp_equiv, alike_right}
use Rattle.std.specs.FinMap.{find, put, get, len, empty, entries, insert, remove, from_sorted, same_entries_map, entries-from_sorted, entries-insert, get-from_sorted, len-entries, get-remove, same_map, empty_of_len}
use Rattle.std.specs.FinMap.Entries.{where_key, below_all, is_sorted-put, is_sorted-where_key, find-where_key, length-put}
use Rattle.std.proofs.lemmas.Cmp.{nat_list_cmp_total}
use Rattle.std.proofs.lemmas.Map.Lookups.{exact_bytes}
use Rattle.std.proofs.lemmas.List.Edits.{length-insert}
use Rattle.state_store.specs.Store.{key_cmp, Contents}
use Rattle.state_store.specs.Places.{Entries, key_at, IsSorted, IsPlaceOf, IsGapFor, with_entry}
use Rattle.lemmas.proofs.Tests.{T_first, T_second, eq_equal, lt_less}

-- a place of a key beyond the first is a place of it in the rest
place_tail : (e : List ℕ × List ℕ) (es : Entries) (k : List ℕ) (i : ℕ) → IsPlaceOf (e ∷ es) k (suc i) → IsPlaceOf es k i
place_tail e es k i p = record { in_range = omega (arith, p.in_range); before = λ j lt. p.before (suc j) (omega arith); here = p.here }

gap_tail : (e : List ℕ × List ℕ) (es : Entries) (k : List ℕ) (i : ℕ) → IsGapFor (e ∷ es) k (suc i) → IsGapFor es k i
gap_tail e es k i p = record { in_range = omega (arith, p.in_range); before = λ j lt. p.before (suc j) (omega arith); next = λ lt. p.next (omega arith) }

-- new values at the place of a key
pub with_entry_here : (es : Entries) (k v : List ℕ) (i : ℕ) → IsPlaceOf es k i → set es i (key_at es i, v) ≡ with_entry es k v
with_entry_here [] k v i p = absurd (omega (arith, p.in_range))
with_entry_here (e ∷ es) k v zero p = rw p.here refl
with_entry_here (e ∷ es) k v (suc i) p = rw (p.before 0 (omega arith)) (ap (λ l. e ∷ l) (with_entry_here es k v i (place_tail e es k i p)))

-- a new entry in the gap for a key
pub with_entry_new : (es : Entries) (k v : List ℕ) (i : ℕ) → IsGapFor es k i → insert_at es i (k, v) ≡ with_entry es k v
with_entry_new [] k v zero p = refl
with_entry_new [] k v (suc i) p = absurd (omega (arith, p.in_range))
with_entry_new (e ∷ es) k v zero p = rw (p.next (omega arith)) refl
with_entry_new (e ∷ es) k v (suc i) p = rw (p.before 0 (omega arith)) (ap (λ l. e ∷ l) (with_entry_new es k v i (gap_tail e es k i p)))

-- the values that stand at the place of a key
pub find_here : (es : Entries) (k : List ℕ) (i : ℕ) (d : List ℕ × List ℕ) → IsPlaceOf es k i → find key_cmp k es ≡ Some (get_or es i d).1
find_here [] k i d p = absurd (omega (arith, p.in_range))
find_here (e ∷ es) k zero d p = rw p.here refl
find_here (e ∷ es) k (suc i) d p = rw (p.before 0 (omega arith)) (find_here es k i d (place_tail e es k i p))

none_from : (o : Option (List ℕ)) (n : ℕ) → cond (is_some o) n (n + 1) ≡ n + 1 → o ≡ None
none_from None n e = refl
none_from (Some x) n e = absurd (omega (arith, e))

-- a key with a gap has no entry
pub find_gap : (es : Entries) (k : List ℕ) (i : ℕ) → IsSorted es → IsGapFor es k i → find key_cmp k es ≡ None
find_gap es k i sorted p =
    none_from _ (length es) (sym (length-put key_cmp nat_list_cmp_total k [] es sorted) ∙ ap length (sym (with_entry_new es k [] i p)) ∙ length-insert es i (k, []) p.in_range)

abbrev pub others : List ℕ → Entries → Entries
others k es = where_key key_cmp (λ x. not (eq_by_cmp key_cmp k x)) es

all_others : (k x : List ℕ) (es : Entries) → key_cmp k x ≡ Equal → T (below_all key_cmp x es) → others k es ≡ es
all_others k x [] t h = refl
all_others k x (e ∷ es) t h =
    let less : key_cmp k e.0 ≡ Less = nat_list_cmp_total.congr k x e.0 t ∙ lt_less (key_cmp x e.0) (T_first _ _ h) in
    rw less (ap (λ l. e ∷ l) (all_others k x es t (T_second _ _ h)))

-- the entries without that of a key
pub remove_here : (es : Entries) (k : List ℕ) (i : ℕ) → IsSorted es → IsPlaceOf es k i → remove_at es i ≡ others k es
remove_here [] k i sorted p = absurd (omega (arith, p.in_range))
remove_here (e ∷ es) k zero sorted p = rw p.here (sym (all_others k e.0 es p.here (T_first _ _ sorted)))
remove_here (e ∷ es) k (suc i) sorted p = rw (p.before 0 (omega arith)) (ap (λ l. e ∷ l) (remove_here es k i (T_second _ _ sorted) (place_tail e es k i p)))

pub others_sorted : (es : Entries) (k : List ℕ) → IsSorted es → IsSorted (others k es)
others_sorted es k sorted = is_sorted-where_key key_cmp _ es sorted

pub sorted_with : (es : Entries) (k v : List ℕ) → IsSorted es → IsSorted (with_entry es k v)
sorted_with es k v sorted = is_sorted-put key_cmp nat_list_cmp_total k v es sorted

-- ---- the finite map of sorted entries
pub map_empty : (m : Contents) → m ≡ from_sorted [] → m ≡ empty
map_empty m e = empty_of_len m (ap len e ∙ len-entries _ ∙ ap length (entries-from_sorted key_cmp [] tt))

pub map_get : (es : Entries) (q : List ℕ) → IsSorted es → get (from_sorted {R = key_cmp} es) q ≡ find key_cmp q es
map_get es q sorted = get-from_sorted key_cmp es q sorted

pub map_len : (es : Entries) → IsSorted es → len (from_sorted {R = key_cmp} es) ≡ length es
map_len es sorted = len-entries _ ∙ ap length (entries-from_sorted key_cmp es sorted)

pub map_with : (es : Entries) (k v : List ℕ) → IsSorted es → from_sorted {R = key_cmp} (with_entry es k v) ≡ insert (from_sorted es) k v
map_with es k v sorted =
    same_entries_map _ _ (entries-from_sorted key_cmp _ (sorted_with es k v sorted)
    ∙ ap (put key_cmp k v) (sym (entries-from_sorted key_cmp es sorted)) ∙ sym (entries-insert nat_list_cmp_total (from_sorted es) k v))

turned : {A : Type 0} (b : Bool) (x y : A) → cond (not b) x y ≡ cond b y x
turned true x y = refl
turned false x y = refl

pub map_without : (es : Entries) (k : List ℕ) → IsSorted es → from_sorted {R = key_cmp} (others k es) ≡ remove (from_sorted es) k
map_without es k sorted = same_map nat_list_cmp_total exact_bytes _ _ (λ q.
    map_get _ q (others_sorted es k sorted)
    ∙ find-where_key key_cmp (λ x. not (eq_by_cmp key_cmp k x)) q (λ x t. ap (λ r. not (is_eq r)) (sym (alike_right nat_list_cmp_total q x k t))) es
    ∙ turned (eq_by_cmp key_cmp k q) (find key_cmp q es) None
    ∙ ap (λ b. cond b None (find key_cmp q es)) ((eq_by_cmp_equiv nat_list_cmp_total).symm k q)
    ∙ sym (get-remove nat_list_cmp_total (from_sorted es) k q ∙ ap (cond (eq_by_cmp key_cmp q k) None) (map_get es q sorted)))

-- a map without a key that it doesn't have is itself
pub map_absent : (m : Contents) (k : List ℕ) → get m k ≡ None → remove m k ≡ m
map_absent m k none = same_map nat_list_cmp_total exact_bytes (remove m k) m (λ q. get-remove nat_list_cmp_total m k q ∙ at q (eq_by_cmp key_cmp q k) refl)
  where
    at : (q : List ℕ) (b : Bool) → eq_by_cmp key_cmp q k ≡ b → cond b None (get m q) ≡ get m q
    at q true e = sym (ap (get m) (exact_bytes q k (eq_equal (key_cmp q k) e)) ∙ none)
    at q false e = refl

pub no_entries : entries (empty {X = List ℕ} {R = key_cmp}) ≡ []
no_entries = ap entries (sym (map_empty (from_sorted []) refl)) ∙ entries-from_sorted key_cmp [] tt

-- entries without a key that they don't have are themselves
pub others_none : (es : Entries) (k : List ℕ) → find key_cmp k es ≡ None → others k es ≡ es
others_none [] k none = refl
others_none (e ∷ es) k none = go (eq_by_cmp key_cmp k e.0) refl none (others_none es k)
  where
    go : (b : Bool) → eq_by_cmp key_cmp k e.0 ≡ b → cond b (Some e.1) (find key_cmp k es) ≡ None → (find key_cmp k es ≡ None → others k es ≡ es) → others k (e ∷ es) ≡ e ∷ es
    go true is h rest = absurd (cc)
    go false is h rest = ap (λ b. cond (not b) (e ∷ others k es) (others k es)) is ∙ ap (λ l. e ∷ l) (rest h)

-- and so is a map
pub map_lacks : (m : Contents) (k : List ℕ) → is_some (get m k) ≡ false → remove m k ≡ m
map_lacks m k lacks = map_absent m k (go (get m k) lacks)
  where
    go : (o : Option (List ℕ)) → is_some o ≡ false → o ≡ None
    go None e = refl
    go (Some v) e = absurd (true≢false e)
