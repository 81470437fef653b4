-- The rows that slots hold, one by one, are the entries of a table in another order.
use Rattle.std.proofs.Common.{◌≡◌, ℕ, zero, suc, ◌+◌, ◌<◌, ◌≤◌, Bool, true, false, cond, List, [], ◌∷◌, ◌++◌, length, take, drop, Option, Some, None, IfSome, refl, sym, ap, ap₂, subst, ◌∙◌, arith}
use Rattle.std.specs.Prelude.{⊤}
use Rattle.std.specs.List.Sorted.{IsPermutation}
use Rattle.std.specs.Ordering.{eq_by_cmp, is_eq}
use Rattle.std.specs.declared.cmp.Ordering.{Ordering}
use Rattle.std.specs.declared.cmp.Ordering.TheVariants.{Less, Equal, Greater}
use Rattle.std.specs.FinMap.{find, get, entries, insert, from_entries, get-from_entries, entries-insert, get-entries, same_map, len, len-entries, from_entries_push}
use Rattle.std.specs.FinMap.Entries.{by_order}
use Rattle.std.proofs.lemmas.Cmp.{nat_list_cmp_total}
use Rattle.std.proofs.lemmas.List.{take_all}
use Rattle.std.proofs.lemmas.List.Sorted.{IsPermutation-refl, IsPermutation-cons, IsPermutation-trans, IsPermutation-sym, IsPermutation-middle, length_permutation}
use Rattle.std.proofs.lemmas.Map.Lookups.{exact_bytes}
use Rattle.slot_table.specs.Table.{Entry, Contents, Slots, held, IsLaidOut}
use Rattle.state_store.specs.Places.{Entries, with_entry}
use Rattle.state_store.specs.Sizes.{slot_rows, with_slot}
use Rattle.state_store.specs.Store.{key_cmp}
use Rattle.state_store.proofs.Entries.{no_entries}
use Rattle.lemmas.proofs.Tests.{eq_equal}
use Rattle.state_store.proofs.LawLemmas.{itself}

-- no key stands in two slots
abbrev pub IsOnce : Slots → Type 0
IsOnce s = (i j : ℕ) (k v w : List ℕ) → held s i ≡ Some (k, v) → held s j ≡ Some (k, w) → i ≡ j

tail_once : (x : Option Entry) (s : Slots) → IsOnce (x ∷ s) → IsOnce s
tail_once x s once i j k v w a b = let e = once (suc i) (suc j) k v w a b in omega arith

same_key : (k q : List ℕ) → eq_by_cmp key_cmp k q ≡ true → k ≡ q
same_key k q e = exact_bytes k q (eq_equal (key_cmp k q) e)

-- what is found stands in a slot
pub found : (s : Slots) (k v : List ℕ) → find key_cmp k (slot_rows s) ≡ Some v → (i : ℕ) × (held s i ≡ Some (k, v))
found [] k v e = absurd (cc)
found (None ∷ s) k v e = let at = found s k v e in (suc at.0, at.1)
found (Some row ∷ s) k v e = go (eq_by_cmp key_cmp k row.0) refl e (found s k v)
  where
    go : (b : Bool) → eq_by_cmp key_cmp k row.0 ≡ b → cond b (Some row.1) (find key_cmp k (slot_rows s)) ≡ Some v
        → (find key_cmp k (slot_rows s) ≡ Some v → (i : ℕ) × (held s i ≡ Some (k, v))) → (i : ℕ) × (held (Some row ∷ s) i ≡ Some (k, v))
    go true is h rest = (zero, let value : row.1 ≡ v = cc in ap₂ (λ (x y : List ℕ). Some (x, y)) (sym (same_key k row.0 is)) value)
    go false is h rest = let at = rest h in (suc at.0, at.1)

-- what stands in a slot is found
pub stands : (s : Slots) (i : ℕ) (k v : List ℕ) → IsOnce s → held s i ≡ Some (k, v) → find key_cmp k (slot_rows s) ≡ Some v
stands [] i k v once e = absurd (cc)
stands (None ∷ s) zero k v once e = absurd (cc)
stands (None ∷ s) (suc i) k v once e = stands s i k v (tail_once None s once) e
stands (Some row ∷ s) zero k v once e =
    let key : row.0 ≡ k = cc in
    let value : row.1 ≡ v = cc in
    ap (λ q. cond (eq_by_cmp key_cmp k q) (Some row.1) (find key_cmp k (slot_rows s))) key ∙ ap (λ b. cond b (Some row.1) (find key_cmp k (slot_rows s))) (itself k) ∙ ap (λ x. Some x) value
stands (Some row ∷ s) (suc i) k v once e = go (eq_by_cmp key_cmp k row.0) refl (stands s i k v (tail_once (Some row) s once) e)
  where
    go : (b : Bool) → eq_by_cmp key_cmp k row.0 ≡ b → find key_cmp k (slot_rows s) ≡ Some v → cond b (Some row.1) (find key_cmp k (slot_rows s)) ≡ Some v
    go true is rest =
        let first : held (Some row ∷ s) 0 ≡ Some (k, row.1) = ap (λ (x : List ℕ). Some (x, row.1)) (sym (same_key k row.0 is)) in
        let twice : 0 ≡ suc i = once 0 (suc i) k row.1 v first e in absurd (omega arith)
    go false is rest = rest

pub find_is : (rows : Contents) (s : Slots) (k : List ℕ) → IsLaidOut rows s → find key_cmp k (slot_rows s) ≡ get rows k
find_is rows s k laid = go (get rows k) (find key_cmp k (slot_rows s)) refl refl
  where
    go : (there here : Option (List ℕ)) → get rows k ≡ there → find key_cmp k (slot_rows s) ≡ here → find key_cmp k (slot_rows s) ≡ get rows k
    go (Some v) here e f = let at = laid.stands k v e in stands s at.0 k v laid.once at.2 ∙ sym e
    go None None e f = f ∙ sym e
    go None (Some v) e f = let at = found s k v f in absurd (let there = laid.holds at.0 k v at.1 in let apart : None ≡ Some v = sym e ∙ there in cc)

-- no key stands twice in a list
abbrev pub AreApart : Entries → Type 0
AreApart [] = ⊤
AreApart (e ∷ es) = (find key_cmp e.0 es ≡ None) × AreApart es

apart : (s : Slots) → IsOnce s → AreApart (slot_rows s)
apart [] once = tt
apart (None ∷ s) once = apart s (tail_once None s once)
apart (Some row ∷ s) once = (go (find key_cmp row.0 (slot_rows s)) refl, apart s (tail_once (Some row) s once))
  where
    go : (o : Option (List ℕ)) → find key_cmp row.0 (slot_rows s) ≡ o → find key_cmp row.0 (slot_rows s) ≡ None
    go None e = e
    go (Some v) e = let at = found s row.0 v e in let twice : 0 ≡ suc at.0 = once 0 (suc at.0) row.0 row.1 v refl at.1 in absurd (omega arith)

-- the map of all rows
pub map_is : (rows : Contents) (s : Slots) → IsLaidOut rows s → from_entries (slot_rows s) ≡ rows
map_is rows s laid = same_map nat_list_cmp_total exact_bytes _ rows (λ q. get-from_entries nat_list_cmp_total (slot_rows s) q ∙ find_is rows s q laid)

-- a new entry stands somewhere among the others
put_moves : (k v : List ℕ) (es : Entries) → find key_cmp k es ≡ None → IsPermutation ((k, v) ∷ es) (with_entry es k v)
put_moves k v [] none = IsPermutation-refl _
put_moves k v (e ∷ es) none = go (key_cmp k e.0) refl none (put_moves k v es)
  where
    go : (o : Ordering) → key_cmp k e.0 ≡ o → cond (is_eq o) (Some e.1) (find key_cmp k es) ≡ None → (find key_cmp k es ≡ None → IsPermutation ((k, v) ∷ es) (with_entry es k v))
        → IsPermutation ((k, v) ∷ e ∷ es) (by_order (key_cmp k e.0) ((k, v) ∷ e ∷ es) ((e.0, v) ∷ es) (e ∷ with_entry es k v))
    go Less is h rest = subst (λ o. IsPermutation ((k, v) ∷ e ∷ es) (by_order o ((k, v) ∷ e ∷ es) ((e.0, v) ∷ es) (e ∷ with_entry es k v))) (sym is) (IsPermutation-refl _)
    go Equal is h rest = absurd (cc)
    go Greater is h rest =
        let swapped : IsPermutation ((k, v) ∷ e ∷ es) (e ∷ (k, v) ∷ es) = IsPermutation-sym _ _ (IsPermutation-middle (e ∷ []) (k, v) es) in
        let behind : IsPermutation (e ∷ (k, v) ∷ es) (e ∷ with_entry es k v) = IsPermutation-cons e _ _ (rest h) in
        subst (λ o. IsPermutation ((k, v) ∷ e ∷ es) (by_order o ((k, v) ∷ e ∷ es) ((e.0, v) ∷ es) (e ∷ with_entry es k v))) (sym is) (IsPermutation-trans _ _ _ swapped behind)

moves : (es : Entries) → AreApart es → IsPermutation es (entries (from_entries {R = key_cmp} es))
moves [] apart = subst (IsPermutation []) (sym no_entries) (IsPermutation-refl [])
moves (e ∷ es) apart =
    let inner = IsPermutation-cons e es _ (moves es apart.1) in
    let none : find key_cmp e.0 (entries (from_entries {R = key_cmp} es)) ≡ None = sym (get-entries (from_entries es) e.0) ∙ get-from_entries nat_list_cmp_total es e.0 ∙ apart.0 in
    subst (IsPermutation (e ∷ es)) (sym (entries-insert nat_list_cmp_total (from_entries es) e.0 e.1)) (IsPermutation-trans _ _ _ inner (put_moves e.0 e.1 _ none))

pub slots_permute : (rows : Contents) (s : Slots) → IsLaidOut rows s → IsPermutation (slot_rows s) (entries rows)
slots_permute rows s laid = subst (λ m. IsPermutation (slot_rows s) (entries m)) (map_is rows s laid) (moves (slot_rows s) (apart s laid.once))

pub slots_count : (rows : Contents) (s : Slots) → IsLaidOut rows s → length (slot_rows s) ≡ len rows
slots_count rows s laid = sym (length_permutation _ _ (slots_permute rows s laid)) ∙ sym (len-entries rows)

-- ---- slot by slot
pub row_at : (s : Slots) (i : ℕ) (row : Entry) → i < length s → held s i ≡ Some row → slot_rows (drop i s) ≡ row ∷ slot_rows (drop (i + 1) s)
row_at [] i row lt e = absurd (omega arith)
row_at (x ∷ s) zero row lt e = first x e
  where
    first : (x : Option Entry) → x ≡ Some row → slot_rows (x ∷ s) ≡ row ∷ slot_rows s
    first None e = absurd (cc)
    first (Some r) e = let is : r ≡ row = cc in ap (λ z. z ∷ slot_rows s) is
row_at (x ∷ s) (suc i) row lt e = let n : suc i + 1 ≡ suc (i + 1) = omega arith in rw n (row_at s i row (omega arith) e)

pub gap_at : (s : Slots) (i : ℕ) → i < length s → held s i ≡ None → slot_rows (drop i s) ≡ slot_rows (drop (i + 1) s)
gap_at [] i lt e = absurd (omega arith)
gap_at (x ∷ s) zero lt e = first x e
  where
    first : (x : Option Entry) → x ≡ None → slot_rows (x ∷ s) ≡ slot_rows s
    first None e = refl
    first (Some r) e = absurd (cc)
gap_at (x ∷ s) (suc i) lt e = let n : suc i + 1 ≡ suc (i + 1) = omega arith in rw n (gap_at s i (omega arith) e)

-- ---- the rows of the first slots
taken : (s : Slots) (i j : ℕ) (row : Entry) → held (take i s) j ≡ Some row → (held s j ≡ Some row) × (j < i)
taken [] zero j row e = absurd (cc)
taken [] (suc i) j row e = absurd (cc)
taken (x ∷ s) zero j row e = absurd (cc)
taken (x ∷ s) (suc i) zero row e = (e, omega arith)
taken (x ∷ s) (suc i) (suc j) row e = let rest = taken s i j row e in (rest.0, let lt = rest.1 in omega arith)

taken_once : (s : Slots) (i : ℕ) → IsOnce s → IsOnce (take i s)
taken_once s i once a b k v w p q = once a b k v w (taken s i a (k, v) p).0 (taken s i b (k, w) q).0

taken_row : (s : Slots) (i : ℕ) (row : Entry) → i < length s → held s i ≡ Some row → slot_rows (take (i + 1) s) ≡ slot_rows (take i s) ++ row ∷ []
taken_row [] i row lt e = absurd (omega arith)
taken_row (x ∷ s) zero row lt e = first x e
  where
    first : (x : Option Entry) → x ≡ Some row → slot_rows (x ∷ []) ≡ row ∷ []
    first None e = absurd (cc)
    first (Some r) e = let is : r ≡ row = cc in ap (λ z. z ∷ []) is
taken_row (x ∷ s) (suc i) row lt e = let n : suc i + 1 ≡ suc (i + 1) = omega arith in rw n (behind x (taken_row s i row (omega arith) e))
  where
    behind : (x : Option Entry) → slot_rows (take (i + 1) s) ≡ slot_rows (take i s) ++ row ∷ [] → slot_rows (x ∷ take (i + 1) s) ≡ slot_rows (x ∷ take i s) ++ row ∷ []
    behind None h = h
    behind (Some r) h = ap (λ l. r ∷ l) h

pub taken_gap : (s : Slots) (i : ℕ) → i < length s → held s i ≡ None → slot_rows (take (i + 1) s) ≡ slot_rows (take i s)
taken_gap [] i lt e = absurd (omega arith)
taken_gap (x ∷ s) zero lt e = first x e
  where
    first : (x : Option Entry) → x ≡ None → slot_rows (x ∷ []) ≡ []
    first None e = refl
    first (Some r) e = absurd (cc)
taken_gap (x ∷ s) (suc i) lt e = let n : suc i + 1 ≡ suc (i + 1) = omega arith in rw n (behind x (taken_gap s i (omega arith) e))
  where
    behind : (x : Option Entry) → slot_rows (take (i + 1) s) ≡ slot_rows (take i s) → slot_rows (x ∷ take (i + 1) s) ≡ slot_rows (x ∷ take i s)
    behind None h = h
    behind (Some r) h = ap (λ l. r ∷ l) h

-- a key hasn't been met before its slot
fresh : (s : Slots) (i : ℕ) (row : Entry) → IsOnce s → held s i ≡ Some row → find key_cmp row.0 (slot_rows (take i s)) ≡ None
fresh s i row once e = go (find key_cmp row.0 (slot_rows (take i s))) refl
  where
    go : (o : Option (List ℕ)) → find key_cmp row.0 (slot_rows (take i s)) ≡ o → find key_cmp row.0 (slot_rows (take i s)) ≡ None
    go None is = is
    go (Some v) is =
        let at = found (take i s) row.0 v is in
        let here = taken s i at.0 (row.0, v) at.1 in
        let below : at.0 < i = here.1 in
        let same : at.0 ≡ i = once at.0 i row.0 v row.1 here.0 e in
        absurd (omega arith)

-- one row more is copied
pub copied_more : (rows m : Contents) (s : Slots) (i : ℕ) (row : Entry) → IsLaidOut rows s → i < length s → held s i ≡ Some row → m ≡ from_entries (slot_rows (take i s)) → insert m row.0 row.1 ≡ from_entries (slot_rows (take (i + 1) s))
copied_more rows m s i row laid lt e is =
    ap (λ x. insert x row.0 row.1) is ∙ sym (from_entries_push nat_list_cmp_total exact_bytes (slot_rows (take i s)) row.0 row.1 (fresh s i row laid.once e)) ∙ ap (λ l. from_entries l) (sym (taken_row s i row lt e))

halves : (s : Slots) (i : ℕ) → length (slot_rows (take i s)) + length (slot_rows (drop i s)) ≡ length (slot_rows s)
halves [] zero = refl
halves [] (suc i) = refl
halves (x ∷ s) zero = omega arith
halves (None ∷ s) (suc i) = halves s i
halves (Some row ∷ s) (suc i) = let rest = halves s i in omega arith

-- there is room for it
pub copied_fewer : (rows m : Contents) (s : Slots) (i : ℕ) (row : Entry) → IsLaidOut rows s → i < length s → held s i ≡ Some row → m ≡ from_entries (slot_rows (take i s)) → len m < len rows
copied_fewer rows m s i row laid lt e is =
    let so_far : len m ≡ length (slot_rows (take i s)) = ap len is ∙ len-entries (from_entries (slot_rows (take i s))) ∙ length_permutation _ _ (moves (slot_rows (take i s)) (apart (take i s) (taken_once s i laid.once))) in
    let all = slots_count rows s laid in
    let parts = halves s i in
    let next : length (slot_rows (drop i s)) ≡ suc (length (slot_rows (drop (i + 1) s))) = ap length (row_at s i row lt e) in
    omega arith

pub copied_all : (rows m : Contents) (s : Slots) (i : ℕ) → IsLaidOut rows s → length s ≤ i → m ≡ from_entries (slot_rows (take i s)) → m ≡ rows
copied_all rows m s i laid le is = is ∙ ap (λ l. from_entries (slot_rows l)) (take_all i s le) ∙ map_is rows s laid

pub slot_copied : (rows m m' : Contents) (s : Slots) (i : ℕ) (o : Option Entry) → IsLaidOut rows s → i < length s → o ≡ held s i → m ≡ from_entries (slot_rows (take i s)) → m' ≡ with_slot m o → m' ≡ from_entries (slot_rows (take (i + 1) s))
slot_copied rows m m' s i None laid lt e is w = w ∙ is ∙ ap (λ l. from_entries l) (sym (taken_gap s i lt (sym e)))
slot_copied rows m m' s i (Some row) laid lt e is w = w ∙ copied_more rows m s i row laid lt (sym e) is

pub slot_fits : (rows m : Contents) (s : Slots) (i capacity : ℕ) (o : Option Entry) → IsLaidOut rows s → i < length s → o ≡ held s i → m ≡ from_entries (slot_rows (take i s)) → len rows ≤ capacity → IfSome o (λ _. len m < capacity)
slot_fits rows m s i capacity None laid lt e is within = tt
slot_fits rows m s i capacity (Some row) laid lt e is within = let fewer = copied_fewer rows m s i row laid lt (sym e) is in omega arith
