-- The rows of several tables over one another.
use Rattle.std.proofs.Common.{◌≡◌, ℕ, Bool, true, false, cond, List, [], ◌∷◌, Option, Some, None, is_some, refl, sym, ap, ◌∙◌}
use Rattle.std.specs.Prelude.{T}
use Rattle.std.specs.Ordering.{eq_by_cmp}
use Rattle.std.specs.FinMap.{find, is_sorted, get, insert, remove, empty, entries, entries_sorted, get-empty, get-entries, get-insert, get-remove, same_map}
use Rattle.std.specs.FinMap.Entries.{below_all}
use Rattle.std.proofs.lemmas.Cmp.{nat_list_cmp_total}
use Rattle.std.proofs.lemmas.Map.Lookups.{exact_bytes}
use Rattle.state_store.specs.Store.{Contents, Object, key_cmp, is_full, is_out, put_answer, put_row, rows_from, with_rows}
use Rattle.state_store.specs.declared.store.Put.TheVariants.{Stored, Full, OutOfRange}
use Rattle.writeback_table.specs.Pair.{with_staged}
use Rattle.writeback_table.specs.Seen.{without_rows}
use Rattle.writeback_table.specs.Staging.{joined}
use Rattle.writeback_table.proofs.Slots.{over, get_with_staged}
use Rattle.writeback_table.proofs.Joins.{both, get_joined}
use Rattle.lemmas.proofs.Tests.{T_first, T_second, eq_equal, less_not_equal}

abbrev Entries : Type 0
Entries = List (List ℕ × List ℕ)

-- ---- one row put in
pub stored_put : (o : Object) (k v : List ℕ) → put_answer o k ≡ Stored → (put_row o k v).contents ≡ insert o.contents k v
stored_put o k v e = go (is_out o.kind o.size k) (is_full o k) e
  where
    go : (a b : Bool) → cond a OutOfRange (cond b Full Stored) ≡ Stored
        → (cond a o (cond b o (record o { contents = insert o.contents k v }))).contents ≡ insert o.contents k v
    go true b h = absurd (cc)
    go false true h = absurd (cc)
    go false false h = refl

-- ---- rows put over a table, and taken out of it
abbrev first_of_two : Option (List ℕ) → Option (List ℕ) → Option (List ℕ)
first_of_two (Some v) below = Some v
first_of_two None below = below

-- a key below all others stands once
once : (k : List ℕ) (es : Entries) → T (below_all key_cmp k es) → find key_cmp k es ≡ None
once k [] h = refl
once k (e ∷ es) h =
    let apart = less_not_equal (key_cmp k e.0) (T_first _ _ h) in ap (λ b. cond b (Some e.1) (find key_cmp k es)) apart ∙ once k es (T_second _ _ h)

either_way : (b : Bool) (v : List ℕ) (rest below : Option (List ℕ)) → (b ≡ true → rest ≡ None) → first_of_two rest (cond b (Some v) below) ≡ first_of_two (cond b (Some v) rest) below
either_way true v rest below h = ap (λ x. first_of_two x (Some v)) (h refl)
either_way false v rest below h = refl

pub get_with_rows : (es : Entries) → T (is_sorted key_cmp es) → (m : Contents) (q : List ℕ) → get (with_rows (rows_from es) m) q ≡ first_of_two (find key_cmp q es) (get m q)
get_with_rows [] h m q = refl
get_with_rows (e ∷ es) h m q =
    get_with_rows es (T_second _ _ h) (insert m e.0 e.1) q
    ∙ ap (first_of_two (find key_cmp q es)) (get-insert nat_list_cmp_total m e.0 e.1 q)
    ∙ either_way (eq_by_cmp key_cmp q e.0) e.1 (find key_cmp q es) (get m q) (λ same. ap (λ k. find key_cmp k es) (exact_bytes q e.0 (eq_equal (key_cmp q e.0) same)) ∙ once e.0 es (T_first _ _ h))

gone_first : (b : Bool) (v : List ℕ) (rest below : Option (List ℕ)) → cond (is_some rest) None (cond b None below) ≡ cond (is_some (cond b (Some v) rest)) None below
gone_first true v (Some r) below = refl
gone_first true v None below = refl
gone_first false v rest below = refl

pub get_without_rows : (es : Entries) (m : Contents) (q : List ℕ) → get (without_rows (rows_from es) m) q ≡ cond (is_some (find key_cmp q es)) None (get m q)
get_without_rows [] m q = refl
get_without_rows (e ∷ es) m q =
    get_without_rows es (remove m e.0) q
    ∙ ap (cond (is_some (find key_cmp q es)) None) (get-remove nat_list_cmp_total m e.0 q)
    ∙ gone_first (eq_by_cmp key_cmp q e.0) e.1 (find key_cmp q es) (get m q)

-- the rows of a table put into none are the table
first_none : (x : Option (List ℕ)) → first_of_two x None ≡ x
first_none (Some v) = refl
first_none None = refl

pub all_again : (m : Contents) → with_rows (rows_from (entries m)) empty ≡ m
all_again m = same_map nat_list_cmp_total exact_bytes _ _ (λ q.
    get_with_rows (entries m) (entries_sorted m) empty q ∙ ap (first_of_two (find key_cmp q (entries m))) (get-empty key_cmp q)
    ∙ first_none (find key_cmp q (entries m)) ∙ sym (get-entries m q))

-- to take out the keys that are to be gone and then put in the values that are staged is to write over what is staged
two_ways : (x y below : Option (List ℕ)) → first_of_two x (cond (is_some y) None below) ≡ over (both x y) below
two_ways (Some v) y below = refl
two_ways None (Some w) below = refl
two_ways None None below = refl

pub written_over : (values gone m : Contents) → with_rows (rows_from (entries values)) (without_rows (rows_from (entries gone)) m) ≡ with_staged (entries (joined values gone)) m
written_over values gone m = same_map nat_list_cmp_total exact_bytes _ _ (λ q.
    get_with_rows (entries values) (entries_sorted values) (without_rows (rows_from (entries gone)) m) q
    ∙ ap (first_of_two (find key_cmp q (entries values))) (get_without_rows (entries gone) m q)
    ∙ two_ways (find key_cmp q (entries values)) (find key_cmp q (entries gone)) (get m q)
    ∙ (λ i. over (both (sym (get-entries values q) i) (sym (get-entries gone q) i)) (get m q))
    ∙ ap (λ x. over x (get m q)) (sym (get_joined values gone q) ∙ get-entries (joined values gone) q)
    ∙ sym (get_with_staged (entries (joined values gone)) m q))
