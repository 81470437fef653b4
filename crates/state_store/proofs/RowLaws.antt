-- What is done to rows of words is done to the rows that were packed into them.
use Rattle.std.proofs.Common.{◌≡◌, ℕ, suc, Bool, true, false, cond, not, ◌&&◌, T, List, [], ◌∷◌, map, length, Some, None, option_map, refl, sym, ap, ap₂, subst, ◌∙◌, true≢false}
use Rattle.std.specs.declared.cmp.Ordering.TheVariants.{Less, Equal, Greater}
use Rattle.std.specs.Ordering.{eq_by_cmp, is_eq, is_lt}
use Rattle.std.specs.FinMap.{find, is_sorted, get, len, insert, remove, entries, from_sorted, entries_sorted, same_entries_map, entries-from_sorted, entries-insert, get-entries, len-entries}
use Rattle.std.specs.FinMap.Entries.{by_order, below_all}
use Rattle.std.proofs.lemmas.Cmp.{nat_list_cmp_total}
use Rattle.slot_table.specs.Table.{Entry, Contents}
use Rattle.state_store.specs.Fitted.{IsRoomy, IsPackedRow, ArePacked, unpacked_row, contents_of}
use Rattle.state_store.specs.Kept.{have_widths}
use Rattle.state_store.specs.Packing.{Packing, packed_list, unpacked_list}
use Rattle.state_store.specs.Places.{Entries, IsSorted, with_entry}
use Rattle.state_store.specs.Store.{key_cmp}
use Rattle.state_store.proofs.Entries.{map_with, map_without, map_get, others, others_sorted}
use Rattle.state_store.proofs.PackLaws.{unpacked_packed, packed_list_cmp}
use Rattle.std.proofs.lemmas.Map.Lookups.{exact_bytes}
use Rattle.lemmas.proofs.Tests.{eq_equal}

module _ (p : Packing) (roomy : IsRoomy p) where
  abbrev pub key_of : List ℕ → List ℕ
  key_of = packed_list p.key_words p.keys

  abbrev pub values_of : List ℕ → List ℕ
  values_of = packed_list p.value_words p.values

  abbrev pub numbers_of : List ℕ → List ℕ
  numbers_of = unpacked_list p.value_words p.values

  abbrev unpacked : Entries → Entries
  unpacked = map (unpacked_row p)

  pub key_back : (k : List ℕ) → have_widths p.keys k ≡ true → unpacked_list p.key_words p.keys (key_of k) ≡ k
  key_back k fit = unpacked_packed p.key_words p.keys k roomy.keys fit

  pub values_back : (v : List ℕ) → have_widths p.values v ≡ true → numbers_of (values_of v) ≡ v
  values_back v fit = unpacked_packed p.value_words p.values v roomy.values fit

  pub is_packed : (k v : List ℕ) → have_widths p.keys k ≡ true → have_widths p.values v ≡ true → IsPackedRow p (key_of k, values_of v)
  is_packed k v key value = record {
    key_fits = ap (have_widths p.keys) (key_back k key) ∙ key;
    values_fit = ap (have_widths p.values) (values_back v value) ∙ value;
    same_key = ap key_of (key_back k key);
    same_values = ap values_of (values_back v value);
  }

  -- a key compares with packed ones as its words do
  one_cmp : (k : List ℕ) (e : Entry) → have_widths p.keys k ≡ true → IsPackedRow p e → key_cmp (key_of k) e.0 ≡ key_cmp k (unpacked_row p e).0
  one_cmp k e fit is = ap (key_cmp (key_of k)) (sym is.same_key) ∙ packed_list_cmp p.key_words p.keys k (unpacked_row p e).0 roomy.keys fit is.key_fits

  two_cmp : (d e : Entry) → IsPackedRow p d → IsPackedRow p e → key_cmp d.0 e.0 ≡ key_cmp (unpacked_row p d).0 (unpacked_row p e).0
  two_cmp d e is so = ap (λ w. key_cmp w e.0) (sym is.same_key) ∙ one_cmp (unpacked_row p d).0 e is.key_fits so

  below_same : (d : Entry) (es : Entries) → IsPackedRow p d → ArePacked p es → below_all key_cmp (unpacked_row p d).0 (unpacked es) ≡ below_all key_cmp d.0 es
  below_same d [] is all = refl
  below_same d (e ∷ es) is all = ap₂ (λ o b. is_lt o && b) (sym (two_cmp d e is all.0)) (below_same d es is all.1)

  sorted_same : (es : Entries) → ArePacked p es → is_sorted key_cmp (unpacked es) ≡ is_sorted key_cmp es
  sorted_same [] all = refl
  sorted_same (e ∷ es) all = ap₂ ◌&&◌ (below_same e es all.0 all.1) (sorted_same es all.1)

  find_same : (k : List ℕ) (es : Entries) → have_widths p.keys k ≡ true → ArePacked p es → find key_cmp k (unpacked es) ≡ option_map numbers_of (find key_cmp (key_of k) es)
  find_same k [] fit all = refl
  find_same k (e ∷ es) fit all =
      ap₂ (λ o r. cond (is_eq o) (Some (unpacked_row p e).1) r) (sym (one_cmp k e fit all.0)) (find_same k es fit all.1)
      ∙ elim (is_eq (key_cmp (key_of k) e.0)) as (λ b. cond b (Some (unpacked_row p e).1) (option_map numbers_of (find key_cmp (key_of k) es)) ≡ option_map numbers_of (cond b (Some e.1) (find key_cmp (key_of k) es))) [ true ↦ refl | false ↦ refl ]

  -- a key that hasn't the widths has no row
  find_misfit : (k : List ℕ) (es : Entries) → have_widths p.keys k ≡ false → ArePacked p es → find key_cmp k (unpacked es) ≡ None
  find_misfit k [] fit all = refl
  find_misfit k (e ∷ es) fit all = go (eq_by_cmp key_cmp k (unpacked_row p e).0) refl (find_misfit k es fit all.1)
    where
      go : (b : Bool) → eq_by_cmp key_cmp k (unpacked_row p e).0 ≡ b → find key_cmp k (unpacked es) ≡ None → cond b (Some (unpacked_row p e).1) (find key_cmp k (unpacked es)) ≡ None
      go true is rest = absurd (true≢false (sym all.0.key_fits ∙ ap (have_widths p.keys) (sym (exact_bytes k (unpacked_row p e).0 (eq_equal (key_cmp k (unpacked_row p e).0) is))) ∙ fit))
      go false is rest = rest

  put_same : (k v : List ℕ) (es : Entries) → have_widths p.keys k ≡ true → have_widths p.values v ≡ true → ArePacked p es → unpacked (with_entry es (key_of k) (values_of v)) ≡ with_entry (unpacked es) k v
  put_same k v [] key value all = ap₂ (λ (x y : List ℕ). (x, y) ∷ []) (key_back k key) (values_back v value)
  put_same k v (e ∷ es) key value all =
      ap (λ o. unpacked (by_order o ((key_of k, values_of v) ∷ e ∷ es) ((e.0, values_of v) ∷ es) (e ∷ with_entry es (key_of k) (values_of v)))) (one_cmp k e key all.0)
      ∙ elim (key_cmp k (unpacked_row p e).0) as (λ o. unpacked (by_order o ((key_of k, values_of v) ∷ e ∷ es) ((e.0, values_of v) ∷ es) (e ∷ with_entry es (key_of k) (values_of v))) ≡ by_order o ((k, v) ∷ unpacked_row p e ∷ unpacked es) (((unpacked_row p e).0, v) ∷ unpacked es) (unpacked_row p e ∷ with_entry (unpacked es) k v)) [
        | Less ↦ ap₂ (λ (x y : List ℕ). (x, y) ∷ unpacked_row p e ∷ unpacked es) (key_back k key) (values_back v value)
        | Equal ↦ ap (λ (y : List ℕ). ((unpacked_row p e).0, y) ∷ unpacked es) (values_back v value)
        | Greater ↦ ap (λ l. unpacked_row p e ∷ l) (put_same k v es key value all.1)
      ]

  put_packed : (k v : List ℕ) (es : Entries) → have_widths p.keys k ≡ true → have_widths p.values v ≡ true → ArePacked p es → ArePacked p (with_entry es (key_of k) (values_of v))
  put_packed k v [] key value all = (is_packed k v key value, tt)
  put_packed k v (e ∷ es) key value all =
      elim (key_cmp (key_of k) e.0) as (λ o. ArePacked p (by_order o ((key_of k, values_of v) ∷ e ∷ es) ((e.0, values_of v) ∷ es) (e ∷ with_entry es (key_of k) (values_of v)))) [
        | Less ↦ (is_packed k v key value, all)
        | Equal ↦ (
          record {
            key_fits = all.0.key_fits;
            values_fit = (is_packed k v key value).values_fit;
            same_key = all.0.same_key;
            same_values = (is_packed k v key value).same_values;
          },
          all.1,
        )
        | Greater ↦ (all.0, put_packed k v es key value all.1)
      ]

  others_same : (k : List ℕ) (es : Entries) → have_widths p.keys k ≡ true → ArePacked p es → unpacked (others (key_of k) es) ≡ others k (unpacked es)
  others_same k [] key all = refl
  others_same k (e ∷ es) key all =
      ap (λ o. unpacked (cond (not (is_eq o)) (e ∷ others (key_of k) es) (others (key_of k) es))) (one_cmp k e key all.0)
      ∙ elim (is_eq (key_cmp k (unpacked_row p e).0)) as (λ b. unpacked (cond (not b) (e ∷ others (key_of k) es) (others (key_of k) es)) ≡ cond (not b) (unpacked_row p e ∷ others k (unpacked es)) (others k (unpacked es))) [
        | true ↦ others_same k es key all.1
        | false ↦ ap (λ l. unpacked_row p e ∷ l) (others_same k es key all.1)
      ]

  others_packed : (k : List ℕ) (es : Entries) → ArePacked p es → ArePacked p (others k es)
  others_packed k [] all = tt
  others_packed k (e ∷ es) all =
      elim (is_eq (key_cmp k e.0)) as (λ b. ArePacked p (cond (not b) (e ∷ others k es) (others k es))) [ true ↦ others_packed k es all.1 | false ↦ (all.0, others_packed k es all.1) ]

  -- ---- maps
  pub unpacked_sorted : (rows : Contents) → ArePacked p (entries rows) → IsSorted (unpacked (entries rows))
  unpacked_sorted rows all = subst T (sym (sorted_same (entries rows) all)) (entries_sorted rows)

  pub entries_of : (rows : Contents) → ArePacked p (entries rows) → entries (contents_of p rows) ≡ unpacked (entries rows)
  entries_of rows all = entries-from_sorted key_cmp (unpacked (entries rows)) (unpacked_sorted rows all)

  pub get_of : (rows : Contents) (k : List ℕ) → ArePacked p (entries rows) → have_widths p.keys k ≡ true → get (contents_of p rows) k ≡ option_map numbers_of (get rows (key_of k))
  get_of rows k all fit = map_get (unpacked (entries rows)) k (unpacked_sorted rows all) ∙ find_same k (entries rows) fit all ∙ ap (option_map numbers_of) (sym (get-entries rows (key_of k)))

  pub get_misfit : (rows : Contents) (k : List ℕ) → ArePacked p (entries rows) → have_widths p.keys k ≡ false → get (contents_of p rows) k ≡ None
  get_misfit rows k all fit = map_get (unpacked (entries rows)) k (unpacked_sorted rows all) ∙ find_misfit k (entries rows) fit all

  length_same : (es : Entries) → length (unpacked es) ≡ length es
  length_same [] = refl
  length_same (e ∷ es) = ap suc (length_same es)

  pub len_of : (rows : Contents) → ArePacked p (entries rows) → len (contents_of p rows) ≡ len rows
  len_of rows all = len-entries (contents_of p rows) ∙ ap length (entries_of rows all) ∙ length_same (entries rows) ∙ sym (len-entries rows)

  pub insert_packed : (rows : Contents) (k v : List ℕ) → ArePacked p (entries rows) → have_widths p.keys k ≡ true → have_widths p.values v ≡ true → ArePacked p (entries (insert rows (key_of k) (values_of v)))
  insert_packed rows k v all key value = subst (ArePacked p) (sym (entries-insert nat_list_cmp_total rows (key_of k) (values_of v))) (put_packed k v (entries rows) key value all)

  pub insert_of : (rows : Contents) (k v : List ℕ) → ArePacked p (entries rows) → have_widths p.keys k ≡ true → have_widths p.values v ≡ true → contents_of p (insert rows (key_of k) (values_of v)) ≡ insert (contents_of p rows) k v
  insert_of rows k v all key value =
      ap (λ es. from_sorted (unpacked es)) (entries-insert nat_list_cmp_total rows (key_of k) (values_of v))
      ∙ ap (λ es. from_sorted es) (put_same k v (entries rows) key value all)
      ∙ map_with (unpacked (entries rows)) k v (unpacked_sorted rows all)

  -- the entries of a map without a key
  entries_without : (rows : Contents) (k : List ℕ) → entries (remove rows k) ≡ others k (entries rows)
  entries_without rows k =
      let same : from_sorted {R = key_cmp} (others k (entries rows)) ≡ remove (from_sorted (entries rows)) k = map_without (entries rows) k (entries_sorted rows) in
      let whole : from_sorted {R = key_cmp} (entries rows) ≡ rows = same_entries_map _ rows (entries-from_sorted key_cmp (entries rows) (entries_sorted rows)) in
      ap entries (ap (λ m. remove m k) (sym whole) ∙ sym same) ∙ entries-from_sorted key_cmp (others k (entries rows)) (others_sorted (entries rows) k (entries_sorted rows))

  pub remove_packed : (rows : Contents) (k : List ℕ) → ArePacked p (entries rows) → ArePacked p (entries (remove rows k))
  remove_packed rows k all = subst (ArePacked p) (sym (entries_without rows k)) (others_packed k (entries rows) all)

  pub remove_of : (rows : Contents) (k : List ℕ) → ArePacked p (entries rows) → have_widths p.keys k ≡ true → contents_of p (remove rows (key_of k)) ≡ remove (contents_of p rows) k
  remove_of rows k all key =
      ap (λ es. from_sorted (unpacked es)) (entries_without rows (key_of k))
      ∙ ap (λ es. from_sorted es) (others_same k (entries rows) key all)
      ∙ map_without (unpacked (entries rows)) k (unpacked_sorted rows all)
