-- What slots hold, one by one and then in order, are the entries.
use Rattle.std.proofs.Common.{◌≡◌, ℕ, ◌+◌, ◌*◌, ◌<◌, [], ◌∷◌, ◌++◌, length, map, drop, Option, Some, None, option_map, refl, sym, ap, ap₂, subst, ◌∙◌, append_assoc, append-nil, IsPermutation, IsSorted}
use Rattle.std.specs.FinMap.{entries, len}
use Rattle.std.proofs.lemmas.List.Sorted.{IsPermutation-map, IsPermutation-trans, IsPermutation-sym}
use Rattle.slot_table.specs.Table.{Entry, Contents, Slots, held, IsLaidOut}
use Rattle.state_store.specs.Fitted.{HoldsPacked, contents_of, unpacked_row}
use Rattle.state_store.specs.Packing.{Packing, number, parts, unpacked_list}
use Rattle.state_store.specs.Places.{Entries}
use Rattle.state_store.specs.Sizes.{slot_rows, row_numbers, unpacked_entries}
use Rattle.state_store.proofs.RowLaws.{unpacked_sorted, entries_of, len_of}
use Rattle.state_store.proofs.SlotRows.{row_at, gap_at, slots_permute, slots_count}
use Rattle.state_store.proofs.SortLaws.{entry_cmp, sorted_is}

-- the lists of a row
as_listed : (p : Packing) (row : Entry) (n : ℕ × ℕ) → Some n ≡ option_map row_numbers (Some row) → (parts (64 * p.key_words) p.keys n.0, parts (64 * p.value_words) p.values n.1) ∷ [] ≡ unpacked_row p row ∷ []
unfolding unpacked_list
as_listed p row n e =
    let first : n.0 ≡ number row.0 = (let is : n ≡ (number row.0, number row.1) = cc in ap (λ z. z.0) is) in
    let second : n.1 ≡ number row.1 = (let is : n ≡ (number row.0, number row.1) = cc in ap (λ z. z.1) is) in
    ap₂ (λ x y. (parts (64 * p.key_words) p.keys x, parts (64 * p.value_words) p.values y) ∷ []) first second

-- a slot more is listed
pub slot_listed : (p : Packing) (s : Slots) (i : ℕ) (o : Option (ℕ × ℕ)) (l l' w : Entries) → i < length s → o ≡ option_map row_numbers (held s i) → l' ≡ l ++ unpacked_entries p.key_words p.value_words p.keys p.values o
    → l ++ map (unpacked_row p) (slot_rows (drop i s)) ≡ w → l' ++ map (unpacked_row p) (slot_rows (drop (i + 1) s)) ≡ w
slot_listed p s i o l l' w lt e is so_far = go (held s i) o refl e is
  where
    go : (r : Option Entry) (o : Option (ℕ × ℕ)) → held s i ≡ r → o ≡ option_map row_numbers r → l' ≡ l ++ unpacked_entries p.key_words p.value_words p.keys p.values o
        → l' ++ map (unpacked_row p) (slot_rows (drop (i + 1) s)) ≡ w
    go None None h e is =
        ap (λ x. x ++ map (unpacked_row p) (slot_rows (drop (i + 1) s))) (is ∙ append-nil l) ∙ ap (λ x. l ++ map (unpacked_row p) x) (sym (gap_at s i lt h)) ∙ so_far
    go None (Some n) h e is = absurd (cc)
    go (Some row) None h e is = absurd (cc)
    go (Some row) (Some n) h e is =
        ap (λ x. x ++ map (unpacked_row p) (slot_rows (drop (i + 1) s))) (is ∙ ap (λ x. l ++ x) (as_listed p row n e))
        ∙ append_assoc l (unpacked_row p row ∷ []) (map (unpacked_row p) (slot_rows (drop (i + 1) s)))
        ∙ ap (λ x. l ++ map (unpacked_row p) x) (sym (row_at s i row lt h)) ∙ so_far

-- the listed rows in order
pub poured : (p : Packing) (rows : Contents) (s : Slots) (l sorted : Entries) → HoldsPacked p rows → IsLaidOut rows s → l ≡ map (unpacked_row p) (slot_rows s) → IsPermutation l sorted → IsSorted entry_cmp sorted → sorted ≡ entries (contents_of p rows)
poured p rows s l sorted held laid e moved up =
    let packed_moved = IsPermutation-map (unpacked_row p) (slot_rows s) (entries rows) (slots_permute rows s laid) in
    let there = subst (λ x. IsPermutation x (map (unpacked_row p) (entries rows))) (sym e) packed_moved in
    let back = IsPermutation-trans sorted l (map (unpacked_row p) (entries rows)) (IsPermutation-sym l sorted moved) there in
    sorted_is (map (unpacked_row p) (entries rows)) sorted (unpacked_sorted p held.roomy rows held.packed) back up ∙ sym (entries_of p held.roomy rows held.packed)

pub as_many : (p : Packing) (rows : Contents) (s : Slots) → HoldsPacked p rows → IsLaidOut rows s → length (slot_rows s) ≡ len (contents_of p rows)
as_many p rows s held laid = slots_count rows s laid ∙ sym (len_of p held.roomy rows held.packed)
