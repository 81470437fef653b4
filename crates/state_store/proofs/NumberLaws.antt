-- Rows as pairs of numbers, in the order of their keys.
use Rattle.std.proofs.Common.{◌≡◌, ℕ, ◌+◌, ◌-◌, ◌*◌, ◌^◌, ◌<◌, ◌≤◌, suc, Bool, true, false, List, [], ◌∷◌, ◌++◌, length, map, drop, Some, None, refl, sym, ap, ap₂, subst, ◌∙◌, arith, zero, slice_get, slice_index_or, nat_lt, add-one, All, append_assoc, append-nil, IsPermutation, IsSorted}
use Rattle.std.specs.Ordering.{nat_cmp, ordering_then, is_lt}
use Rattle.std.specs.declared.cmp.Ordering.{Ordering}
use Rattle.std.specs.FinMap.{entries, entries_sorted, len}
use Rattle.std.proofs.lemmas.Bool.{ltb-true, ltb-false}
use Rattle.std.proofs.lemmas.Bool.Decides.{nat_tests}
use Rattle.std.proofs.lemmas.List.{drop_all, length-map}
use Rattle.std.proofs.lemmas.List.Elements.{All-nil, All-cons}
use Rattle.std.proofs.lemmas.List.Sorted.{IsPermutation-map, IsPermutation-trans, IsPermutation-sym}
use Rattle.slot_table.specs.Table.{Entry, Contents, Slots, held, IsLaidOut, IsNextRow}
use Rattle.state_store.specs.declared.object.Row as Kept
use Rattle.state_store.specs.Fitted.{IsRoomy, IsPackedRow, ArePacked, HoldsPacked, contents_of, unpacked_row}
use Rattle.state_store.specs.Kept.{have_widths}
use Rattle.state_store.specs.Listing.{row_of_numbers, rows_of_numbers, HoldsRows}
use Rattle.state_store.specs.Packing.{Packing, have_room, packed, parts, words, number, packed_list, unpacked_list}
use Rattle.state_store.specs.Places.{Entries}
use Rattle.state_store.specs.Sizes.{slot_rows, row_numbers}
use Rattle.state_store.specs.Store.{row_of, rows_from}
use Rattle.state_store.proofs.PackLaws.{number_words, words_cmp, packed_below}
use Rattle.state_store.proofs.RowLaws.{entries_of}
use Rattle.state_store.proofs.SlotRows.{row_at, gap_at, slots_permute, slots_count}
use Rattle.state_store.proofs.SortLaws.{entry_cmp, Ascends, neighbours, at_most, first_or_behind, ascending_is}

abbrev Numbers : Type 0
Numbers = List (ℕ × ℕ)

-- the row in a slot was pushed
pub row_pushed : (s : Slots) (i : ℕ) (row : Entry) (l l' w : Numbers) → i < length s → held s i ≡ Some row → l' ≡ l ++ row_numbers row ∷ []
    → l ++ map row_numbers (slot_rows (drop i s)) ≡ w → l' ++ map row_numbers (slot_rows (drop (i + 1) s)) ≡ w
row_pushed s i row l l' w lt h is so_far =
    ap (λ x. x ++ map row_numbers (slot_rows (drop (i + 1) s))) is
    ∙ append_assoc l (row_numbers row ∷ []) (map row_numbers (slot_rows (drop (i + 1) s)))
    ∙ ap (λ x. l ++ map row_numbers x) (sym (row_at s i row lt h)) ∙ so_far

-- slots without a row were passed
passed : (k : ℕ) (s : Slots) (from : ℕ) → from + k ≤ length s → ((i : ℕ) → from ≤ i → i < from + k → held s i ≡ None)
    → slot_rows (drop from s) ≡ slot_rows (drop (from + k) s)
passed zero s from le gaps = ap (λ n. slot_rows (drop n s)) (omega arith)
passed (suc k) s from le gaps =
    gap_at s from (omega arith) (gaps from (omega arith) (omega arith))
    ∙ passed k s (from + 1) (omega arith) (λ i lower upper. gaps i (omega arith) (omega arith)) ∙ ap (λ n. slot_rows (drop n s)) (omega arith)

pub gaps_passed : (s : Slots) (from at : ℕ) → IsNextRow s from at → slot_rows (drop from s) ≡ slot_rows (drop at s)
gaps_passed s from at next =
    let there : from + (at - from) ≡ at = omega (arith, next.behind) in
    passed (at - from) s from (omega (arith, next.within, there)) (λ i lower upper. next.gaps i lower (omega (arith, there))) ∙ ap (λ n. slot_rows (drop n s)) there

-- a list that is as long as all is all
as_long : (l m w : Numbers) → length w ≤ length l → l ++ m ≡ w → l ≡ w
as_long l [] w le e = sym (append-nil l) ∙ e
as_long l (x ∷ m) w le e = let all = ap length e in let parts = longer l m in absurd (omega arith)
  where
    longer : (l m : Numbers) → length (l ++ x ∷ m) ≡ length l + suc (length m)
    longer [] m = omega arith
    longer (y ∷ l) m = let rest = longer l m in omega arith

-- as many rows as there are were met
pub rows_pushed : (rows : Contents) (s : Slots) (i : ℕ) (l : Numbers) → IsLaidOut rows s → len rows ≤ length l → l ++ map row_numbers (slot_rows (drop i s)) ≡ map row_numbers (slot_rows s) → l ≡ map row_numbers (slot_rows s)
rows_pushed rows s i l laid le e =
    let count = length-map (slot_rows s) row_numbers ∙ slots_count rows s laid in
    as_long l (map row_numbers (slot_rows (drop i s))) (map row_numbers (slot_rows s)) (omega arith) e

-- while fewer rows were met, there is another
pub row_left : (rows : Contents) (s : Slots) (from at : ℕ) (l : Numbers) → IsLaidOut rows s → length l < len rows
    → l ++ map row_numbers (slot_rows (drop from s)) ≡ map row_numbers (slot_rows s) → IsNextRow s from at → at < length s
row_left rows s from at l laid fewer e next = go (nat_lt at (length s)) refl
  where
    go : (b : Bool) → nat_lt at (length s) ≡ b → at < length s
    go true is = ltb-true at (length s) is
    go false is =
        let none : slot_rows (drop from s) ≡ [] = gaps_passed s from at next ∙ ap slot_rows (drop_all at s (ltb-false at (length s) is)) in
        let all : l ≡ map row_numbers (slot_rows s) = sym (append-nil l) ∙ ap (λ x. l ++ map row_numbers x) (sym none) ∙ e in
        let count = length-map (slot_rows s) row_numbers ∙ slots_count rows s laid in
        absurd (omega (arith, fewer, ap length all, count))

-- ---- words
words_back : (count : ℕ) (ws l ns : List ℕ) → packed_list count ws ns ≡ l → words count (number l) ≡ l
unfolding packed_list
words_back count ws l ns e = subst (λ x. words count (number x) ≡ x) e (ap (words count) (number_words count (packed (64 * count) ws ns)))

unpacked_words : (count : ℕ) (ws : List ℕ) (x : ℕ) → unpacked_list count ws (words count x) ≡ parts (64 * count) ws x
unfolding unpacked_list
unpacked_words count ws x = ap (parts (64 * count) ws) (number_words count x)

number_below : (count : ℕ) (ws : List ℕ) (x : ℕ) (ns : List ℕ) → have_room (64 * count) ws ≡ true → have_widths ws ns ≡ true → packed_list count ws ns ≡ words count x → x < 2 ^ (64 * count)
unfolding packed_list
number_below count ws x ns room fit e =
    let same : packed (64 * count) ws ns ≡ x = sym (number_words count (packed (64 * count) ws ns)) ∙ ap number e ∙ number_words count x in
    subst (λ y. y < 2 ^ (64 * count)) same (packed_below (64 * count) ws ns room fit)

-- ---- in order
abbrev pub number_cmp : ℕ × ℕ → ℕ × ℕ → Ordering
number_cmp x y = ordering_then (nat_cmp x.0 y.0) (nat_cmp x.1 y.1)

module _ (p : Packing) where
  -- two numbers as the words of a row
  abbrev back : ℕ × ℕ → Entry
  back n = (words p.key_words n.0, words p.value_words n.1)

  back_cmp : (x y : ℕ × ℕ) → entry_cmp (back x) (back y) ≡ number_cmp x y
  back_cmp x y = ap₂ ordering_then (words_cmp p.key_words x.0 y.0) (words_cmp p.value_words x.1 y.1)

  back_rises : (xs : Numbers) → IsSorted number_cmp xs → Ascends (map back xs)
  back_rises [] sorted = tt
  back_rises (x ∷ []) sorted = (λ d some. absurd (omega arith), tt)
  back_rises (x ∷ y ∷ ys) sorted =
      let tail : IsSorted number_cmp (y ∷ ys) = λ k d q r. rw add-one (rw add-one at (sorted (suc k) d (omega arith) (omega arith))) in
      let rest = back_rises (y ∷ ys) tail in
      let first : is_lt (number_cmp y x) ≡ false = sorted 0 x (omega arith) (omega arith) in
      let near = neighbours (back x) (back y) (ap is_lt (back_cmp y x) ∙ first) in
      (λ d some. at_most (back x) (back y) (map back ys) d near rest.0 (first_or_behind d (back y) (map back ys) some), rest)

  -- words that were packed come back
  one_back : (e : Entry) → IsPackedRow p e → back (row_numbers e) ≡ e
  one_back e is = ap₂ (λ (k v : List ℕ). (k, v)) (words_back p.key_words p.keys e.0 (unpacked_row p e).0 is.same_key) (words_back p.value_words p.values e.1 (unpacked_row p e).1 is.same_values)

  all_back : (es : Entries) → ArePacked p es → map back (map row_numbers es) ≡ es
  all_back [] all = refl
  all_back (e ∷ es) all = ap₂ (λ (d : Entry) ds. d ∷ ds) (one_back e all.0) (all_back es all.1)

  sorted_back : (rows : Contents) (s : Slots) (l sorted : Numbers) → HoldsPacked p rows → IsLaidOut rows s → l ≡ map row_numbers (slot_rows s) → IsPermutation l sorted
      → IsSorted number_cmp sorted → map back sorted ≡ entries rows
  sorted_back rows s l sorted held laid e moved up =
      let there = subst (λ x. IsPermutation x (map row_numbers (entries rows))) (sym e) (IsPermutation-map row_numbers (slot_rows s) (entries rows) (slots_permute rows s laid)) in
      let numbers = IsPermutation-trans sorted l (map row_numbers (entries rows)) (IsPermutation-sym l sorted moved) there in
      let words = subst (IsPermutation (map back sorted)) (all_back (entries rows) held.packed) (IsPermutation-map back sorted (map row_numbers (entries rows)) numbers) in
      ascending_is (entries rows) (map back sorted) (entries_sorted rows) words (back_rises sorted up)

  -- the rows that the numbers hold
  one_row : (n : ℕ × ℕ) → row_of_numbers (64 * p.key_words) (64 * p.value_words) p.keys p.values n ≡ row_of (unpacked_row p (back n))
  one_row n = ap₂ (λ (k v : List ℕ). row_of (k, v)) (sym (unpacked_words p.key_words p.keys n.0)) (sym (unpacked_words p.value_words p.values n.1))

  all_rows : (ns : Numbers) → rows_of_numbers (64 * p.key_words) (64 * p.value_words) p.keys p.values ns ≡ rows_from (map (unpacked_row p) (map back ns))
  all_rows [] = refl
  all_rows (n ∷ ns) = ap₂ (λ (r : Kept.Row) rs. r ∷ rs) (one_row n) (all_rows ns)

  keys_below : IsRoomy p → (ns : Numbers) → ArePacked p (map back ns) → All (λ n. n.0 < 2 ^ (64 * p.key_words)) ns
  keys_below roomy [] all = All-nil _
  keys_below roomy (n ∷ ns) all = All-cons (λ (x : ℕ × ℕ). x.0 < 2 ^ (64 * p.key_words)) n ns (number_below p.key_words p.keys n.0 (unpacked_row p (back n)).0 roomy.keys all.0.key_fits all.0.same_key) (keys_below roomy ns all.1)

  values_below : IsRoomy p → (ns : Numbers) → ArePacked p (map back ns) → All (λ n. n.1 < 2 ^ (64 * p.value_words)) ns
  values_below roomy [] all = All-nil _
  values_below roomy (n ∷ ns) all = All-cons (λ (x : ℕ × ℕ). x.1 < 2 ^ (64 * p.value_words)) n ns (number_below p.value_words p.values n.1 (unpacked_row p (back n)).1 roomy.values all.0.values_fit all.0.same_values) (values_below roomy ns all.1)

  pub listed_rows : (rows : Contents) (s : Slots) (l sorted : Numbers) → HoldsPacked p rows → IsLaidOut rows s → l ≡ map row_numbers (slot_rows s) → IsPermutation l sorted
      → IsSorted number_cmp sorted → rows_of_numbers (64 * p.key_words) (64 * p.value_words) p.keys p.values sorted ≡ rows_from (entries (contents_of p rows))
  listed_rows rows s l sorted held laid e moved up =
      all_rows sorted ∙ ap (λ es. rows_from (map (unpacked_row p) es)) (sorted_back rows s l sorted held laid e moved up) ∙ ap rows_from (sym (entries_of p held.roomy rows held.packed))

  pub listed_holds : (rows : Contents) (s : Slots) (l sorted : Numbers) → 64 * p.key_words ≤ 128 → 64 * p.value_words ≤ 128 → HoldsPacked p rows → IsLaidOut rows s
      → l ≡ map row_numbers (slot_rows s) → IsPermutation l sorted → IsSorted number_cmp sorted
      → HoldsRows (64 * p.key_words) (64 * p.value_words) p.keys p.values sorted
  listed_holds rows s l sorted key_le value_le held laid e moved up =
      let packed = subst (ArePacked p) (sym (sorted_back rows s l sorted held laid e moved up)) held.packed in
      record {
        few_key_bits = key_le;
        few_value_bits = value_le;
        key_room = held.roomy.keys;
        value_room = held.roomy.values;
        keys_fit = keys_below held.roomy sorted packed;
        values_fit = values_below held.roomy sorted packed;
      }

-- ---- places of a list whose elements are mapped
there : {X Y : Type 0} (f : X → Y) (xs : List X) (i : ℕ) (d : X) → i < length xs → slice_get (map f xs) i ≡ Some (f (slice_index_or xs i d))
there f [] i d lt = absurd (omega arith)
there f (x ∷ xs) zero d lt = refl
there f (x ∷ xs) (suc i) d lt = there f xs i d (omega arith)

past : {X Y : Type 0} (f : X → Y) (xs : List X) (i : ℕ) → length xs ≤ i → None ≡ slice_get (map f xs) i
past f [] i le = refl
past f (x ∷ xs) zero le = absurd (omega arith)
past f (x ∷ xs) (suc i) le = past f xs i (omega arith)

pub mapped_there : {X Y : Type 0} (f : X → Y) (xs : List X) (i : ℕ) (d : X) → nat_lt i (length xs) ≡ true → slice_get (map f xs) i ≡ Some (f (slice_index_or xs i d))
mapped_there f xs i d h = there f xs i d (ltb-true i (length xs) h)

pub mapped_past : {X Y : Type 0} (f : X → Y) (xs : List X) (i : ℕ) → nat_lt i (length xs) ≡ false → None ≡ slice_get (map f xs) i
mapped_past f xs i h = past f xs i (grind (arith, nat_tests, h))
