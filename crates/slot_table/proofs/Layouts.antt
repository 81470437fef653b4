-- Rows that are listed, and laid out again.
use Rattle.std.proofs.Common.{◌≡◌, ℕ, ◌+◌, ◌<◌, ◌≤◌, List, [], ◌∷◌, ◌++◌, length, set, replicate, Option, Some, None, refl, sym, ap, subst, ◌∙◌, arith, append_assoc, length-append, length-set}
use Rattle.std.specs.FinMap.{get, len, insert, len-insert, len-empty}
use Rattle.std.proofs.lemmas.Cmp.{nat_list_cmp_total}
use Rattle.std.proofs.lemmas.List.{append-nil}
use Rattle.slot_table.specs.Table.{key_cmp, Entry, Slots, rows_in}
use Rattle.slot_table.specs.Probing.{count_rows, HasGap, IsTable}
use Rattle.slot_table.specs.Layout.{slot_rows, map_of, CanLayOut, IsLaidAnew, IsSettled, IsLaying}
use Rattle.slot_table.proofs.Held.{Key, some_gap}
use Rattle.slot_table.proofs.Moves.{put_table, put_new, empty_table, empty_rows, none_long}

-- ---- rows are listed
pub map_of_rows : (s : Slots) → map_of (slot_rows s) ≡ rows_in s
unfolding rows_in
map_of_rows [] = refl
map_of_rows (None ∷ s) = map_of_rows s
map_of_rows (Some r ∷ s) = ap (λ m. insert m r.0 r.1) (map_of_rows s)

pub rows_counted : (s : Slots) → length (slot_rows s) ≡ count_rows s
rows_counted [] = refl
rows_counted (None ∷ s) = rows_counted s
rows_counted (Some r ∷ s) = omega (arith, rows_counted s)

-- ---- no key is listed twice
len_step : (r : Entry) (l : List Entry) (o : Option Key) → get (map_of l) r.0 ≡ o → len (map_of l) ≤ length l → len (insert (map_of l) r.0 r.1) ≤ length (r ∷ l)
len_step r l None is most =
    let more : len (insert (map_of l) r.0 r.1) ≡ len (map_of l) + 1 = len-insert nat_list_cmp_total (map_of l) r.0 r.1 ∙ rw is refl in
    omega arith
len_step r l (Some v) is most =
    let same : len (insert (map_of l) r.0 r.1) ≡ len (map_of l) = len-insert nat_list_cmp_total (map_of l) r.0 r.1 ∙ rw is refl in
    omega arith

len_most : (l : List Entry) → len (map_of l) ≤ length l
len_most [] = omega (arith, len-empty key_cmp (List ℕ))
len_most (r ∷ l) = len_step r l (get (map_of l) r.0) refl (len_most l)

-- where the map has as many rows as are listed, the first key isn't behind the first row
pub tail_distinct : (r : Entry) (l : List Entry) → len (map_of (r ∷ l)) ≡ length (r ∷ l) → (len (map_of l) ≡ length l) × (get (map_of l) r.0 ≡ None)
tail_distinct r l e = by_value (get (map_of l) r.0) refl
  where
    by_value : (o : Option Key) → get (map_of l) r.0 ≡ o → (len (map_of l) ≡ length l) × (get (map_of l) r.0 ≡ None)
    by_value None is =
        let more : len (insert (map_of l) r.0 r.1) ≡ len (map_of l) + 1 = len-insert nat_list_cmp_total (map_of l) r.0 r.1 ∙ rw is refl in
        (omega (arith, e), is)
    by_value (Some v) is =
        let same : len (insert (map_of l) r.0 r.1) ≡ len (map_of l) = len-insert nat_list_cmp_total (map_of l) r.0 r.1 ∙ rw is refl in
        absurd (omega (arith, e, len_most l))

rest_distinct : (front l : List Entry) → len (map_of (front ++ l)) ≡ length (front ++ l) → len (map_of l) ≡ length l
rest_distinct [] l e = e
rest_distinct (r ∷ front) l e = rest_distinct front l (tail_distinct r (front ++ l) e).0

-- ---- rows are laid out
pub laying_starts : (seed : ℕ) (old s : Slots) (left : List Entry) → CanLayOut old → s ≡ replicate (length old) None → left ≡ slot_rows old → IsLaying seed 0 old s left
laying_starts seed old s left can e all = record {
  laid = [];
  all = append-nil left ∙ all;
  table = empty_table seed 0 s (length old) (count_rows old) e can.spare;
  rows = empty_rows s (length old) e;
  size = ap length e ∙ none_long (length old);
}

pub laying_goes_on : (seed far more : ℕ) (old s new : Slots) (left less : List Entry) (r : Entry) (walked : ℕ) → CanLayOut old → IsLaying seed far old s left → left ≡ less ++ r ∷ []
    → IsSettled seed s r new walked → far ≤ more → walked ≤ more → IsLaying seed more old new less
laying_goes_on seed far more old s new left less r walked can h e st longer near =
    let all : less ++ r ∷ h.laid ≡ slot_rows old = sym (append_assoc less (r ∷ []) h.laid) ∙ ap (λ (x : List Entry). x ++ h.laid) (sym e) ∙ h.all in
    let whole : len (map_of (slot_rows old)) ≡ length (slot_rows old) = ap len (map_of_rows old) ∙ can.distinct ∙ sym (rows_counted old) in
    let one : (len (map_of h.laid) ≡ length h.laid) × (get (map_of h.laid) r.0 ≡ None) =
    tail_distinct r h.laid (rest_distinct less (r ∷ h.laid) (subst (λ (x : List Entry). len (map_of x) ≡ length x) (sym all) whole)) in
    let absent : get (rows_in s) r.0 ≡ None = ap (λ m. get m r.0) h.rows ∙ one.1 in
    let room : length h.laid < count_rows old = omega (arith, ap length all, length-append less (r ∷ h.laid), rows_counted old) in
    let put : IsTable seed more (set s st.at (Some r)) (length h.laid + 1) (count_rows old) =
    put_table seed far more s (length h.laid) (count_rows old) r.0 r.1 st.at h.table absent st.first room longer (omega (arith, st.far)) in
    let counted : length h.laid + 1 ≡ length (r ∷ h.laid) = omega arith in
    record {
      laid = r ∷ h.laid;
      all = all;
      table = subst (λ (x : Slots). IsTable seed more x (length (r ∷ h.laid)) (count_rows old)) (sym st.stored) (subst (λ (m : ℕ). IsTable seed more (set s st.at (Some r)) m (count_rows old)) counted put);
      rows = ap rows_in st.stored ∙ put_new s r.0 r.1 _ st.at absent st.first ∙ ap (λ m. insert m r.0 r.1) h.rows;
      size = ap length st.stored ∙ length-set s st.at (Some r) ∙ h.size;
    }

pub laying_gap : (seed far : ℕ) (old s : Slots) (left : List Entry) → IsLaying seed far old s left → HasGap s
laying_gap seed far old s left h = some_gap s (omega (arith, h.table.count, h.table.within, h.table.spare))

pub laying_ends : (seed far : ℕ) (old s : Slots) (left : List Entry) → IsLaying seed far old s left → left ≡ [] → IsLaidAnew seed far old s
laying_ends seed far old s left h none =
    let all : h.laid ≡ slot_rows old = ap (λ (x : List Entry). x ++ h.laid) (sym none) ∙ h.all in
    record {
      table = subst (λ (m : ℕ). IsTable seed far s m (count_rows old)) (ap length all ∙ rows_counted old) h.table;
      rows = h.rows ∙ ap map_of all ∙ map_of_rows old;
      size = h.size;
    }

pub nothing_left : (l : List Entry) → length l ≡ 0 → l ≡ []
nothing_left [] none = refl
nothing_left (r ∷ l) none = absurd (omega arith)

-- ---- a table
pub can_lay_out : (seed far : ℕ) (s : Slots) (len capacity : ℕ) → IsTable seed far s len capacity → CanLayOut s
can_lay_out seed far s size capacity h = record { distinct = h.rows ∙ sym h.count; spare = omega (arith, h.count, h.within, h.spare) }
