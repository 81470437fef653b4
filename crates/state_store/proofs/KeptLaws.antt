-- Rows that are packed or lie in order: what is done to them is done to their contents.
use Rattle.std.proofs.Common.{◌≡◌, ◌⊎◌, inl, inr, ℕ, ◌≤◌, Bool, true, false, cond, not, List, [], Option, Some, None, IfSome, IsSome, refl, sym, ap, ap₂, subst, ◌∙◌, Result, Ok, Err, IfOk, is_ok, true≢false}
use Rattle.std.specs.FinMap.{empty, contains_key, insert, remove, entries, from_sorted, entries_sorted, same_entries_map, entries-from_sorted}
use Rattle.state_store.specs.Bounded.{Bounded, IsKeptIn, HasSize, contents_in, unpacked_entries, packed_answer, packed_after, packed_without, is_full_in, stored_row}
use Rattle.state_store.specs.Fitted.{Fitted, fits_row, is_full_at}
use Rattle.state_store.specs.Places.{Entries, IsSorted, with_entry, without_entry}
use Rattle.state_store.specs.Store.{key_cmp, Contents}
use Rattle.state_store.specs.declared.packed_rows.Kept.{Kept}
use Rattle.state_store.specs.declared.packed_rows.Kept.TheVariants.{Stored, Full, Misfit}
use Rattle.state_store.proofs.Entries.{map_empty, map_with, map_without, sorted_with}

abbrev pub bounded_of : ℕ → Option Fitted → Entries → Bounded
bounded_of size o es = record { size = size; contents = contents_in o es }

-- ---- rows that leave the table
pub unpacked_sorted : (o : Option Fitted) (es : Entries) → IsSorted es → IsSorted (unpacked_entries o es)
unpacked_sorted None es sorted = sorted
unpacked_sorted (Some f) es sorted = entries_sorted f.contents

pub unpacked_same : (o : Option Fitted) (es : Entries) → from_sorted (unpacked_entries o es) ≡ contents_in o es
unpacked_same None es = refl
unpacked_same (Some f) es = same_entries_map _ f.contents (entries-from_sorted key_cmp (entries f.contents) (entries_sorted f.contents))

pub record IsRefused (o : Option Fitted) (es : Entries) (size : ℕ) (k v : List ℕ) : Type 0 where
  pub full : is_full_in (bounded_of size o es) k ≡ true
  pub after : packed_after o k v ≡ o

pub was_full : (o : Option Fitted) (es : Entries) (size : ℕ) (k v : List ℕ) → HasSize o size → Full ≡ packed_answer o k v → IsRefused o es size k v
was_full None es size k v bound e = absurd (cc)
was_full (Some f) es size k v bound e = go (fits_row f k v) (is_full_at f.capacity f.contents k) refl refl e
  where
    go : (a b : Bool) → fits_row f k v ≡ a → is_full_at f.capacity f.contents k ≡ b → Full ≡ cond a (cond b Full Stored) Misfit → IsRefused (Some f) es size k v
    go true true p q h = record {
      full = ap (λ n. is_full_at n f.contents k) (sym bound) ∙ q;
      after = ap₂ (λ a b. Some (cond a (cond b f (record f { contents = insert f.contents k v })) f)) p q;
    }
    go true false p q h = absurd (cc)
    go false b p q h = absurd (cc)

pub was_misfit : (o : Option Fitted) (k v : List ℕ) → Misfit ≡ packed_answer o k v → packed_after o k v ≡ o
was_misfit None k v e = refl
was_misfit (Some f) k v e = go (fits_row f k v) (is_full_at f.capacity f.contents k) refl e
  where
    go : (a b : Bool) → fits_row f k v ≡ a → Misfit ≡ cond a (cond b Full Stored) Misfit → packed_after (Some f) k v ≡ Some f
    go true true p h = absurd (cc)
    go true false p h = absurd (cc)
    go false b p h = ap (λ a. Some (cond a (cond (is_full_at f.capacity f.contents k) f (record f { contents = insert f.contents k v })) f)) p

-- ---- a put among rows that left the table
-- the same contents lie in order now
pub now_sorted : (o o' : Option Fitted) (es fs : Entries) → o' ≡ o → fs ≡ unpacked_entries o' es → from_sorted fs ≡ contents_in o es
now_sorted o o' es fs same e = ap (λ l. from_sorted l) (e ∙ ap (λ q. unpacked_entries q es) same) ∙ unpacked_same o es

pub sorted_now : (o' : Option Fitted) (es fs : Entries) → IsSorted es → fs ≡ unpacked_entries o' es → IsSorted fs
sorted_now o' es fs sorted e = subst IsSorted (sym e) (unpacked_sorted o' es sorted)

pub late_answer : (m : Contents) (fs : Entries) (size : ℕ) (k : List ℕ) (b : Bool) → from_sorted fs ≡ m → b ≡ not (is_full_at size (from_sorted fs) k) → b ≡ not (is_full_at size m k)
late_answer m fs size k b same e = e ∙ ap (λ x. not (is_full_at size x k)) same

pub late_after : (m : Contents) (fs gs : Entries) (size : ℕ) (k v : List ℕ) → IsSorted fs → from_sorted fs ≡ m → gs ≡ cond (is_full_at size (from_sorted fs) k) fs (with_entry fs k v)
    → ◌≡◌ {A = Bounded} (record { size = size; contents = from_sorted gs }) (cond (is_full_at size m k) (record { size = size; contents = m }) (record { size = size; contents = insert m k v }))
late_after m fs gs size k v sorted same e =
    ap (λ l. record { size = size; contents = from_sorted l }) (e ∙ ap (λ x. cond (is_full_at size x k) fs (with_entry fs k v)) same) ∙ go (is_full_at size m k)
  where
    go : (b : Bool) → ◌≡◌ {A = Bounded} (record { size = size; contents = from_sorted (cond b fs (with_entry fs k v)) }) (cond b (record { size = size; contents = m }) (record { size = size; contents = insert m k v }))
    go true = ap (λ (x : Contents). record { size = size; contents = x }) same
    go false = ap (λ (x : Contents). record { size = size; contents = x }) (map_with fs k v sorted ∙ ap (λ x. insert x k v) same)

pub sorted_either : (fs gs : Entries) (k v : List ℕ) (b : Bool) → IsSorted fs → gs ≡ cond b fs (with_entry fs k v) → IsSorted gs
sorted_either fs gs k v true sorted e = subst IsSorted (sym e) sorted
sorted_either fs gs k v false sorted e = subst IsSorted (sym e) (sorted_with fs k v sorted)

-- ---- rows in order alone
pub none_kept : (es : Entries) (size capacity : ℕ) → IsSorted es → size ≤ capacity → IsKeptIn None es size capacity
none_kept es size capacity sorted room = record { sorted = sorted; room = room; reserve = tt; bound = tt }

-- ---- a row that goes
pub gone_kept : (o o' : Option Fitted) (es : Entries) (size capacity : ℕ) (k : List ℕ) → IsKeptIn o es size capacity → o' ≡ packed_without o k → IsKeptIn o' es size capacity
gone_kept None o' es size capacity k kept e = subst (λ q. IsKeptIn q es size capacity) (sym e) kept
gone_kept (Some f) o' es size capacity k kept e =
    subst (λ q. IsKeptIn q es size capacity) (sym e) (record { sorted = kept.sorted; room = kept.room; reserve = kept.reserve; bound = kept.bound })

pub gone_was : (o : Option Fitted) (es : Entries) (k : List ℕ) (was : Bool) → IsSome o → IfSome o (λ f. was ≡ contains_key f.contents k) → was ≡ contains_key (contents_in o es) k
gone_was None es k was some is = absurd (true≢false (sym some))
gone_was (Some f) es k was some is = is

pub gone_after : (o o' : Option Fitted) (es : Entries) (size : ℕ) (k : List ℕ) → IsSome o → o' ≡ packed_without o k
    → ◌≡◌ {A = Bounded} (bounded_of size o' es) (record { size = size; contents = remove (contents_in o es) k })
gone_after None o' es size k some e = absurd (true≢false (sym some))
gone_after (Some f) o' es size k some e = ap (λ q. bounded_of size q es) e

pub late_gone : (m : Contents) (fs gs : Entries) (size : ℕ) (k : List ℕ) → IsSorted fs → from_sorted fs ≡ m → gs ≡ without_entry fs k
    → ◌≡◌ {A = Bounded} (record { size = size; contents = from_sorted gs }) (record { size = size; contents = remove m k })
late_gone m fs gs size k sorted same e =
    ap (λ (z : Contents). record { size = size; contents = z }) (ap (λ l. from_sorted l) e ∙ map_without fs k sorted ∙ ap (λ z. remove z k) same)

-- ---- further calls
pub new_contents : (keys values : List ℕ) (size : ℕ) (o : Option Fitted) (es : Entries) → IfSome o (λ f. f ≡ record { keys = keys; values = values; capacity = size; contents = empty }) → es ≡ [] → contents_in o es ≡ empty
new_contents keys values size None es is e = map_empty (from_sorted es) (ap (λ l. from_sorted l) e)
new_contents keys values size (Some f) es is e = ap (λ (g : Fitted). g.contents) is

pub was_late : (o : Option Fitted) (es : Entries) (size : ℕ) (k v : List ℕ) (r : Kept) → HasSize o size → r ≡ packed_answer o k v → ((r ≡ Full) ⊎ (r ≡ Misfit)) → packed_after o k v ≡ o
was_late o es size k v r bound e (inl full) = (was_full o es size k v bound (sym full ∙ e)).after
was_late o es size k v r bound e (inr misfit) = was_misfit o k v (sym misfit ∙ e)

pub set_late : {X E : Type 0} (r : Result X E) (o q : Option Fitted) (es fs gs : Entries) (size : ℕ) (k v : List ℕ) (b : Bounded) → q ≡ None → IsSorted fs → from_sorted fs ≡ contents_in o es → gs ≡ cond (is_ok r) (with_entry fs k v) fs
    → bounded_of size o es ≡ b → IfOk r (λ x. bounded_of size q gs ≡ stored_row b k v)
set_late (Ok x) o q es fs gs size k v b none sorted same e view =
    ap (λ p. bounded_of size p gs) none
    ∙ ap (λ (z : Contents). record { size = size; contents = z }) (ap (λ l. from_sorted l) e ∙ map_with fs k v sorted ∙ ap (λ z. insert z k v) same)
    ∙ ap (λ z. stored_row z k v) view
set_late (Err x) o q es fs gs size k v b none sorted same e view = tt
