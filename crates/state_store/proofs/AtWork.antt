-- An object whose contents are given as sorted entries.
use Rattle.std.proofs.Common.{◌≡◌, ℕ, ◌<◌, ◌≤◌, Bool, true, false, cond, not, ◌&&◌, nat_le, List, [], length, get_or, Some, None, is_some, unwrap_or, Result, Ok, Err, is_ok, IfOk, IfErr, refl, sym, ap, ◌∙◌, subst, arith}
use Rattle.std.proofs.lemmas.Option.{slice_get_past}
use Rattle.std.proofs.lemmas.Bool.Decides.{nat_tests}
use Rattle.std.specs.FinMap.{from_sorted, len, entries, get-empty, len-empty, entries-from_sorted}
use Rattle.state_store.specs.declared.object.Kind.{Kind}
use Rattle.state_store.specs.declared.store.Put.TheVariants.{Stored, Full}
use Rattle.state_store.specs.Store.{key_cmp, Object, look, looked_up, is_out, is_full, put_answer, rows_of, rows_from, Store, object_at, no_object}
use Rattle.state_store.specs.Places.{Entries, IsSorted, IsPlaceOf, IsGapFor, with_entry}
use Rattle.state_store.proofs.Entries.{find_here, find_gap, sorted_with, map_empty, map_get, map_len}

abbrev pub object_of : Kind → ℕ → ℕ → Entries → Object
object_of kind size count es = record { kind = kind; size = size; count = count; contents = from_sorted es }

-- a look goes by the place of the key
pub look_here : (kind : Kind) (size count : ℕ) (es : Entries) (k : List ℕ) (i : ℕ) (d : List ℕ × List ℕ) → IsSorted es → IsPlaceOf es k i → look (object_of kind size count es) k ≡ Some (get_or es i d).1
look_here kind size count es k i d sorted p = map_get es k sorted ∙ find_here es k i d p

pub look_gap : (kind : Kind) (size count : ℕ) (es : Entries) (k : List ℕ) (i : ℕ) → IsSorted es → IsGapFor es k i → look (object_of kind size count es) k ≡ None
look_gap kind size count es k i sorted p = map_get es k sorted ∙ find_gap es k i sorted p

-- a key is there where it has a place
pub is_there : (kind : Kind) (size count : ℕ) (es : Entries) (k : List ℕ) (r : Result ℕ ℕ) → IsSorted es → IfOk r (IsPlaceOf es k) → IfErr r (IsGapFor es k) → is_some (look (object_of kind size count es) k) ≡ is_ok r
is_there kind size count es k (Ok i) sorted p g = ap is_some (look_here kind size count es k i ([], []) sorted p)
is_there kind size count es k (Err i) sorted p g = ap is_some (look_gap kind size count es k i sorted g)

-- it is full where a key without a place is one too many
pub full_is : (kind : Kind) (size count : ℕ) (es : Entries) (k : List ℕ) (r : Result ℕ ℕ) (rows : ℕ) (full : Bool) → IsSorted es → IfOk r (IsPlaceOf es k) → IfErr r (IsGapFor es k) → rows ≡ length es → full ≡ (not (is_ok r) && nat_le size rows)
    → is_full (object_of kind size count es) k ≡ full
full_is kind size count es k r rows full sorted p g all e =
    (λ i. not (is_there kind size count es k r sorted p g i) && nat_le size (map_len es sorted i)) ∙ ap (λ n. not (is_ok r) && nat_le size n) (sym all) ∙ sym e

-- a put, by whether there is such an index and whether there is room
pub answer_is : (o : Object) (k : List ℕ) (full : Bool) → is_out o.kind o.size k ≡ false → is_full o k ≡ full → put_answer o k ≡ cond full Full Stored
answer_is o k full out e = rw (out, e) refl

-- entries that were set, or are as before where that failed
pub sorted_either : (es fs : Entries) (k v : List ℕ) (b : Bool) → IsSorted es → fs ≡ cond b (with_entry es k v) es → IsSorted fs
sorted_either es fs k v true sorted e = subst IsSorted (sym e) (sorted_with es k v sorted)
sorted_either es fs k v false sorted e = subst IsSorted (sym e) sorted

-- where there is no lack of room, an entry is stored in the memory that is there
pub in_memory : {P : Type 0} (has_place : Bool) (size rows len capacity : ℕ) → (has_place ≡ true → P) → (len < capacity → P) → (not has_place && nat_le size rows) ≡ false → size ≤ capacity → rows ≡ len → P
in_memory true size rows len capacity here room full le e = here refl
in_memory false size rows len capacity here room full le e = room (grind (arith, nat_tests))

-- ---- a number of no object
pub past_objects : (s : Store) (n : ℕ) → length s ≤ n → object_at s n ≡ no_object
past_objects s n le = ap (λ o. unwrap_or o no_object) (slice_get_past s n le)

pub no_look : (k : List ℕ) → look no_object k ≡ None
no_look k = get-empty key_cmp k

pub no_values : (k : List ℕ) → looked_up no_object k ≡ []
no_values k = ap (λ o. unwrap_or o []) (no_look k)

pub no_answer : (k : List ℕ) → put_answer no_object k ≡ Full
no_answer k = answer_is no_object k true refl (no_room k)
  where
    no_room : (k : List ℕ) → is_full no_object k ≡ true
    no_room k = λ i. not (is_some (no_look k i)) && nat_le 0 (len-empty key_cmp (List ℕ) i)

pub no_rows : rows_of no_object ≡ []
no_rows = ap (λ m. rows_from (entries m)) (sym (map_empty (from_sorted []) refl)) ∙ ap rows_from (entries-from_sorted key_cmp [] tt)
