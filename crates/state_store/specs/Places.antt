-- Rows in the order of their keys, and the place of a key among them.
use Rattle.std.specs.Prelude.{◌≡◌, ◌<◌, ◌≤◌, ℕ, T, not, List, [], length, slice_index_or}
use Rattle.std.specs.declared.cmp.Ordering.TheVariants.{Less, Equal, Greater}
use Rattle.std.specs.FinMap.{is_sorted}
use Rattle.std.specs.FinMap.Entries.{where_key}
use Rattle.std.specs.Ordering.{eq_by_cmp}
use Rattle.std.specs.FinMap as map
use Rattle.state_store.specs.Store.{key_cmp, Contents}

-- keys with their values
abbrev pub Entries : Type 0
Entries = List (List ℕ × List ℕ)

-- the finite map of entries whose keys rise
abbrev pub map_of : Entries → Contents
map_of = map.from_sorted

-- the keys strictly rise
abbrev pub IsSorted : Entries → Type 0
IsSorted entries = T (is_sorted key_cmp entries)

-- one entry set
abbrev pub with_entry : Entries → List ℕ → List ℕ → Entries
with_entry entries key values = map.put key_cmp key values entries

-- the entries without that of a key
abbrev pub without_entry : Entries → List ℕ → Entries
without_entry entries key = where_key key_cmp (λ k. not (eq_by_cmp key_cmp key k)) entries

-- the key of the entry at place i
abbrev pub key_at : Entries → ℕ → List ℕ
key_at entries i = let entry = slice_index_or entries i ([], []) in entry.0

-- the entry at place i has the key, and those before it have lower ones
pub record IsPlaceOf (entries : Entries) (key : List ℕ) (i : ℕ) : Type 0 where
  pub in_range : i < length entries
  pub before : (j : ℕ) → j < i → key_cmp key (key_at entries j) ≡ Greater
  pub here : key_cmp key (key_at entries i) ≡ Equal

-- no entry has the key, which would go at place i
pub record IsGapFor (entries : Entries) (key : List ℕ) (i : ℕ) : Type 0 where
  pub in_range : i ≤ length entries
  pub before : (j : ℕ) → j < i → key_cmp key (key_at entries j) ≡ Greater
  pub next : i < length entries → key_cmp key (key_at entries i) ≡ Less
