-- The rows of an object, packed or in the order of their keys.
use Rattle.std.specs.Prelude.{◌≡◌, ⊤, ℕ, ◌≤◌, Bool, List, [], Option, Some, None, refl}
use Rattle.std.specs.Coded.{Coded, code_by, coded×, coded_ℕ}
use Rattle.std.specs.FinMap as map
use Rattle.std.specs.FinMap.{entries, from_sorted}
use Rattle.state_store.specs.Codes.{contents_code}
use Rattle.state_store.specs.Fitted.{Fitted, is_full_at, keep_answer, kept_row}
use Rattle.state_store.specs.Places.{Entries, IsSorted}
use Rattle.state_store.specs.Store.{Contents}
use Rattle.state_store.specs.declared.packed_rows.Kept.{Kept}
use Rattle.state_store.specs.declared.packed_rows.Kept.TheVariants.{Misfit}

-- contents, and how many rows a put leaves at most
pub record Bounded : Type 0 where
  pub size : ℕ
  pub contents : Contents

abbrev pub bounded_code : Coded Bounded
bounded_code = code_by (ℕ × Contents) (coded× coded_ℕ contents_code) (λ b. (b.size, b.contents))
    (λ p. record { size = p.0; contents = p.1 }) (λ _. refl)

-- the key is new, and there is no room
abbrev pub is_full_in : Bounded → List ℕ → Bool
is_full_in b key = is_full_at b.size b.contents key

abbrev pub stored_row : Bounded → List ℕ → List ℕ → Bounded
stored_row b key values = record b { contents = map.insert b.contents key values }

-- rows that are packed, or else lie in order
abbrev pub contents_in : Option Fitted → Entries → Contents
contents_in None es = from_sorted es
contents_in (Some f) es = f.contents

abbrev pub unpacked_entries : Option Fitted → Entries → Entries
unpacked_entries None es = es
unpacked_entries (Some f) es = entries f.contents

-- there is memory for the packed rows in order, and nothing else is in it
abbrev pub CanUnpack : Option Fitted → Entries → ℕ → Type 0
CanUnpack None es capacity = ⊤
CanUnpack (Some f) es capacity = (es ≡ []) × (f.capacity ≤ capacity)

abbrev pub HasSize : Option Fitted → ℕ → Type 0
HasSize None size = ⊤
HasSize (Some f) size = f.capacity ≡ size

pub record IsKeptIn (packed : Option Fitted) (es : Entries) (size capacity : ℕ) : Type 0 where
  pub sorted : IsSorted es
  pub room : size ≤ capacity
  pub reserve : CanUnpack packed es capacity
  pub bound : HasSize packed size

-- a row put among packed ones, if there are any
abbrev pub packed_answer : Option Fitted → List ℕ → List ℕ → Kept
packed_answer None key values = Misfit
packed_answer (Some f) key values = keep_answer f key values

-- packed rows without that of a key
abbrev pub packed_without : Option Fitted → List ℕ → Option Fitted
packed_without None key = None
packed_without (Some f) key = Some (record f { contents = map.remove f.contents key })

abbrev pub packed_after : Option Fitted → List ℕ → List ℕ → Option Fitted
packed_after None key values = None
packed_after (Some f) key values = Some (kept_row f key values)
