-- Rows of declared widths, as a table of words holds them.
use Rattle.std.specs.Prelude.{◌≡◌, ⊤, ℕ, Bool, true, ◌&&◌, ◌*◌, List, [], ◌∷◌, map, refl, if◌then◌else◌}
use Rattle.std.specs.Coded.{Coded, code_by, coded×, coded_ℕ, coded_list}
use Rattle.std.specs.FinMap as map
use Rattle.std.specs.FinMap.{entries, from_sorted}
use Rattle.slot_table.specs.Table.{Contents, Entry, is_table_full}
use Rattle.slot_table.specs.declared.table.Slot.{Slot}
use Rattle.slot_table.specs.declared.table.Slot.TheVariants as slot
use Rattle.state_store.specs.Codes.{contents_code}
use Rattle.state_store.specs.Kept.{have_widths}
use Rattle.state_store.specs.Packing.{Packing, have_room, packed_list, unpacked_list}
use Rattle.state_store.specs.Places.{Entries}
use Rattle.state_store.specs.Sizes.{key_words, value_words}
use Rattle.state_store.specs.declared.any_table.AnyTable.{AnyTable}
use Rattle.state_store.specs.declared.packed_rows.Kept.{Kept}
use Rattle.state_store.specs.declared.packed_rows.Kept.TheVariants.{Stored, Full, Misfit}

abbrev pub unpacked_row : Packing → Entry → Entry
unpacked_row p row = (unpacked_list p.key_words p.keys row.0, unpacked_list p.value_words p.values row.1)

-- the words have room for numbers of the widths
pub record IsRoomy (p : Packing) : Type 0 where
  pub keys : have_room (64 * p.key_words) p.keys ≡ true
  pub values : have_room (64 * p.value_words) p.values ≡ true

-- a row of words that numbers of the widths were packed into
pub record IsPackedRow (p : Packing) (row : Entry) : Type 0 where
  pub key_fits : have_widths p.keys (unpacked_row p row).0 ≡ true
  pub values_fit : have_widths p.values (unpacked_row p row).1 ≡ true
  pub same_key : packed_list p.key_words p.keys (unpacked_row p row).0 ≡ row.0
  pub same_values : packed_list p.value_words p.values (unpacked_row p row).1 ≡ row.1

abbrev pub ArePacked : Packing → Entries → Type 0
ArePacked p [] = ⊤
ArePacked p (row ∷ rows) = IsPackedRow p row × ArePacked p rows

-- what rows of words hold
abbrev pub contents_of : Packing → Contents → Contents
contents_of p rows = from_sorted (map (unpacked_row p) (entries rows))

-- rows that were packed
pub record HoldsPacked (p : Packing) (rows : Contents) : Type 0 where
  pub roomy : IsRoomy p
  pub packed : ArePacked p (entries rows)

-- keys and values of these widths in a table's words
abbrev pub packing_of : List ℕ → List ℕ → AnyTable → Packing
packing_of keys values table =
    record { keys = keys; values = values; key_words = key_words table; value_words = value_words table }

-- contents of declared widths, and how many rows there may be
pub record Fitted : Type 0 where
  pub keys : List ℕ
  pub values : List ℕ
  pub capacity : ℕ
  pub contents : Contents

abbrev pub fitted_code : Coded Fitted
fitted_code =
    code_by ((List ℕ × List ℕ) × (ℕ × Contents))
    (coded× (coded× (coded_list coded_ℕ) (coded_list coded_ℕ)) (coded× coded_ℕ contents_code))
    (λ f. ((f.keys, f.values), (f.capacity, f.contents)))
    (λ p. record { keys = p.0.0; values = p.0.1; capacity = p.1.0; contents = p.1.1 }) (λ _. refl)

-- the key is new, and there is no room for one more row
abbrev pub is_full_at : ℕ → Contents → List ℕ → Bool
is_full_at capacity contents key = is_table_full (record { rows = contents; capacity = capacity; slots = [] }) key

-- what an insert into a table says of a row
abbrev pub kept_by : Slot → Kept
kept_by slot.Stored = Stored
kept_by slot.Full = Full

-- the row has the declared widths
abbrev pub fits_row : Fitted → List ℕ → List ℕ → Bool
fits_row f key values = have_widths f.keys key && have_widths f.values values

abbrev pub keep_answer : Fitted → List ℕ → List ℕ → Kept
keep_answer f key values =
    if fits_row f key values then (if is_full_at f.capacity f.contents key then Full else Stored) else Misfit

abbrev pub kept_row : Fitted → List ℕ → List ℕ → Fitted
kept_row f key values =
    if fits_row f key values then (if is_full_at f.capacity f.contents key then f
    else record f { contents = map.insert f.contents key values }) else f
