-- A table with one word or two in a key and in a value.
use Rattle.std.specs.Prelude.{ℕ, ◌*◌, List, [], ◌∷◌, Option, Some, None}
use Rattle.std.specs.FinMap as map
use Rattle.slot_table.specs.Table.{Table, Entry, Contents, Slots}
use Rattle.state_store.specs.Places.{Entries}
use Rattle.state_store.specs.Packing.{number, parts}
use Rattle.state_store.specs.declared.any_table.AnyTable.{AnyTable}
use Rattle.state_store.specs.declared.any_table.AnyTable.TheVariants.{OneOne, OneTwo, TwoOne, TwoTwo}

abbrev pub table_of : AnyTable → Table
table_of (OneOne table) = table
table_of (OneTwo table) = table
table_of (TwoOne table) = table
table_of (TwoTwo table) = table

-- how many words a key has
abbrev pub key_words : AnyTable → ℕ
key_words (TwoOne table) = 2
key_words (TwoTwo table) = 2
key_words _ = 1

-- how many words a value has
abbrev pub value_words : AnyTable → ℕ
value_words (OneTwo table) = 2
value_words (TwoTwo table) = 2
value_words _ = 1

-- the words of a row as two numbers
abbrev pub row_numbers : Entry → ℕ × ℕ
row_numbers row = (number row.0, number row.1)

-- the rows that slots hold, from the first slot on
abbrev pub slot_rows : Slots → Entries
slot_rows [] = []
slot_rows (None ∷ slots) = slot_rows slots
slot_rows (Some row ∷ slots) = row ∷ slot_rows slots

-- what a slot holds among other rows
abbrev pub with_slot : Contents → Option Entry → Contents
with_slot rows None = rows
with_slot rows (Some row) = map.insert rows row.0 row.1

-- the lists that were packed into the two numbers of a slot
abbrev pub unpacked_entries : ℕ → ℕ → List ℕ → List ℕ → Option (ℕ × ℕ) → Entries
unpacked_entries key_words value_words keys values None = []
unpacked_entries key_words value_words keys values (Some row) =
    (parts (64 * key_words) keys row.0, parts (64 * value_words) values row.1) ∷ []
