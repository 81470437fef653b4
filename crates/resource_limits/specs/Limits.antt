-- What a limits file tells, and why one is refused.
use Rattle.std.specs.Prelude.{◌≡◌, ◌≤◌, ℕ, ℤ, pos, int_le, unsigned_abs, Bool, true, false, not, ◌||◌, ◌&&◌, List, []}
use Rattle.std.specs.Prelude.{◌∷◌, Option, Some, None, codes, cond, is_none, option_map, option_and_then}
use Rattle.std.specs.List.{find}
use Rattle.std.specs.Str.{is_utf8, bytes_eq}
use Rattle.toml.specs.Data.{Data, as_integer, Members, no_members, member, get_member}
use Rattle.toml.specs.Parse.{parse_document}
use Rattle.resource_limits.specs.declared.limits.Limits.{Limits}
use Rattle.resource_limits.specs.declared.limits.LimitsError.{LimitsError}
use Rattle.resource_limits.specs.declared.limits.LimitsError.TheVariants.{Toml, Missing, Unknown, Range}
use Rattle.resource_limits.specs.declared.limits.Key.{Key}
use Rattle.resource_limits.specs.declared.limits.Key.TheVariants.{TableBits, Stages, Writeback, TransferBytes}

-- the name of a key, and its range
abbrev pub name_of : Key → List ℕ
name_of TableBits = codes "table_bits"
name_of Stages = codes "stages"
name_of Writeback = codes "writeback"
name_of TransferBytes = codes "transfer_bytes"

abbrev pub lowest : Key → ℕ
lowest TransferBytes = 2
lowest _ = 0

abbrev pub highest : Key → ℕ
highest TableBits = 1000000000000
highest Stages = 4096
highest Writeback = 65536
highest TransferBytes = 65535

-- the keys, in the order in which a refusal names the first
abbrev pub keys : List Key
keys = TableBits ∷ Stages ∷ Writeback ∷ TransferBytes ∷ []

-- the bytes are the name of a key
abbrev pub is_name : List ℕ → Bool
is_name name =
    bytes_eq name (name_of TableBits) || (bytes_eq name (name_of Stages)
    || (bytes_eq name (name_of Writeback) || bytes_eq name (name_of TransferBytes)))

-- the integer itself, where it is in the range of the key
abbrev pub whole_in : Key → ℤ → Option ℕ
whole_in key z = cond (int_le (pos (lowest key)) z && int_le z (pos (highest key))) (Some (unsigned_abs z)) None

-- the number of a value, where it is an integer in the range of the key
abbrev pub number_in : Key → Data → Option ℕ
number_in key value = option_and_then (whole_in key) (as_integer value)

abbrev pub number_at : Members → Key → Option ℕ
number_at table key = option_and_then (number_in key) (get_member (name_of key) table)

abbrev pub is_missing : Members → Key → Bool
is_missing table key = is_none (get_member (name_of key) table)

abbrev pub is_outside : Members → Key → Bool
is_outside table key = is_none (number_at table key)

-- some key of the table is none of the four
abbrev pub has_other_key : Members → Bool
has_other_key no_members = false
has_other_key (member name value rest) = not (is_name name) || has_other_key rest

-- why a table is refused: the first missing key, then any other key,
-- then the first key with a value outside of its range
abbrev pub first_fault : Option Key → Bool → Option Key → Option LimitsError
first_fault (Some key) other outside = Some (Missing key)
first_fault None true outside = Some Unknown
first_fault None false outside = option_map Range outside

abbrev pub fault_of : Members → Option LimitsError
fault_of table =
    first_fault (find (is_missing table) keys) (has_other_key table) (find (is_outside table) keys)

-- the table of a text, where it is UTF-8 and a TOML document
abbrev pub document : List ℕ → Option Members
document text = cond (is_utf8 text) (parse_document text) None

-- why a text is refused, if it is
abbrev pub refusal_in : Option Members → Option LimitsError
refusal_in None = Some Toml
refusal_in (Some table) = fault_of table

abbrev pub refusal_of : List ℕ → Option LimitsError
refusal_of text = refusal_in (document text)

-- the table has these limits at its four keys
abbrev pub HasLimits : Members → Limits → Type 0
HasLimits table limits =
    (number_at table TableBits ≡ Some limits.table_bits) × (number_at table Stages ≡ Some limits.stages)
    × (number_at table Writeback ≡ Some limits.writeback) × (number_at table TransferBytes ≡ Some limits.transfer_bytes)

abbrev pub TellsLimits : List ℕ → Limits → Type 0
TellsLimits text limits = (table : Members) × (document text ≡ Some table) × HasLimits table limits

-- each number is in the range of its key
abbrev pub AreInRange : Limits → Type 0
AreInRange limits =
    (limits.table_bits ≤ 1000000000000) × (limits.stages ≤ 4096) × (limits.writeback ≤ 65536)
    × (2 ≤ limits.transfer_bytes) × (limits.transfer_bytes ≤ 65535)
