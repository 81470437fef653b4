-- What a limits file tells is in range.
use Rattle.std.proofs.Common.{◌≡◌, ◌≤◌, ℕ, Bool, true, false, cond, ◌&&◌, Option, Some, None, refl, arith}
use Rattle.std.specs.Prelude.{ℤ, pos, negsuc, int_le, List, option_and_then}
use Rattle.std.proofs.lemmas.Bool.{and_parts, leb-true}
use Rattle.toml.specs.Data.{Data, as_integer, get_member}
use Rattle.resource_limits.specs.Limits.{AreInRange, TellsLimits, highest, lowest, name_of, number_in, whole_in}
use Rattle.resource_limits.specs.declared.limits.Key.{Key}
use Rattle.resource_limits.specs.declared.limits.Key.TheVariants.{TableBits, Stages, Writeback, TransferBytes}
use Rattle.resource_limits.specs.declared.limits.Limits.{Limits}

whole_between : (low high k n : ℕ) (t : Bool) → (int_le (pos low) (pos k) && int_le (pos k) (pos high)) ≡ t
    → cond t (Some k) None ≡ Some n → (low ≤ n) × (n ≤ high)
whole_between low high k n true is h =
    let parts = and_parts (int_le (pos low) (pos k)) (int_le (pos k) (pos high)) is in
    let least = leb-true low k parts.0 in
    let most = leb-true k high parts.1 in
    let same : k ≡ n = cc in
    (omega arith, omega arith)
whole_between low high k n false is h = cc

whole_is : (key : Key) (z : ℤ) (n : ℕ) → whole_in key z ≡ Some n → (lowest key ≤ n) × (n ≤ highest key)
whole_is key (pos k) n h =
    whole_between (lowest key) (highest key) k n
    (int_le (pos (lowest key)) (pos k) && int_le (pos k) (pos (highest key))) refl h
whole_is key (negsuc k) n h = cc

integer_is : (key : Key) (o : Option ℤ) (n : ℕ) → option_and_then (whole_in key) o ≡ Some n
    → (lowest key ≤ n) × (n ≤ highest key)
integer_is key None n h = cc
integer_is key (Some z) n h = whole_is key z n h

value_is : (key : Key) (o : Option Data) (n : ℕ) → option_and_then (number_in key) o ≡ Some n
    → (lowest key ≤ n) × (n ≤ highest key)
value_is key None n h = cc
value_is key (Some value) n h = integer_is key (as_integer value) n h

pub told_in_range : (text : List ℕ) (allowed : Limits) → TellsLimits text allowed → AreInRange allowed
told_in_range text allowed (table, document, (bits, stages, rows, bytes)) =
    let a = value_is TableBits (get_member (name_of TableBits) table) allowed.table_bits bits in
    let b = value_is Stages (get_member (name_of Stages) table) allowed.stages stages in
    let c = value_is Writeback (get_member (name_of Writeback) table) allowed.writeback rows in
    let d = value_is TransferBytes (get_member (name_of TransferBytes) table) allowed.transfer_bytes bytes in
    (a.1, b.1, c.1, d.0, d.1)
