-- Fields that are assigned, over those that arrived.
use Rattle.std.proofs.Common.{◌≡◌, ℕ, zero, suc, ◌+◌, ◌<◌, ◌≤◌, ◌≢◌, Bool, true, false, cond, List, [], ◌∷◌, Option, Some, None, length, map, replicate, drop, get_or, slice_index, slice_set, set, unwrap_or, refl, sym, ap, ◌∙◌, arith, drop-cons}
use Rattle.std.proofs.Math.ListN.{drop_of_length-le}
use Rattle.std.proofs.lemmas.List.{get_or-map, length-map}
use Rattle.packet_fields.specs.declared.field.Field.{Field}
use Rattle.packet_fields.specs.declared.field.Field.TheVariants.{MetaPort}
use Rattle.packet_fields.specs.FieldOrder.{at_index, index-lt, length-all_fields}
use Rattle.packet_fields.specs.Table.{row, all_fields, field_count, field_index}
use Rattle.packet_fields.specs.Fields.{field_value, with_field}
use Rattle.packet_fields.specs.Several.{AreBytes, with_chosen}
use Rattle.element_lang.specs.Meaning.{with_fields}
use Rattle.element_interp.specs.Fields.{arrived, over, fields_over, with_assigned}

-- where nothing is assigned
none_over : (n : ℕ) (values : List ℕ) → over (replicate n None) values ≡ values
none_over zero values = refl
none_over (suc n) [] = refl
none_over (suc n) (v ∷ vs) = ap (λ l. v ∷ l) (none_over n vs)

-- a value is assigned
set_over : (assigned : List (Option ℕ)) (values : List ℕ) (i v : ℕ) → length assigned ≡ length values
    → over (slice_set assigned i (Some v)) values ≡ slice_set (over assigned values) i v
set_over [] [] i v same = refl
set_over [] (x ∷ xs) i v same = absurd (omega (arith, same))
set_over (a ∷ more) [] i v same = absurd (omega (arith, same))
set_over (a ∷ more) (x ∷ xs) zero v same = refl
set_over (a ∷ more) (x ∷ xs) (suc i) v same = ap (λ l. unwrap_or a x ∷ l) (set_over more xs i v (omega (arith, same)))

-- what is read at a place
read_over : (assigned : List (Option ℕ)) (values : List ℕ) (i : ℕ) → length assigned ≡ length values → i < length values
    → slice_index (over assigned values) i ≡ unwrap_or (get_or assigned i None) (slice_index values i)
read_over [] [] i same within = absurd (omega (arith, within))
read_over [] (x ∷ xs) i same within = absurd (omega (arith, same))
read_over (a ∷ more) [] i same within = absurd (omega (arith, within))
read_over (a ∷ more) (x ∷ xs) zero same within = refl
read_over (a ∷ more) (x ∷ xs) (suc i) same within = read_over more xs i (omega (arith, same)) (omega (arith, within))

-- ---- the place of the field at a place
abbrev counted_from : ℕ → List Field → List ℕ
counted_from n [] = []
counted_from n (f ∷ fs) = n ∷ counted_from (suc n) fs

counted : map field_index all_fields ≡ counted_from 0 all_fields
unfolding all_fields
counted = refl

at_counted : (fs : List Field) (n i : ℕ) → i < length fs → get_or (counted_from n fs) i 0 ≡ n + i
at_counted [] n i within = absurd (omega (arith, within))
at_counted (f ∷ fs) n zero within = omega arith
at_counted (f ∷ fs) n (suc i) within = omega (arith, at_counted fs (suc n) i (omega (arith, within)))

index_at : (i : ℕ) → i < field_count → field_index (get_or all_fields i MetaPort) ≡ i
index_at i within =
    let inside : i < length all_fields = omega (arith, within, length-all_fields) in
    sym (get_or-map field_index all_fields i MetaPort 0 inside) ∙ ap (λ l. get_or l i 0) counted ∙ omega (arith, at_counted all_fields 0 i inside)

-- ---- some fields are assigned
pub nothing_assigned : (bytes : List ℕ) (port : ℕ) → fields_over (replicate field_count None) bytes port ≡ arrived bytes port
unfolding fields_over
nothing_assigned bytes port = none_over field_count (arrived bytes port)

all_arrived : (bytes : List ℕ) (port : ℕ) → length (arrived bytes port) ≡ field_count
all_arrived bytes port = length-map all_fields (field_value bytes port) ∙ length-all_fields

pub one_assigned : (assigned : List (Option ℕ)) (bytes : List ℕ) (port i v : ℕ) → length assigned ≡ field_count
    → fields_over (slice_set assigned i (Some v)) bytes port ≡ slice_set (fields_over assigned bytes port) i v
unfolding fields_over
one_assigned assigned bytes port i v sized = set_over assigned (arrived bytes port) i v (sized ∙ sym (all_arrived bytes port))

pub field_read : (assigned : List (Option ℕ)) (bytes : List ℕ) (port : ℕ) (f : Field) (a : Option ℕ) → length assigned ≡ field_count
    → a ≡ get_or assigned (field_index f) None
    → unwrap_or a (field_value bytes port f) ≡ slice_index (fields_over assigned bytes port) (field_index f)
unfolding fields_over
field_read assigned bytes port f a sized is =
    let also : field_index f < length all_fields = omega (arith, index-lt f, length-all_fields) in
    let inside : field_index f < length (arrived bytes port) = omega (arith, index-lt f, all_arrived bytes port) in
    let own : slice_index (arrived bytes port) (field_index f) ≡ field_value bytes port f = get_or-map (field_value bytes port) all_fields (field_index f) MetaPort 0 also ∙ ap (field_value bytes port) (at_index f) in
    ap (λ a. unwrap_or a (field_value bytes port f)) is
    ∙ ap (unwrap_or (get_or assigned (field_index f) None)) (sym own)
    ∙ sym (read_over assigned (arrived bytes port) (field_index f) (sized ∙ sym (all_arrived bytes port)) inside)

-- ---- the fields that are written into a packet

-- the value of the field at a place, over those that arrived in these bytes
value_at : (assigned : List (Option ℕ)) (first : List ℕ) (port i : ℕ) → length assigned ≡ field_count → i < field_count
    → slice_index (over assigned (arrived first port)) (field_index (get_or all_fields i MetaPort))
    ≡ unwrap_or (get_or assigned (field_index (get_or all_fields i MetaPort)) None) (field_value first port (get_or all_fields i MetaPort))
unfolding fields_over
value_at assigned first port i sized within =
    let f = get_or all_fields i MetaPort in
    sym (field_read assigned first port f (get_or assigned (field_index f) None) sized refl)

-- the fields from a place on: the first of them, and the others
fields_from : (i : ℕ) → i < field_count → drop i all_fields ≡ get_or all_fields i MetaPort ∷ drop (i + 1) all_fields
fields_from i within =
    let inside : i < length all_fields = omega (arith, within, length-all_fields) in
    let next : suc i ≡ i + 1 = omega arith in
    drop-cons all_fields i MetaPort inside ∙ ap (λ n. get_or all_fields i MetaPort ∷ drop n all_fields) next

abbrev pub Leads : List (Option ℕ) → List ℕ → List ℕ → ℕ → ℕ → Type 0
Leads assigned first now i port =
    with_fields (drop i all_fields) (over assigned (arrived first port)) now
    ≡ with_fields all_fields (over assigned (arrived first port)) first

-- A field that can be written gets what is assigned to it, and else it has the value with which it arrived.
one_on : (assigned : List (Option ℕ)) (first now : List ℕ) (i port : ℕ) (a : Option ℕ) → length assigned ≡ field_count → i < field_count
    → get_or assigned (field_index (get_or all_fields i MetaPort)) None ≡ a
    → field_value now port (get_or all_fields i MetaPort) ≡ field_value first port (get_or all_fields i MetaPort)
    → with_field now (get_or all_fields i MetaPort) (field_value now port (get_or all_fields i MetaPort)) ≡ now
    → with_chosen now (get_or all_fields i MetaPort) a
    ≡ with_field now (get_or all_fields i MetaPort) (slice_index (over assigned (arrived first port)) (field_index (get_or all_fields i MetaPort)))
one_on assigned first now i port None sized within is same own =
    let f = get_or all_fields i MetaPort in
    sym own ∙ ap (with_field now f) (same ∙ sym (value_at assigned first port i sized within ∙ ap (λ a. unwrap_or a (field_value first port f)) is))
one_on assigned first now i port (Some value) sized within is same own =
    let f = get_or all_fields i MetaPort in
    ap (with_field now f) (sym (value_at assigned first port i sized within ∙ ap (λ a. unwrap_or a (field_value first port f)) is))

pub one_more : (assigned : List (Option ℕ)) (first now : List ℕ) (i port : ℕ) → length assigned ≡ field_count → i < field_count
    → field_value now port (get_or all_fields i MetaPort) ≡ field_value first port (get_or all_fields i MetaPort)
    → with_field now (get_or all_fields i MetaPort) (field_value now port (get_or all_fields i MetaPort)) ≡ now
    → Leads assigned first now i port → Leads assigned first (with_assigned assigned now (get_or all_fields i MetaPort)) (i + 1) port
one_more assigned first now i port sized within same own leads =
    let f = get_or all_fields i MetaPort in
    let values = over assigned (arrived first port) in
    let a = get_or assigned (field_index f) None in
    ap (λ l. with_fields (drop (i + 1) all_fields) values (cond (row f).writable l now)) (one_on assigned first now i port a sized within refl same own)
    ∙ sym (ap (λ fs. with_fields fs values now) (fields_from i within))
    ∙ leads

-- behind the last field
pub all_written : (assigned : List (Option ℕ)) (first now : List ℕ) (i port : ℕ) → field_count ≤ i
    → Leads assigned first now i port → now ≡ with_fields all_fields (fields_over assigned first port) first
unfolding fields_over
all_written assigned first now i port over_all leads =
    let none : drop i all_fields ≡ [] = drop_of_length-le all_fields (omega (arith, over_all, length-all_fields)) in
    sym (ap (λ fs. with_fields fs (over assigned (arrived first port)) now) none) ∙ leads

-- the field at another place is another one
apart : (i k : ℕ) → i < field_count → k < field_count → i < k → get_or all_fields i MetaPort ≢ get_or all_fields k MetaPort
apart i k within also lt same =
    absurd (omega (arith, lt, sym (index_at i within) ∙ ap field_index same ∙ index_at k also))

-- a later field reads as before
pub later_as_before : (assigned : List (Option ℕ)) (first now : List ℕ) (i port k : ℕ) → i < field_count → k < field_count → i + 1 ≤ k
    → ((value : ℕ) → (row (get_or all_fields i MetaPort)).writable ≡ true → get_or all_fields i MetaPort ≢ get_or all_fields k MetaPort
    → field_value (with_field now (get_or all_fields i MetaPort) value) port (get_or all_fields k MetaPort) ≡ field_value now port (get_or all_fields k MetaPort))
    → field_value now port (get_or all_fields k MetaPort) ≡ field_value first port (get_or all_fields k MetaPort)
    → field_value (with_assigned assigned now (get_or all_fields i MetaPort)) port (get_or all_fields k MetaPort) ≡ field_value first port (get_or all_fields k MetaPort)
later_as_before assigned first now i port k within also lt others before =
    let f = get_or all_fields i MetaPort in
    let g = get_or all_fields k MetaPort in
    let chosen : (may : (row f).writable ≡ true) (a : Option ℕ) → field_value (with_chosen now f a) port g ≡ field_value first port g = λ may a. elim a as (λ a. field_value (with_chosen now f a) port g ≡ field_value first port g) [ None ↦ before | Some value ↦ others value may (apart i k within also (omega (arith, lt))) ∙ before ] in
    let either : (b : Bool) → (row f).writable ≡ b → field_value (cond b (with_chosen now f (get_or assigned (field_index f) None)) now) port g ≡ field_value first port g = λ b. elim b as (λ b. (row f).writable ≡ b → field_value (cond b (with_chosen now f (get_or assigned (field_index f) None)) now) port g ≡ field_value first port g) [ true ↦ λ may. chosen may (get_or assigned (field_index f) None) | false ↦ λ _. before ] in
    either (row f).writable refl

-- and bytes stay bytes
pub still_bytes : (assigned : List (Option ℕ)) (now : List ℕ) (f : Field) → ((value : ℕ) → AreBytes (with_field now f value)) → AreBytes now → AreBytes (with_assigned assigned now f)
still_bytes assigned now f set are =
    let chosen : (a : Option ℕ) → AreBytes (with_chosen now f a) = λ a. elim a as (λ a. AreBytes (with_chosen now f a)) [ None ↦ are | Some value ↦ set value ] in
    elim (row f).writable as (λ b. AreBytes (cond b (with_chosen now f (get_or assigned (field_index f) None)) now)) [ true ↦ chosen (get_or assigned (field_index f) None) | false ↦ are ]
