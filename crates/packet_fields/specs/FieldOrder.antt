-- Lemmas on field order, for this crate and those above: each field stands at its place, and what a test says of the
-- members of the list holds of every field.
use Rattle.std.proofs.Common.{◌≡◌, ℕ, zero, suc, ◌<◌, ◌≤◌, ◌&&◌, Bool, true, List, [], ◌∷◌, get_or, length, nat_le}
use Rattle.std.proofs.Common.{slice_get, slice_index, Some, refl, sym, ap, ◌∙◌, subst, lit<, arith}
use Rattle.std.proofs.lemmas.Bool.{leb-true, and_parts}
use Rattle.std.proofs.lemmas.List.{get_or-map}
use Rattle.std.proofs.lemmas.Option.{slice_get-get_or}
use Rattle.packet_fields.specs.declared.field.Field.{Field}
use Rattle.packet_fields.specs.declared.field.Field.TheVariants.{MetaPort}
use Rattle.packet_fields.specs.Table.{row, all_fields, field_count, field_widths, field_index}

-- the field at the place of a field is that field
pub at_index : (f : Field) → get_or all_fields (field_index f) MetaPort ≡ f
unfolding all_fields
at_index MetaPort = refl
at_index _ = refl

pub index-lt : (f : Field) → field_index f < field_count
index-lt MetaPort = lit< tt
index-lt _ = lit< tt

pub length-all_fields : length all_fields ≡ field_count
unfolding all_fields
length-all_fields = refl

pub slice_get-index : (f : Field) → slice_get all_fields (field_index f) ≡ Some f
unfolding all_fields
slice_get-index f =
    slice_get-get_or all_fields (field_index f) MetaPort (index-lt f) ∙ ap (λ (g : Field). Some g) (at_index f)

-- two fields of one place are one
pub same_index : (f g : Field) → field_index f ≡ field_index g → f ≡ g
same_index f g e = sym (at_index f) ∙ ap (λ i. get_or all_fields i MetaPort) e ∙ at_index g

-- ---- tests of all fields
abbrev pub each_of : (Field → Bool) → List Field → Bool
each_of test [] = true
each_of test (f ∷ fs) = test f && each_of test fs

each_of_at : (test : Field → Bool) (fs : List Field) (i : ℕ) (d : Field) → each_of test fs ≡ true → i < length fs
    → test (get_or fs i d) ≡ true
each_of_at test [] i d all below = absurd (omega arith)
each_of_at test (f ∷ fs) zero d all below = (and_parts (test f) (each_of test fs) all).0
each_of_at test (f ∷ fs) (suc i) d all below =
    each_of_at test fs i d (and_parts (test f) (each_of test fs) all).1 (omega arith)

pub of_each : (test : Field → Bool) → each_of test all_fields ≡ true → (f : Field) → test f ≡ true
unfolding all_fields
of_each test all f =
    subst (λ g. test g ≡ true) (at_index f) (each_of_at test all_fields (field_index f) MetaPort all (index-lt f))

pub of_each_pair : (test : Field → Field → Bool) → each_of (λ f. each_of (test f) all_fields) all_fields ≡ true
    → (f g : Field) → test f g ≡ true
of_each_pair test all f g = of_each (test f) (of_each (λ f. each_of (test f) all_fields) all f) g

-- ---- widths
abbrev has_width : Field → Bool
has_width f = nat_le 1 (row f).width && nat_le (row f).width 48

all_have_width : each_of has_width all_fields ≡ true
unfolding all_fields
all_have_width = refl

pub width_range : (f : Field) → (1 ≤ (row f).width) × ((row f).width ≤ 48)
width_range f =
    let both = and_parts (nat_le 1 (row f).width) (nat_le (row f).width 48) (of_each has_width all_have_width f) in
    (leb-true _ _ both.0, leb-true _ _ both.1)

pub field_width_at : (f : Field) → slice_index field_widths (field_index f) ≡ (row f).width
field_width_at f =
    let within : field_index f < length all_fields = omega (arith, index-lt f, length-all_fields) in
    get_or-map (λ (g : Field). (row g).width) all_fields (field_index f) MetaPort 0 within
    ∙ ap (λ (g : Field). (row g).width) (at_index f)
