-- Each field stands in the list of all fields, and stands there once.
use Rattle.std.proofs.Common.{◌≡◌, ◌⊎◌, ◌&&◌, ◌||◌, ◌==◌, not, Bool, true, false, List, [], ◌∷◌, refl, sym, ap, inl, inr, arith}
use Rattle.std.proofs.lemmas.Bool.{true≢false, eqb-true, cases_Bool, and_parts}
use Rattle.packet_fields.specs.declared.field.Field.{Field}
use Rattle.packet_fields.specs.FieldOrder.{same_index, each_of, of_each}
use Rattle.packet_fields.specs.Table.{all_fields, field_index}
use Rattle.lemmas.proofs.Tests.{not_both}

abbrev pub Has : Field → List Field → Type 0
Has f [] = ⊥
Has f (g ∷ gs) = (g ≡ f) ⊎ Has f gs

abbrev pub NoneTwice : List Field → Type 0
NoneTwice [] = Unit {0}
NoneTwice (f ∷ fs) = (Has f fs → ⊥) × NoneTwice fs

-- ## by tests, which compute
abbrev pub has : Field → List Field → Bool
has f [] = false
has f (g ∷ gs) = field_index g == field_index f || has f gs

abbrev none_twice : List Field → Bool
none_twice [] = true
none_twice (f ∷ fs) = not (has f fs) && none_twice fs

pub has_it : (f : Field) (fs : List Field) → Has f fs → has f fs ≡ true
has_it f [] h = absurd h
has_it f (g ∷ gs) h = elim h [
  | inl here ↦ grind (arith, ap field_index here)
  | inr later ↦ let rest : has f gs ≡ true = has_it f gs later in grind (arith, rest)
]

pub it_is_there : (f : Field) (fs : List Field) → has f fs ≡ true → Has f fs
it_is_there f [] test = absurd (true≢false (sym test))
it_is_there f (g ∷ gs) test = elim (cases_Bool (field_index g == field_index f)) [
  | inl same ↦ inl (same_index g f (eqb-true (field_index g) (field_index f) same))
  | inr other ↦ inr (it_is_there f gs (rw other at test))
]

none_is_twice : (fs : List Field) → none_twice fs ≡ true → NoneTwice fs
none_is_twice [] test = tt
none_is_twice (f ∷ fs) test =
    let parts = and_parts (not (has f fs)) (none_twice fs) test in
    (λ h. not_both (has f fs) parts.0 (has_it f fs h), none_is_twice fs parts.1)

-- ## all fields
all_once : none_twice all_fields ≡ true
unfolding all_fields
all_once = refl

all_had : each_of (λ f. has f all_fields) all_fields ≡ true
unfolding all_fields
all_had = refl

pub once : NoneTwice all_fields
once = none_is_twice all_fields all_once

pub each_there : (f : Field) → Has f all_fields
each_there f = it_is_there f all_fields (of_each (λ g. has g all_fields) all_had f)
