-- Several fields of a packet, set in any order.
use Rattle.std.proofs.Common.{◌≡◌, ◌≢◌, ℕ, ◌^◌, ◌<◌, ◌⊎◌, ◌||◌, ◌==◌, not, Bool, true, false, List, [], ◌∷◌, length, refl, sym, ap, ◌∙◌, subst, inl, inr, arith, Option, Some, None, IsSome, cond}
use Rattle.std.proofs.lemmas.Bool.{true≢false, eqb-true, cases_Bool, cond-true, cond-false, cond_both}
use Rattle.std.specs.List.{filter}
use Rattle.packet_fields.specs.declared.field.Field.{Field}
use Rattle.packet_fields.specs.Bits.{with_number_at}
use Rattle.packet_fields.specs.Fields.{place, field_value, with_field}
use Rattle.packet_fields.specs.Several.{Setting, with_settings, CanBeSet, IsUnset, AreDistinct, IsSetTo, Choice, with_chosen, with_each, in_field_order, choice_of, or_else, both_choices, MayBeWritten, AreApart, IsAsChosen}
use Rattle.packet_fields.specs.Shape.{shape_of}
use Rattle.packet_fields.specs.Table.{row, all_fields, field_index}
use Rattle.packet_fields.proofs.BitRows.{length-with_number_at, with_number_at_swapped}
use Rattle.packet_fields.specs.FieldOrder.{same_index}
use Rattle.packet_fields.proofs.FieldLists.{Has, NoneTwice, has, has_it, it_is_there, once, each_there}
use Rattle.packet_fields.proofs.Places.{none_overlap}
use Rattle.packet_fields.proofs.SetFields.{shape_stays, with_field_there, with_field_absent, other_value, IsSet, field_set}

-- ---- one field
shape_by : (bytes : List ℕ) (f : Field) (value : ℕ) → (row f).writable ≡ true → (o : Option ℕ) → place (shape_of bytes) f ≡ o → shape_of (with_field bytes f value) ≡ shape_of bytes
shape_by bytes f value may None at = ap (λ (x : List ℕ). shape_of x) (sym (with_field_absent bytes (shape_of bytes) f value refl (sym at)))
shape_by bytes f value may (Some first) at = ap (λ (x : List ℕ). shape_of x) (with_field_there bytes f first value at) ∙ shape_stays bytes f first value at may

pub shape-with_field : (bytes : List ℕ) (f : Field) (value : ℕ) → (row f).writable ≡ true → shape_of (with_field bytes f value) ≡ shape_of bytes
shape-with_field bytes f value may = shape_by bytes f value may (place (shape_of bytes) f) refl

place-with_field : (bytes : List ℕ) (f g : Field) (value : ℕ) (o : Option ℕ) → (row f).writable ≡ true → place (shape_of bytes) g ≡ o → place (shape_of (with_field bytes f value)) g ≡ o
place-with_field bytes f g value o may at = ap (λ x. place x g) (shape-with_field bytes f value may) ∙ at

other_by : (bytes : List ℕ) (f g : Field) (value port : ℕ) → (row f).writable ≡ true → f ≢ g → (o : Option ℕ) → place (shape_of bytes) f ≡ o → field_value (with_field bytes f value) port g ≡ field_value bytes port g
other_by bytes f g value port may other None at = ap (λ x. field_value x port g) (sym (with_field_absent bytes (shape_of bytes) f value refl (sym at)))
other_by bytes f g value port may other (Some first) at =
    other_value bytes (with_field bytes f value) f g first value port at other (with_field_there bytes f first value at) (shape-with_field bytes f value may) (place (shape_of bytes) g) refl

-- each other field reads as before
pub other-with_field : (bytes : List ℕ) (f g : Field) (value port : ℕ) → (row f).writable ≡ true → f ≢ g → field_value (with_field bytes f value) port g ≡ field_value bytes port g
other-with_field bytes f g value port may other = other_by bytes f g value port may other (place (shape_of bytes) f) refl

same_by : (bytes : List ℕ) (f : Field) (value port : ℕ) → (row f).writable ≡ true → value < 2 ^ (row f).width → (o : Option ℕ) → place (shape_of bytes) f ≡ o → IsSome o → field_value (with_field bytes f value) port f ≡ value
same_by bytes f value port may fits None at there = cc
same_by bytes f value port may fits (Some first) at there =
    let set : IsSet bytes (with_field bytes f value) (shape_of bytes) f value = field_set bytes (with_field bytes f value) (shape_of bytes) f first (row f).width value refl (sym at) refl may fits (with_field_there bytes f first value at) in
    set.reads port

-- ---- two fields
-- one of them is not there
swapped_absent : (bytes : List ℕ) (f g : Field) (v w : ℕ) → (row g).writable ≡ true → place (shape_of bytes) f ≡ None → with_field (with_field bytes f v) g w ≡ with_field (with_field bytes g w) f v
swapped_absent bytes f g v w may at =
    ap (λ x. with_field x g w) (sym (with_field_absent bytes (shape_of bytes) f v refl (sym at)))
    ∙ with_field_absent (with_field bytes g w) (shape_of (with_field bytes g w)) f v refl (sym (place-with_field bytes g f w None may at))

-- both are there: the second write falls behind the first
both_there : (bytes : List ℕ) (f g : Field) (v w i j : ℕ) → (row f).writable ≡ true → place (shape_of bytes) f ≡ Some i → place (shape_of bytes) g ≡ Some j
    → with_field (with_field bytes f v) g w ≡ with_number_at (with_number_at bytes i (row f).width v) j (row g).width w
both_there bytes f g v w i j may here there =
    with_field_there (with_field bytes f v) g j w (place-with_field bytes f g v (Some j) may there)
    ∙ ap (λ x. with_number_at x j (row g).width w) (with_field_there bytes f i v here)

swapped_by : (bytes : List ℕ) (f g : Field) (v w : ℕ) → (row f).writable ≡ true → (row g).writable ≡ true → f ≢ g → (o p : Option ℕ) → place (shape_of bytes) f ≡ o → place (shape_of bytes) g ≡ p
    → with_field (with_field bytes f v) g w ≡ with_field (with_field bytes g w) f v
swapped_by bytes f g v w may may' other None p here there = swapped_absent bytes f g v w may' here
swapped_by bytes f g v w may may' other (Some i) None here there = sym (swapped_absent bytes g f w v may there)
swapped_by bytes f g v w may may' other (Some i) (Some j) here there =
    both_there bytes f g v w i j may here there
    ∙ with_number_at_swapped bytes i (row f).width v j (row g).width w (none_overlap (shape_of bytes) bytes refl f g i j other here there)
    ∙ sym (both_there bytes g f w v j i may' there here)

pub with_field_swapped : (bytes : List ℕ) (f g : Field) (v w : ℕ) → (row f).writable ≡ true → (row g).writable ≡ true → f ≢ g → with_field (with_field bytes f v) g w ≡ with_field (with_field bytes g w) f v
with_field_swapped bytes f g v w may may' other = swapped_by bytes f g v w may may' other (place (shape_of bytes) f) (place (shape_of bytes) g) refl refl

-- ---- a list of fields
pub unset-with_fields : (settings : List Setting) (bytes : List ℕ) (f : Field) (port : ℕ) → CanBeSet settings → IsUnset settings f → field_value (with_settings bytes settings) port f ≡ field_value bytes port f
unset-with_fields [] bytes f port can unset = refl
unset-with_fields (s ∷ ss) bytes f port can unset =
    unset-with_fields ss (with_field bytes s.field s.value) f port can.2 unset.1 ∙ other-with_field bytes s.field f s.value port can.0 unset.0

is_some_moved : (o p : Option ℕ) → p ≡ o → IsSome o → IsSome p
is_some_moved o p e there = rw e there

-- the first entry of a list sets the field, and no later one
set_by_first : (s : Setting) (ss : List Setting) (bytes : List ℕ) (f : Field) (port : ℕ) → CanBeSet (s ∷ ss) → IsUnset ss s.field → s.field ≡ f → IsSome (place (shape_of bytes) f)
    → field_value (with_settings bytes (s ∷ ss)) port f ≡ s.value
set_by_first s ss bytes f port can unset is there =
    ap (λ g. field_value (with_settings bytes (s ∷ ss)) port g) (sym is)
    ∙ unset-with_fields ss (with_field bytes s.field s.value) s.field port can.2 unset
    ∙ same_by bytes s.field s.value port can.0 can.1 (place (shape_of bytes) s.field) refl (is_some_moved (place (shape_of bytes) f) (place (shape_of bytes) s.field) (ap (place (shape_of bytes)) is) there)

pub set-with_fields : (settings : List Setting) (bytes : List ℕ) (f : Field) (value port : ℕ) → CanBeSet settings → AreDistinct settings → IsSetTo settings f value → IsSome (place (shape_of bytes) f)
    → field_value (with_settings bytes settings) port f ≡ value
set-with_fields [] bytes f value port can distinct set there = absurd set
set-with_fields (s ∷ ss) bytes f value port can distinct set there = elim set [
  | inl here ↦ set_by_first s ss bytes f port can distinct.0 here.0 there ∙ here.1
  | inr later ↦ set-with_fields ss (with_field bytes s.field s.value) f value port can.2 distinct.1 later
      (is_some_moved (place (shape_of bytes) f) (place (shape_of (with_field bytes s.field s.value)) f) (place-with_field bytes s.field f s.value (place (shape_of bytes) f) can.0 refl) there)
]

-- a field that a list leaves may be set before the list or behind it
moved_front : (settings : List Setting) (bytes : List ℕ) (f : Field) (value : ℕ) → CanBeSet settings → IsUnset settings f → (row f).writable ≡ true → with_field (with_settings bytes settings) f value ≡ with_settings (with_field bytes f value) settings
moved_front [] bytes f value can unset may = refl
moved_front (s ∷ ss) bytes f value can unset may =
    moved_front ss (with_field bytes s.field s.value) f value can.2 unset.1 may
    ∙ ap (λ x. with_settings x ss) (with_field_swapped bytes s.field f s.value value can.0 may unset.0)

picked_can : (settings : List Setting) (test : Setting → Bool) → CanBeSet settings → CanBeSet (filter test settings)
picked_can [] test can = tt
picked_can (s ∷ ss) test can = cond_both (test s) (s ∷ filter test ss) (filter test ss) CanBeSet (λ _. (can.0, can.1, picked_can ss test can.2)) (λ _. picked_can ss test can.2)

picked_unset : (settings : List Setting) (test : Setting → Bool) (f : Field) → IsUnset settings f → IsUnset (filter test settings) f
picked_unset [] test f unset = tt
picked_unset (s ∷ ss) test f unset = cond_both (test s) (s ∷ filter test ss) (filter test ss) (λ x. IsUnset x f) (λ _. (unset.0, picked_unset ss test f unset.1)) (λ _. picked_unset ss test f unset.1)

-- the first entry goes to the first part or to the second
part_by : (b : Bool) (bytes : List ℕ) (s : Setting) (first second : List Setting) → CanBeSet first → IsUnset first s.field → (row s.field).writable ≡ true
    → with_settings (with_settings bytes (cond b (s ∷ first) first)) (cond (not b) (s ∷ second) second) ≡ with_settings (with_settings (with_field bytes s.field s.value) first) second
part_by true bytes s first second can unset may = refl
part_by false bytes s first second can unset may = ap (λ x. with_settings x second) (moved_front first bytes s.field s.value can unset may)

pub two_parts : (settings : List Setting) (bytes : List ℕ) (test : Setting → Bool) → CanBeSet settings → AreDistinct settings → with_settings (with_settings bytes (filter test settings)) (filter (λ s. not (test s)) settings) ≡ with_settings bytes settings
two_parts [] bytes test can distinct = refl
two_parts (s ∷ ss) bytes test can distinct =
    part_by (test s) bytes s (filter test ss) (filter (λ s. not (test s)) ss) (picked_can ss test can.2) (picked_unset ss test s.field distinct.0) can.0
    ∙ two_parts ss (with_field bytes s.field s.value) test can.2 distinct.1

-- ---- field order
same_test : (f g : Field) → f ≡ g → (field_index f == field_index g) ≡ true
same_test f g e = grind (arith, ap field_index e)

other_test : (f g : Field) → f ≢ g → (field_index f == field_index g) ≡ false
other_test f g other = elim (cases_Bool (field_index f == field_index g)) [ inl same ↦ absurd (other (same_index f g (eqb-true (field_index f) (field_index g) same))) | inr not_same ↦ not_same ]

same_choice : (fs : List Field) (bytes : List ℕ) (c d : Choice) → ((f : Field) → Has f fs → c f ≡ d f) → with_each bytes c fs ≡ with_each bytes d fs
same_choice [] bytes c d same = refl
same_choice (f ∷ fs) bytes c d same =
    ap (λ o. with_each (with_chosen bytes f o) c fs) (same f (inl refl)) ∙ same_choice fs (with_chosen bytes f (d f)) c d (λ g h. same g (inr h))

nothing_chosen : (fs : List Field) (bytes : List ℕ) → with_each bytes (λ _. None) fs ≡ bytes
nothing_chosen [] bytes = refl
nothing_chosen (f ∷ fs) bytes = nothing_chosen fs bytes

-- d is c with one field more
record Adds (c d : Choice) (f : Field) (value : ℕ) : Type 0 where
  pub free : c f ≡ None
  pub now : d f ≡ Some value
  pub else : (g : Field) → f ≢ g → d g ≡ c g
  pub may : (row f).writable ≡ true
  pub others : MayBeWritten c

-- the field stands in front of some fields, of which the first is another one
set_past : (gs : List Field) (bytes : List ℕ) (c d : Choice) (f g : Field) (value : ℕ) → Adds c d f value → f ≢ g → ((b : List ℕ) → with_each (with_field b f value) c gs ≡ with_each b d gs) → (o : Option ℕ) → c g ≡ o
    → with_each (with_chosen (with_field bytes f value) g (c g)) c gs ≡ with_each (with_chosen bytes g (d g)) d gs
set_past gs bytes c d f g value adds other rest None is =
    ap (λ o. with_each (with_chosen (with_field bytes f value) g o) c gs) is ∙ rest bytes ∙ sym (ap (λ o. with_each (with_chosen bytes g o) d gs) (adds.else g other ∙ is))
set_past gs bytes c d f g value adds other rest (Some x) is =
    ap (λ o. with_each (with_chosen (with_field bytes f value) g o) c gs) is
    ∙ ap (λ b. with_each b c gs) (with_field_swapped bytes f g value x adds.may (adds.others g x is) other)
    ∙ rest (with_field bytes g x)
    ∙ sym (ap (λ o. with_each (with_chosen bytes g o) d gs) (adds.else g other ∙ is))

-- a field that is set before all others may be set in its place
set_in_place : (fs : List Field) (bytes : List ℕ) (c d : Choice) (f : Field) (value : ℕ) → Adds c d f value → NoneTwice fs → Has f fs → with_each (with_field bytes f value) c fs ≡ with_each bytes d fs
set_in_place [] bytes c d f value adds none has = absurd has
set_in_place (g ∷ gs) bytes c d f value adds none has = elim (cases_Bool (field_index f == field_index g)) [
  | inl same ↦ let is : f ≡ g = same_index f g (eqb-true (field_index f) (field_index g) same) in
      ap (λ o. with_each (with_chosen (with_field bytes f value) g o) c gs) (ap c (sym is) ∙ adds.free)
      ∙ same_choice gs (with_field bytes f value) c d (λ h there. sym (adds.else h (λ e. none.0 (subst (λ (x : Field). Has x gs) (sym (sym is ∙ e)) there))))
      ∙ ap (λ h. with_each (with_field bytes h value) d gs) is
      ∙ sym (ap (λ o. with_each (with_chosen bytes g o) d gs) (ap d (sym is) ∙ adds.now))
  | inr not_same ↦ let other : f ≢ g = (λ e. true≢false (sym (same_test f g e) ∙ not_same)) in
      let later : Has f gs = elim has [ inl here ↦ absurd (other (sym here)) | inr later ↦ later ] in
      set_past gs bytes c d f g value adds other (λ b. set_in_place gs b c d f value adds none.1 later) (c g) refl
]

unset_choice : (settings : List Setting) (f : Field) → IsUnset settings f → choice_of settings f ≡ None
unset_choice [] f unset = refl
unset_choice (s ∷ ss) f unset = cond-false (field_index s.field == field_index f) (Some s.value) (choice_of ss f) (other_test s.field f unset.0) ∙ unset_choice ss f unset.1

chosen_may : (settings : List Setting) → CanBeSet settings → MayBeWritten (choice_of settings)
chosen_may [] can f value is = cc
chosen_may (s ∷ ss) can f value is = elim (cases_Bool (field_index s.field == field_index f)) [
  | inl same ↦ ap (λ (g : Field). (row g).writable) (sym (same_index s.field f (eqb-true (field_index s.field) (field_index f) same))) ∙ can.0
  | inr other ↦ chosen_may ss can.2 f value (sym (cond-false (field_index s.field == field_index f) (Some s.value) (choice_of ss f) other) ∙ is)
]

pub listed_in_order : (settings : List Setting) (bytes : List ℕ) → CanBeSet settings → AreDistinct settings → with_settings bytes settings ≡ in_field_order bytes (choice_of settings)
listed_in_order [] bytes can distinct = sym (nothing_chosen all_fields bytes)
listed_in_order (s ∷ ss) bytes can distinct =
    let adds : Adds (choice_of ss) (choice_of (s ∷ ss)) s.field s.value = record {
      free = unset_choice ss s.field distinct.0;
      now = cond-true (field_index s.field == field_index s.field) (Some s.value) (choice_of ss s.field) (same_test s.field s.field refl);
      else = λ g other. cond-false (field_index s.field == field_index g) (Some s.value) (choice_of ss g) (other_test s.field g other);
      may = can.0;
      others = chosen_may ss can.2;
    } in
    listed_in_order ss (with_field bytes s.field s.value) can.2 distinct.1
    ∙ set_in_place all_fields bytes (choice_of ss) (choice_of (s ∷ ss)) s.field s.value adds once (each_there s.field)

-- ---- one choice and then another
-- what the first choice sets among some fields, and what the second sets
abbrev so_far : Choice → Choice → List Field → Choice
so_far c d fs f = or_else (cond (has f fs) (c f) None) (d f)

had : (b : Bool) (o p : Option ℕ) (value : ℕ) → or_else (cond b o None) p ≡ Some value → (o ≡ Some value) ⊎ (p ≡ Some value)
had true None p value is = inr is
had true (Some x) p value is = inl is
had false o p value is = inr is

cond_none : (b : Bool) (o : Option ℕ) → o ≡ None → cond b o None ≡ None
cond_none true o e = e
cond_none false o e = refl

-- the field at the front adds nothing where the first choice leaves it
nothing_added : (c d : Choice) (g : Field) (gs : List Field) (f : Field) → c g ≡ None → so_far c d gs f ≡ so_far c d (g ∷ gs) f
nothing_added c d g gs f none = elim (cases_Bool (field_index g == field_index f)) [
  | inl same ↦ let free : c f ≡ None = ap c (sym (same_index g f (eqb-true (field_index g) (field_index f) same))) ∙ none in
      ap (λ o. or_else o (d f)) (cond_none (has f gs) (c f) free ∙ sym (cond_none (has f (g ∷ gs)) (c f) free))
  | inr other ↦ ap (λ (b : Bool). or_else (cond (b || has f gs) (c f) None) (d f)) (sym other)
]

has_not : (g : Field) (gs : List Field) → (Has g gs → ⊥) → has g gs ≡ false
has_not g gs none = elim (cases_Bool (has g gs)) [ inl there ↦ absurd (none (it_is_there g gs there)) | inr absent ↦ absent ]

-- the field at the front is added where the first choice sets it
one_added : (c d : Choice) (g : Field) (gs : List Field) (value : ℕ) → MayBeWritten c → MayBeWritten d → AreApart c d → (Has g gs → ⊥) → c g ≡ Some value → Adds (so_far c d gs) (so_far c d (g ∷ gs)) g value
one_added c d g gs value may may' apart none is = record {
  free = ap (λ (b : Bool). or_else (cond b (c g) None) (d g)) (has_not g gs none) ∙ apart g value is;
  now = ap (λ (b : Bool). or_else (cond (b || has g gs) (c g) None) (d g)) (same_test g g refl) ∙ ap (λ o. or_else o (d g)) is;
  else = λ f other. ap (λ (b : Bool). or_else (cond (b || has f gs) (c f) None) (d f)) (other_test g f other);
  may = may g value is;
  others = λ f x e. elim (had (has f gs) (c f) (d f) x e) [ inl one ↦ may f x one | inr two ↦ may' f x two ];
}

choices_step : (gs : List Field) (bytes : List ℕ) (c d : Choice) (g : Field) → MayBeWritten c → MayBeWritten d → AreApart c d → (Has g gs → ⊥) → ((b : List ℕ) → in_field_order (with_each b c gs) d ≡ in_field_order b (so_far c d gs)) → (o : Option ℕ) → c g ≡ o
    → in_field_order (with_each (with_chosen bytes g (c g)) c gs) d ≡ in_field_order bytes (so_far c d (g ∷ gs))
choices_step gs bytes c d g may may' apart new rest None is =
    ap (λ o. in_field_order (with_each (with_chosen bytes g o) c gs) d) is
    ∙ rest bytes
    ∙ same_choice all_fields bytes (so_far c d gs) (so_far c d (g ∷ gs)) (λ f _. nothing_added c d g gs f is)
choices_step gs bytes c d g may may' apart new rest (Some value) is =
    ap (λ o. in_field_order (with_each (with_chosen bytes g o) c gs) d) is
    ∙ rest (with_field bytes g value)
    ∙ set_in_place all_fields bytes (so_far c d gs) (so_far c d (g ∷ gs)) g value (one_added c d g gs value may may' apart new is) once (each_there g)

choices_by : (fs : List Field) (bytes : List ℕ) (c d : Choice) → MayBeWritten c → MayBeWritten d → AreApart c d → NoneTwice fs → in_field_order (with_each bytes c fs) d ≡ in_field_order bytes (so_far c d fs)
choices_by [] bytes c d may may' apart none = refl
choices_by (g ∷ gs) bytes c d may may' apart none = choices_step gs bytes c d g may may' apart none.0 (λ b. choices_by gs b c d may may' apart none.1) (c g) refl

pub choices_in_order : (bytes : List ℕ) (first second : Choice) → MayBeWritten first → MayBeWritten second → AreApart first second → in_field_order (in_field_order bytes first) second ≡ in_field_order bytes (both_choices first second)
choices_in_order bytes first second may may' apart =
    choices_by all_fields bytes first second may may' apart once
    ∙ same_choice all_fields bytes (so_far first second all_fields) (both_choices first second) (λ f there. ap (λ (b : Bool). or_else (cond b (first f) None) (second f)) (has_it f all_fields there))

-- ---- what the fields of a choice read
shape-with_chosen : (bytes : List ℕ) (f : Field) (o : Option ℕ) → ((value : ℕ) → o ≡ Some value → (row f).writable ≡ true) → shape_of (with_chosen bytes f o) ≡ shape_of bytes
shape-with_chosen bytes f None may = refl
shape-with_chosen bytes f (Some value) may = shape-with_field bytes f value (may value refl)

shape-with_each : (fs : List Field) (bytes : List ℕ) (c : Choice) → MayBeWritten c → shape_of (with_each bytes c fs) ≡ shape_of bytes
shape-with_each [] bytes c may = refl
shape-with_each (f ∷ fs) bytes c may = shape-with_each fs (with_chosen bytes f (c f)) c may ∙ shape-with_chosen bytes f (c f) (may f)

length-by : (bytes : List ℕ) (f : Field) (value : ℕ) (o : Option ℕ) → place (shape_of bytes) f ≡ o → length (with_field bytes f value) ≡ length bytes
length-by bytes f value None at = ap (λ (x : List ℕ). length x) (sym (with_field_absent bytes (shape_of bytes) f value refl (sym at)))
length-by bytes f value (Some first) at = ap (λ (x : List ℕ). length x) (with_field_there bytes f first value at) ∙ length-with_number_at bytes first (row f).width value

length-with_chosen : (bytes : List ℕ) (f : Field) (o : Option ℕ) → length (with_chosen bytes f o) ≡ length bytes
length-with_chosen bytes f None = refl
length-with_chosen bytes f (Some value) = length-by bytes f value (place (shape_of bytes) f) refl

length-with_each : (fs : List Field) (bytes : List ℕ) (c : Choice) → length (with_each bytes c fs) ≡ length bytes
length-with_each [] bytes c = refl
length-with_each (f ∷ fs) bytes c = length-with_each fs (with_chosen bytes f (c f)) c ∙ length-with_chosen bytes f (c f)

stays-with_chosen : (bytes : List ℕ) (f g : Field) (port : ℕ) (o : Option ℕ) → ((value : ℕ) → o ≡ Some value → ((row g).writable ≡ true) × (g ≢ f)) → field_value (with_chosen bytes g o) port f ≡ field_value bytes port f
stays-with_chosen bytes f g port None other = refl
stays-with_chosen bytes f g port (Some value) other = other-with_field bytes g f value port (other value refl).0 (other value refl).1

-- a field that none of these sets reads as before
stays-with_each : (fs : List Field) (bytes : List ℕ) (c : Choice) (f : Field) (port : ℕ) → ((g : Field) (value : ℕ) → Has g fs → c g ≡ Some value → ((row g).writable ≡ true) × (g ≢ f)) → field_value (with_each bytes c fs) port f ≡ field_value bytes port f
stays-with_each [] bytes c f port other = refl
stays-with_each (g ∷ gs) bytes c f port other =
    stays-with_each gs (with_chosen bytes g (c g)) c f port (λ h value there is. other h value (inr there) is)
    ∙ stays-with_chosen bytes f g port (c g) (λ value is. other g value (inl refl) is)

set-with_each : (fs : List Field) (bytes : List ℕ) (c : Choice) (f : Field) (value port : ℕ) → MayBeWritten c → NoneTwice fs → Has f fs → c f ≡ Some value → value < 2 ^ (row f).width → IsSome (place (shape_of bytes) f)
    → field_value (with_each bytes c fs) port f ≡ value
set-with_each [] bytes c f value port may none has is fits there = absurd has
set-with_each (g ∷ gs) bytes c f value port may none has is fits there = elim (cases_Bool (field_index g == field_index f)) [
  | inl same ↦ let one : g ≡ f = same_index g f (eqb-true (field_index g) (field_index f) same) in
      stays-with_each gs (with_chosen bytes g (c g)) c f port (λ h x later set. (may h x set, λ e. none.0 (subst (λ (x : Field). Has x gs) (e ∙ sym one) later)))
      ∙ ap (λ h. field_value (with_chosen bytes h (c h)) port f) one
      ∙ ap (λ o. field_value (with_chosen bytes f o) port f) is
      ∙ same_by bytes f value port (may f value is) fits (place (shape_of bytes) f) refl there
  | inr not_same ↦ let other : g ≢ f = (λ e. true≢false (sym (same_test g f e) ∙ not_same)) in
      let later : Has f gs = elim has [ inl here ↦ absurd (other here) | inr later ↦ later ] in
      set-with_each gs (with_chosen bytes g (c g)) c f value port may none.1 later is fits
      (is_some_moved (place (shape_of bytes) f) (place (shape_of (with_chosen bytes g (c g))) f) (ap (λ x. place x f) (shape-with_chosen bytes g (c g) (may g))) there)
]

pub as_chosen : (bytes : List ℕ) (choice : Choice) → MayBeWritten choice → IsAsChosen bytes (in_field_order bytes choice) choice
as_chosen bytes choice may = record {
  shape = shape-with_each all_fields bytes choice may;
  same_length = length-with_each all_fields bytes choice;
  others = λ f port is. stays-with_each all_fields bytes choice f port (λ g value there set. (may g value set, λ e. let none : None ≡ Some value = sym is ∙ ap choice (sym e) ∙ set in cc));
  chosen = λ f value port is fits there. set-with_each all_fields bytes choice f value port may once (each_there f) is fits there;
}
