-- The fields that leave with another value than they came with are all that are written.
use Rattle.std.proofs.Common.{◌≡◌, ◌≢◌, ℕ, suc, ◌-◌, ◌≤◌, ◌==◌, Bool, true, false, ◌&&◌, cond, List, [], ◌∷◌, ◌++◌, map, get_or, Option, Some, None, refl, sym, ap, ◌∙◌, subst, arith, slice_index, true≢false, eqb-true, eq-eqb, if◌then◌else◌}
use Rattle.std.proofs.lemmas.Option.{same_Some}
use Rattle.packet_fields.specs.declared.field.Field.{Field}
use Rattle.packet_fields.specs.Table.{row, all_fields, field_index}
use Rattle.packet_fields.specs.Fields.{field_value, with_field}
use Rattle.packet_fields.specs.Several.{AreBytes}
use Rattle.packet_fields.proofs.Laws.{fields_stand_alone-bytes, fields_stand_alone-others, fields_stand_alone-own}
use Rattle.element_lang.specs.Meaning.{with_fields}
use Rattle.flat_ir.specs.declared.program.ValueId.{ValueId}
use Rattle.flat_ir.specs.declared.program.FieldValue.{FieldValue}
use Rattle.flat_ir.specs.Run.{with_writes}
use Rattle.flatten.specs.Flatten.{same_id, changed, all_changed}
use Rattle.flatten.proofs.Views.{AllHave, Meets, HasId}
use Rattle.lemmas.proofs.Tests.{and_first, and_second}

-- these fields have the places from k on
abbrev pub counted : ℕ → List Field → Bool
counted k [] = true
counted k (f ∷ fs) = field_index f == k && counted (suc k) fs

pub all_counted : counted 0 all_fields ≡ true
unfolding all_fields
all_counted = refl

pub same_itself : (a : ValueId) → same_id a a ≡ true
same_itself a = ap (λ t. t && a.result == a.result) (eq-eqb a.instruction a.instruction refl) ∙ eq-eqb a.result a.result refl

pub same_ids : (a b : ValueId) → same_id a b ≡ true → a ≡ b
same_ids a b e =
    let first : a.instruction ≡ b.instruction = eqb-true a.instruction b.instruction (and_first _ _ e) in
    let second : a.result ≡ b.result = eqb-true a.result b.result (and_second (a.instruction == b.instruction) _ e) in
    let made : ℕ → ℕ → ValueId = λ i j. record { instruction = i; result = j } in
    ap (λ i. made i a.result) first ∙ ap (λ j. made b.instruction j) second

module _ (port : ℕ) (reads : ValueId → ℕ) (first : Field → ℕ) where
  -- a field that came as a and leaves as b, with this value in the source
  pub record IsPlace (f : Field) (a b : Option ValueId) (u : ℕ) : Type 0 where
    pub came : Meets reads a (first f)
    pub now : Meets reads b u
    pub fixed : (row f).writable ≡ false → b ≡ a
    pub still : (HasId a → HasId b → ⊥) → u ≡ first f

  -- what the source does to a field
  abbrev written : Field → ℕ → List ℕ → List ℕ
  written f u bytes = if (row f).writable then with_field bytes f u else bytes

  unwritten : (w : Bool) (f : Field) (u : ℕ) (bytes : List ℕ) → AreBytes bytes → field_value bytes port f ≡ first f → u ≡ first f → bytes ≡ cond w (with_field bytes f u) bytes
  unwritten true f u bytes are is e = sym (fields_stand_alone-own bytes port f are) ∙ ap (with_field bytes f) (is ∙ sym e)
  unwritten false f u bytes are is e = refl

  both_same : (c w : Bool) (f : Field) (a b : ValueId) (u : ℕ) (bytes : List ℕ) → same_id a b ≡ c → (row f).writable ≡ w → AreBytes bytes → field_value bytes port f ≡ first f → IsPlace f (Some a) (Some b) u
      → with_writes (cond c [] (record { field = f; value = b } ∷ [])) reads bytes ≡ cond w (with_field bytes f u) bytes
  both_same true w f a b u bytes e is_w are is p = unwritten w f u bytes are is (sym p.now ∙ ap reads (sym (same_ids a b e)) ∙ p.came)
  both_same false true f a b u bytes e is_w are is p = ap (with_field bytes f) p.now
  both_same false false f a b u bytes e is_w are is p =
      let one : b ≡ a = same_Some b a (p.fixed is_w) in
      absurd (true≢false (sym (same_itself a) ∙ ap (same_id a) (sym one) ∙ e))

  one_field : (f : Field) (a b : Option ValueId) (u : ℕ) (bytes : List ℕ) → AreBytes bytes → field_value bytes port f ≡ first f → IsPlace f a b u → with_writes (changed f a b) reads bytes ≡ written f u bytes
  one_field f None b u bytes are is p = unwritten (row f).writable f u bytes are is (p.still (λ h h'. h))
  one_field f (Some a) None u bytes are is p = unwritten (row f).writable f u bytes are is (p.still (λ h h'. h'))
  one_field f (Some a) (Some b) u bytes are is p = both_same (same_id a b) (row f).writable f a b u bytes refl refl are is p

  writes_append : (xs ys : List FieldValue) (bytes : List ℕ) → with_writes (xs ++ ys) reads bytes ≡ with_writes ys reads (with_writes xs reads bytes)
  writes_append [] ys bytes = refl
  writes_append (x ∷ xs) ys bytes = writes_append xs ys (with_field bytes x.field (reads x.value))

  written_bytes : (w : Bool) (f : Field) (u : ℕ) (bytes : List ℕ) → AreBytes bytes → AreBytes (cond w (with_field bytes f u) bytes)
  written_bytes true f u bytes are = fields_stand_alone-bytes bytes f u are
  written_bytes false f u bytes are = are

  written_others : (w : Bool) (f g : Field) (u : ℕ) (bytes : List ℕ) → (row f).writable ≡ w → f ≢ g → field_value (cond w (with_field bytes f u) bytes) port g ≡ field_value bytes port g
  written_others true f g u bytes is ne = fields_stand_alone-others bytes port f g u is ne
  written_others false f g u bytes is ne = refl

  abbrev pub HasPlaces : ℕ → List (Option ValueId) → List (Option ValueId) → List ℕ → Type 0
  HasPlaces k came now values = (f : Field) → k ≤ field_index f → IsPlace f (get_or came (field_index f - k) None) (get_or now (field_index f - k) None) (slice_index values (field_index f))

  head_place : (f : Field) (k : ℕ) (a b : Option ValueId) (came now : List (Option ValueId)) (values : List ℕ) → field_index f ≡ k → HasPlaces k (a ∷ came) (b ∷ now) values → IsPlace f a b (slice_index values (field_index f))
  head_place f k a b came now values e places =
      let none : field_index f - k ≡ 0 = omega (arith, e) in
      subst (λ n. IsPlace f (get_or (a ∷ came) n None) (get_or (b ∷ now) n None) (slice_index values (field_index f))) none (places f (omega (arith, e)))

  tail_places : (k : ℕ) (a b : Option ValueId) (came now : List (Option ValueId)) (values : List ℕ) → HasPlaces k (a ∷ came) (b ∷ now) values → HasPlaces (suc k) came now values
  tail_places k a b came now values places f le =
      let more : field_index f - k ≡ suc (field_index f - suc k) = omega (arith, le) in
      subst (λ n. IsPlace f (get_or (a ∷ came) n None) (get_or (b ∷ now) n None) (slice_index values (field_index f))) more (places f (omega (arith, le)))

  pub written_all : (P Q : ℕ → ValueId → Type 0) (fs : List Field) (k : ℕ) (came now : List (Option ValueId)) (values bytes : List ℕ) → counted k fs ≡ true
      → AllHave P (map (λ (f : Field). (row f).width) fs) came → AllHave Q (map (λ (f : Field). (row f).width) fs) now → HasPlaces k came now values
      → AreBytes bytes → ((f : Field) → k ≤ field_index f → field_value bytes port f ≡ first f)
      → with_writes (all_changed fs came now) reads bytes ≡ with_fields fs values bytes
  written_all P Q [] k came now values bytes c r r' places are firsts = refl
  written_all P Q (f ∷ fs) k [] now values bytes c r r' places are firsts = absurd r
  written_all P Q (f ∷ fs) k (a ∷ came) [] values bytes c r r' places are firsts = absurd r'
  written_all P Q (f ∷ fs) k (a ∷ came) (b ∷ now) values bytes c r r' places are firsts =
      let e : field_index f ≡ k = eqb-true (field_index f) k (and_first _ _ c) in
      let u = slice_index values (field_index f) in
      let next = written f u bytes in
      writes_append (changed f a b) (all_changed fs came now) bytes
      ∙ ap (with_writes (all_changed fs came now) reads) (one_field f a b u bytes are (firsts f (omega (arith, e))) (head_place f k a b came now values e places))
      ∙ written_all P Q fs (suc k) came now values next (and_second (field_index f == k) _ c) r.1 r'.1 (tail_places k a b came now values places)
      (written_bytes (row f).writable f u bytes are)
      (λ g le. written_others (row f).writable f g u bytes refl (λ same. omega (arith, e, le, ap field_index same)) ∙ firsts g (omega (arith, le)))
