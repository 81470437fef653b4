-- Which consts and fields postprocessing is given.
use Rattle.std.proofs.Common.{◌≡◌, ◌<◌, ℕ, ◌==◌, Bool, true, false, not, ◌&&◌, ◌||◌, List, [], ◌∷◌, length, nat_lt, refl, sym, ap, ◌∙◌, ⊎_elim, arith}
use Rattle.std.proofs.lemmas.Bool.{cases_Bool, and_from, and_parts, eqb-true, false≢true, true≢false, lt-ltb}
use Rattle.std.specs.List.{AllByRecursion as Each, list_any}
use Rattle.flat_ir.specs.declared.program.FieldValue.{FieldValue}
use Rattle.flat_ir.specs.declared.program.ValueId.{ValueId}
use Rattle.flat_ir.specs.Program.{Program, Work, is_named, result_count, step_at}
use Rattle.flat_ir.specs.Program.Work.{const, field}
use Rattle.split_model.specs.declared.split.Part.{Part}
use Rattle.split_model.specs.Crossing.{crosses_down, is_among, is_at_hand, is_read_by, is_value}
use Rattle.split_model.specs.Passes.{post_fields}
use Rattle.split_model.specs.Split.{is_post}
use Rattle.switch_ir.specs.Emitted.{is_given, only_value}
use Rattle.lemmas.proofs.Lists.{each_all, each_filter}
use Rattle.lemmas.proofs.Tests.{or_false}

settle : (out read : Bool) → (not out && (read || (out || false))) ≡ (not out && read)
settle true read = refl
settle false read = or_false read

none_any : {X : Type 0} (test : X → Bool) (xs : List X) → Each (λ x. test x ≡ false) xs → list_any test xs ≡ false
none_any test [] none = refl
none_any test (x ∷ xs) none = ap (λ b. b || list_any test xs) none.0 ∙ none_any test xs none.1

-- what is at hand has one result
pub one_result : (f : Program) (split : List Part) (work : Work) → is_at_hand f split work ≡ true → result_count f.objects work ≡ 1
one_result f split (const width number) e = omega arith
one_result f split (field name) e = omega arith
one_result f split work e = absurd (false≢true e)

module _ (f : Program) (split : List Part) (i : ℕ) where
  abbrev v : ValueId
  v = only_value i

  abbrev out : Bool
  out = is_among v (f.send ∷ f.port ∷ [])

  abbrev read : Bool
  read = is_read_by f (is_post split) v

  -- a field that postprocessing sets is computed there
  no_field : is_post split i ≡ false → list_any (λ (w : FieldValue). is_value v w.value) (post_fields f split) ≡ false
  no_field other =
      none_any (λ (w : FieldValue). is_value v w.value) (post_fields f split)
      (each_filter (λ (w : FieldValue). is_value v w.value ≡ false) (λ (w : FieldValue). is_post split w.value.instruction) f.fields
      (each_all (λ (w : FieldValue). is_post split w.value.instruction ≡ true → is_value v w.value ≡ false) apart f.fields))
    where
      apart : (w : FieldValue) → is_post split w.value.instruction ≡ true → is_value v w.value ≡ false
      apart w post =
          ⊎_elim
          (λ same. absurd (true≢false (sym post ∙ ap (is_post split) (sym (eqb-true i w.value.instruction (and_parts (i == w.value.instruction) (0 == w.value.result) same).0)) ∙ other)))
          (λ no. no)
          (cases_Bool (is_value v w.value))

  -- of what is at hand, `send` and `port` alone are handed down
  crosses_by : i < length f.code → is_at_hand f split (step_at f i).work ≡ true → is_post split i ≡ false → crosses_down f split v ≡ out
  crosses_by within hand other =
      let named : is_named f v ≡ true =
      and_from (nat_lt i (length f.code)) (nat_lt 0 (result_count f.objects (step_at f i).work)) (lt-ltb i (length f.code) within) (ap (nat_lt 0) (one_result f split (step_at f i).work hand)) in
      ap (λ n. (n && not (is_post split i)) && (out || (not (is_at_hand f split (step_at f i).work) && read))) named
      ∙ ap (λ p. not p && (out || (not (is_at_hand f split (step_at f i).work) && read))) other
      ∙ ap (λ h. out || (not h && read)) hand
      ∙ or_false out

  pub given_simply : i < length f.code
      → is_given f split i ≡ (is_at_hand f split (step_at f i).work && (not (is_post split i) && (not out && read)))
  given_simply within =
      let hand = is_at_hand f split (step_at f i).work in
      let fields = list_any (λ (w : FieldValue). is_value v w.value) (post_fields f split) in
      let whole : Bool = not (crosses_down f split v) && (read || (out || fields)) in
      let simple : Bool = not out && read in
      ⊎_elim
      (λ there. ⊎_elim
      (λ post. ap (λ p. hand && (not p && whole)) post ∙ sym (ap (λ p. hand && (not p && simple)) post))
      (λ other. ap (λ x. hand && (not (is_post split i) && x))
      (ap (λ x. not x && (read || (out || fields))) (crosses_by within there other)
      ∙ ap (λ y. not out && (read || (out || y))) (no_field other)
      ∙ settle out read))
      (cases_Bool (is_post split i)))
      (λ none. ap (λ h. h && (not (is_post split i) && whole)) none ∙ sym (ap (λ h. h && (not (is_post split i) && simple)) none))
      (cases_Bool hand)
