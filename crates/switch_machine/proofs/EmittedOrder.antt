-- The values of code that is emitted stand in order.
use Rattle.std.proofs.Common.{◌≡◌, ◌≢◌, ◌⊎◌, ℕ, zero, suc, ◌+◌, ◌<◌, ◌≤◌, ◌&&◌, not, Bool, true, List, [], ◌++◌, length, map, Option, is_some, refl, sym, ap, ◌∙◌, subst, inl, inr, arith}
use Rattle.std.specs.Prelude.{nat_lt}
use Rattle.std.specs.List.{filter, AllByRecursion as Each}
use Rattle.std.proofs.lemmas.Bool.{cases_eq, cases_lt, and_parts, ltb-true}
use Rattle.std.proofs.lemmas.List.{length-append}
use Rattle.flat_ir.specs.declared.program.ValueId.{ValueId}
use Rattle.flat_ir.specs.Program.{Program, is_named, result_count, step_at}
use Rattle.split_model.specs.declared.layout.Crossing.{Crossing}
use Rattle.split_model.specs.declared.split.Part.{Part}
use Rattle.split_model.specs.Crossing.{crosses_down, crosses_up, is_at_hand, is_value}
use Rattle.split_model.specs.Layouts.{crossing, down_layout, first_results, number_of, up_layout, values_below, values_of}
use Rattle.split_model.specs.Split.{is_post, post_stage, pre_stage}
use Rattle.switch_ir.specs.declared.code.Table.{Table}
use Rattle.switch_ir.specs.Emitted.{emitted, given_stage, only_value, post_code, pre_code, steps_of, tables_from, IsEmitted}
use Rattle.switch_ir.specs.Passes.{Step, Code}
use Rattle.switch_ir.specs.Spans.{handed_in, written_by, written_in, Written}
use Rattle.switch_machine.specs.Ranges.{AreInOrder, AreOrdered}
use Rattle.switch_machine.proofs.Numbered.{same_value}
use Rattle.switch_machine.proofs.Members.{each_has, has_each, has_made, has_parts, of_contains, Has}
use Rattle.switch_ir.proofs.PassesByStages.{given_at, only_one}
use Rattle.switch_ir.proofs.PostStart.{crossing_parts}
use Rattle.switch_ir.proofs.Soundness.{crossing_among}
use Rattle.switch_ir.proofs.ApartValues.{steps_are, values_are, IsStepOf, IsValueOf}
use Rattle.lemmas.proofs.Tests.{not_both}
use Rattle.split_model.proofs.ValueLists.{count_results}

-- ## Numbers of values

module _ (f : Program) where
  abbrev count : ℕ → ℕ
  count i = result_count f.objects (step_at f i).work

  abbrev start : ℕ → ℕ
  start i = length (values_below f i)

  next_start : (i : ℕ) → start (suc i) ≡ start i + count i
  next_start i = omega (arith, length-append (values_below f i) (first_results i (count i)), count_results i (count i))

  above : (i j : ℕ) → i < j → start i + count i ≤ start j
  above i zero lt = absurd (omega (arith, lt))
  above i (suc j) lt = elim (cases_eq i j) [
    | inl same ↦ omega (arith, next_start j, ap start same, ap count same)
    | inr other ↦ omega (arith, next_start j, above i j (omega (arith, lt, other)))
  ]

  -- a value that has its number
  pub record IsNumbered (v : ValueId) (n : ℕ) : Type 0 where
    pub is : n ≡ start v.instruction + v.result
    pub within : v.result < count v.instruction

  pub same_numbers : (v w : ValueId) (n : ℕ) → IsNumbered v n → IsNumbered w n → is_value v w ≡ true
  same_numbers v w n a b = elim (cases_lt v.instruction w.instruction) [
    | inl lt ↦ absurd (omega (arith, above v.instruction w.instruction lt, a.is, a.within, b.is))
    | inr le ↦ elim (cases_eq v.instruction w.instruction) [
      | inl same ↦ same_value v w same (omega (arith, a.is, b.is, ap start same))
      | inr other ↦ absurd (omega (arith, above w.instruction v.instruction (omega (arith, le, other)), b.is, b.within, a.is))
    ]
  ]

  in_order : (had : List Written) → ((w : Written) → Has had w → IsNumbered w.value w.number) → AreInOrder had
  in_order had all = record {
    within = λ w there. omega (arith, (all w (of_contains had w there)).is);
    same = λ a b here there same. omega (arith, (all a (of_contains had a here)).is, (all b (of_contains had b there)).is, ap start same);
    lower = λ a b here there lt.
        let x = all a (of_contains had a here) in
        let y = all b (of_contains had b there) in
        omega (arith, x.is, x.within, y.is, above a.value.instruction b.value.instruction lt);
  }

  module _ (split : List Part) where
    abbrev tables : List Table
    tables = tables_from f split 0 f.objects

    -- ## Steps

    placed_at : (stage : ℕ → Option ℕ) (s : Step) → Has (steps_of f stage) s → IsStepOf f split stage s
    placed_at stage = each_has (IsStepOf f split stage) (steps_of f stage) (steps_are f split stage (length f.code) (omega arith))

    step_value : (stage : ℕ → Option ℕ) (w : Written) → Has (written_by tables (steps_of f stage)) w → IsNumbered w.value w.number
    step_value stage w h =
        let is = each_has (IsValueOf f split stage) (written_by tables (steps_of f stage)) (values_are f split stage (length f.code) (omega arith)) w h in
        record { is = is.3; within = is.2 }

    named_value : (v : ValueId) → is_named f v ≡ true → IsNumbered v (number_of f v)
    named_value v e =
        let parts = and_parts (nat_lt v.instruction (length f.code)) (nat_lt v.result (count v.instruction)) e in
        record { is = refl; within = ltb-true v.result (count v.instruction) parts.1 }

    -- what goes up or comes down
    of_layout : (crosses : ValueId → Bool) (c : Crossing) → Has (map (crossing f) (filter crosses (values_of f))) c
        → (crosses c.value ≡ true) × (c.number ≡ number_of f c.value)
    of_layout crosses =
        each_has (λ (c : Crossing). (crosses c.value ≡ true) × (c.number ≡ number_of f c.value)) (map (crossing f) (filter crosses (values_of f)))
        (crossing_among f crosses (values_of f))

    up_named : (v : ValueId) → crosses_up f split v ≡ true → is_named f v ≡ true
    up_named v e = (and_parts (is_named f v) _ (and_parts (is_named f v && _) _ e).0).0

    -- ## Code

    abbrev pre_had : List Written
    pre_had = written_in tables [] (pre_code f split)

    abbrev post_had : List Written
    post_had = written_in tables (down_layout f split) (post_code f split)

    crossing_value : (crosses : ValueId → Bool) → ((v : ValueId) → crosses v ≡ true → is_named f v ≡ true) → (c : Crossing)
        → Has (map (crossing f) (filter crosses (values_of f))) c → IsNumbered c.value c.number
    crossing_value crosses named c h =
        let k = of_layout crosses c h in
        subst (IsNumbered c.value) (sym k.1) (named_value c.value (named c.value k.0))

    post_value : (w : Written) → Has post_had w → IsNumbered w.value w.number
    post_value w h =
        let given = written_by tables (steps_of f (given_stage f split)) in
        let computed = written_by tables (steps_of f (post_stage split)) in
        elim (has_parts (handed_in (down_layout f split)) (given ++ computed) w h) [
          | inl here ↦ (
              let m = has_made (λ (c : Crossing). record { value = c.value; number = c.number; stage = 0 }) (down_layout f split) w here in
              subst (λ (u : Written). IsNumbered u.value u.number) m.is
              (crossing_value (crosses_down f split) (λ v e. (crossing_parts f split v e).0) m.from m.there)
              )
          | inr there ↦ elim (has_parts given computed w there) [
            | inl first ↦ step_value (given_stage f split) w first
            | inr second ↦ step_value (post_stage split) w second
          ]
        ]

    other_step : (c : Crossing) → Has (down_layout f split) c → (s : Step)
        → Has (steps_of f (given_stage f split)) s ⊎ Has (steps_of f (post_stage split)) s → c.value.instruction ≢ s.instruction
    other_step c h s (inl given) same =
        let k = of_layout (crosses_down f split) c h in
        let at = given_at f split s.instruction s.stage (placed_at (given_stage f split) s given).0 in
        let hand = subst (λ i. is_at_hand f split (step_at f i).work ≡ true) (sym same) at.hand in
        let only = only_one f split c.value hand (named_value c.value (crossing_parts f split c.value k.0).0).within in
        not_both (crosses_down f split c.value) (ap (λ (v : ValueId). not (crosses_down f split v)) (sym (ap only_value (sym same) ∙ only)) ∙ at.crosses) k.0
    other_step c h s (inr computed) same =
        let k = of_layout (crosses_down f split) c h in
        not_both (is_post split c.value.instruction) (crossing_parts f split c.value k.0).1
        (ap (is_post split) same ∙ ap (λ (o : Option ℕ). is_some o) (placed_at (post_stage split) s computed).0)

    pub emitted_ordered : (writeback : ℕ) → AreOrdered (emitted f split writeback)
    emitted_ordered writeback = record {
      pre = in_order pre_had (step_value (pre_stage split));
      post = in_order post_had post_value;
      others = has_each (λ (c : Crossing). Each (λ (s : Step). c.value.instruction ≢ s.instruction) (steps_of f (given_stage f split) ++ steps_of f (post_stage split))) (down_layout f split)
          (λ c h. has_each (λ (s : Step). c.value.instruction ≢ s.instruction) (steps_of f (given_stage f split) ++ steps_of f (post_stage split))
          (λ s there. other_step c h s (has_parts (steps_of f (given_stage f split)) (steps_of f (post_stage split)) s there)));
      up = has_each (λ (c : Crossing). Each (λ (w : Written). w.number ≡ c.number → is_value w.value c.value ≡ true) pre_had) (up_layout f split)
          (λ c h. has_each (λ (w : Written). w.number ≡ c.number → is_value w.value c.value ≡ true) pre_had
          (λ w there same. same_numbers w.value c.value c.number (subst (IsNumbered w.value) same (step_value (pre_stage split) w there)) (crossing_value (crosses_up f split) up_named c h)));
    }

-- so do those of each code of a legally split program
pub ordered : (code : Code) → IsEmitted code → AreOrdered code
ordered code is = subst AreOrdered (sym is.is) (emitted_ordered is.program is.split code.writeback)
