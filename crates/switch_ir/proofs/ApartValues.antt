-- The passes of the code of a legally split program go by stages.
use Rattle.std.proofs.Common.{◌≡◌, ◌≢◌, ℕ, zero, suc, ◌+◌, ◌<◌, ◌≤◌, true, false, List, [], ◌∷◌, ◌++◌, length, max, Option, Some, None, refl, sym, ap, subst, ◌∙◌, arith, get_or, slice_get, append_assoc, add-one}
use Rattle.std.specs.Prelude.{nat_lt, unwrap_or}
use Rattle.std.specs.List.{AllByRecursion as Each, AllPairs}
use Rattle.std.specs.Option.{option_map}
use Rattle.std.proofs.lemmas.Bool.{and_from, lt-ltb, false≢true}
use Rattle.std.proofs.lemmas.List.Elements.{All-append}
use Rattle.std.proofs.lemmas.List.Kept.{AllPairs-cons}
use Rattle.state_store.specs.declared.object.ObjectDecl.{ObjectDecl}
use Rattle.flat_ir.specs.declared.program.ValueId.{ValueId}
use Rattle.flat_ir.specs.Kinds.{is_input}
use Rattle.flat_ir.specs.Program.{Program, Work, step_at, operands, result_count, is_named}
use Rattle.flat_ir.specs.Program.Work.{const, field, look}
use Rattle.split_model.specs.declared.split.Part.{Part}
use Rattle.split_model.specs.Counts.{stage_or_zero}
use Rattle.split_model.specs.Crossing.{is_among as is_value_among}
use Rattle.split_model.specs.Laws.{GoesByStages as ProgramGoesByStages}
use Rattle.split_model.specs.Layouts.{values_below, number_of}
use Rattle.switch_ir.specs.declared.code.Table.{Table}
use Rattle.switch_ir.specs.Emitted.{step_for, placed, steps_below, highest_of, tables_from}
use Rattle.switch_ir.specs.Passes.{Step}
use Rattle.switch_ir.specs.Spans.{Written, results_in, results_of, written_by}
use Rattle.switch_ir.specs.Tables.{declared_at}
use Rattle.switch_ir.proofs.Places.{values_more}
use Rattle.switch_ir.proofs.Soundness.{declared_among}
use Rattle.lemmas.proofs.Lists.{each_append, each_or, each_weaker}

-- ---- pairs
abbrev pub AreApart : List Written → Type 0
AreApart had = AllPairs (λ (a b : Written). a.number ≢ b.number) had

pub apart_append : (P Q : Written → Type 0) → ((a b : Written) → P a → Q b → a.number ≢ b.number) → (xs ys : List Written) → Each P xs → Each Q ys → AreApart xs → AreApart ys
    → AreApart (xs ++ ys)
apart_append P Q differ [] ys ps qs ax ay = ay
apart_append P Q differ (x ∷ xs) ys ps qs ax ay =
    AllPairs-cons (λ (a b : Written). a.number ≢ b.number) x (xs ++ ys)
    (All-append (λ (b : Written). x.number ≢ b.number) xs ys
    (λ k d lt. ax 0 (suc k) d (omega arith) (omega (arith, lt)))
    (λ k d lt. differ x (get_or ys k d) ps.0 (each_or Q ys k d qs lt)))
    (apart_append P Q differ xs ys ps.1 qs (λ i j d lt within. ax (suc i) (suc j) d (omega (arith, lt)) (omega (arith, within))) ay)

-- numbers that rise, from one that is at least this, to one below that
abbrev Rises : ℕ → List Written → ℕ → Type 0
Rises low [] high = low ≤ high
Rises low (w ∷ ws) high = (low ≤ w.number) × Rises (suc w.number) ws high

rises_append : (low mid high : ℕ) (xs ys : List Written) → Rises low xs mid → Rises mid ys high → Rises low (xs ++ ys) high
rises_append low mid high [] [] hx hy = omega (arith, hx, hy)
rises_append low mid high [] (y ∷ ys) hx hy = (omega (arith, hx, hy.0), hy.1)
rises_append low mid high (x ∷ xs) ys hx hy = (hx.0, rises_append (suc x.number) mid high xs ys hx.1 hy)

above : (low high : ℕ) (ws : List Written) (k : ℕ) (d : Written) → Rises low ws high → k < length ws → low ≤ (get_or ws k d).number
above low high [] k d rise lt = absurd (omega (arith, lt))
above low high (w ∷ ws) zero d rise lt = rise.0
above low high (w ∷ ws) (suc k) d rise lt = omega (arith, rise.0, above (suc w.number) high ws k d rise.1 (omega (arith, lt)))

rises_apart : (low high : ℕ) (ws : List Written) → Rises low ws high → AreApart ws
rises_apart low high [] rise = λ i j d lt within. absurd (omega (arith, within))
rises_apart low high (w ∷ ws) rise =
    AllPairs-cons (λ (a b : Written). a.number ≢ b.number) w ws (λ k d lt e. omega (arith, e, above (suc w.number) high ws k d rise.1 lt))
    (rises_apart (suc w.number) high ws rise.1)

pub written_append : (tables : List Table) (xs ys : List Step) → written_by tables (xs ++ ys) ≡ written_by tables xs ++ written_by tables ys
written_append tables [] ys = refl
written_append tables (x ∷ xs) ys =
    ap (λ l. results_of x (results_in tables x.work) ++ l) (written_append tables xs ys)
    ∙ sym (append_assoc (results_of x (results_in tables x.work)) (written_by tables xs) (written_by tables ys))

-- ---- how many results
results_at_most : (f : Program) (split : List Part) (work : Work) → results_in (tables_from f split 0 f.objects) work ≤ result_count f.objects work
results_at_most f split (look object keys) = by_case (declared_at (tables_from f split 0 f.objects) object) refl
  where
    by_case : (o : Option ObjectDecl) → declared_at (tables_from f split 0 f.objects) object ≡ o
        → suc (length (unwrap_or (option_map (λ (d : ObjectDecl). d.values) o) [])) ≤ result_count f.objects (look object keys)
    by_case None e = omega arith
    by_case (Some d) e =
        let found = declared_among f split 0 f.objects object d e in
        let at : slice_get f.objects object ≡ Some d = ap (slice_get f.objects) found.1 ∙ ap (slice_get f.objects) (omega arith) ∙ found.2 in
        omega (arith, ap (λ (o : Option ObjectDecl). length (unwrap_or (option_map (λ (x : ObjectDecl). x.values) o) [])) at)
results_at_most f split work = omega arith

-- ---- the instructions of a pass, and their values
module _ (f : Program) (split : List Part) (stage : ℕ → Option ℕ) where
  abbrev tables : List Table
  tables = tables_from f split 0 f.objects

  abbrev pub IsStepOf : Step → Type 0
  IsStepOf s = (stage s.instruction ≡ Some s.stage) × (s.instruction < length f.code) × (s.work ≡ (step_at f s.instruction).work) × (s.first ≡ length (values_below f s.instruction))

  abbrev pub IsValueOf : Written → Type 0
  IsValueOf w = (stage w.value.instruction ≡ Some w.stage) × (w.value.instruction < length f.code)
      × (w.value.result < result_count f.objects (step_at f w.value.instruction).work) × (w.number ≡ number_of f w.value)

  one_step : (n : ℕ) (o : Option ℕ) → n < length f.code → stage n ≡ o → Each IsStepOf (placed f n o)
  one_step n None lt e = tt
  one_step n (Some t) lt e = ((e, lt, refl, refl), tt)

  pub steps_are : (n : ℕ) → n ≤ length f.code → Each IsStepOf (steps_below f stage n)
  steps_are zero le = tt
  steps_are (suc n) le = each_append IsStepOf (steps_below f stage n) (placed f n (stage n)) (steps_are n (omega (arith, le))) (one_step n (stage n) (omega (arith, le)) refl)

  results_are : (s : Step) (n : ℕ) → IsStepOf s → n ≤ result_count f.objects (step_at f s.instruction).work → Each IsValueOf (results_of s n)
  results_are s zero is le = tt
  results_are s (suc n) is le =
      each_append IsValueOf (results_of s n) (record { value = record { instruction = s.instruction; result = n }; number = s.first + n; stage = s.stage } ∷ [])
      (results_are s n is (omega (arith, le))) ((is.0, is.1, omega (arith, le), ap (λ k. k + n) is.3), tt)

  pub written_are : (steps : List Step) → Each IsStepOf steps → Each IsValueOf (written_by tables steps)
  written_are [] are = tt
  written_are (s ∷ ss) are =
      let few : results_in tables s.work ≤ result_count f.objects (step_at f s.instruction).work = subst (λ w. results_in tables s.work ≤ result_count f.objects w) are.0.2 (results_at_most f split s.work) in
      each_append IsValueOf (results_of s (results_in tables s.work)) (written_by tables ss)
      (results_are s (results_in tables s.work) are.0 few) (written_are ss are.1)

  pub values_are : (n : ℕ) → n ≤ length f.code → Each IsValueOf (written_by tables (steps_below f stage n))
  values_are n le = written_are (steps_below f stage n) (steps_are n le)

  -- ---- numbers that rise
  results_rise : (s : Step) (n : ℕ) → Rises s.first (results_of s n) (s.first + n)
  results_rise s zero = omega arith
  results_rise s (suc n) =
      rises_append s.first (s.first + n) (s.first + suc n) (results_of s n) (record { value = record { instruction = s.instruction; result = n }; number = s.first + n; stage = s.stage } ∷ [])
      (results_rise s n) (omega arith, omega arith)

  more_values : (n : ℕ) → length (values_below f n) + result_count f.objects (step_at f n).work ≡ length (values_below f (suc n))
  more_values n = values_more f n (length (values_below f n)) (result_count f.objects (step_at f n).work) refl refl ∙ ap (λ k. length (values_below f k)) (add-one n)

  placed_rise : (n : ℕ) (o : Option ℕ) → Rises (length (values_below f n)) (written_by tables (placed f n o)) (length (values_below f (suc n)))
  placed_rise n None = omega (arith, more_values n)
  placed_rise n (Some t) =
      let count = results_in tables (step_at f n).work in
      rises_append (length (values_below f n)) (length (values_below f n) + count) (length (values_below f (suc n))) (results_of (step_for f n t) count) []
      (results_rise (step_for f n t) count) (omega (arith, more_values n, results_at_most f split (step_at f n).work))

  steps_rise : (n : ℕ) → Rises 0 (written_by tables (steps_below f stage n)) (length (values_below f n))
  steps_rise zero = omega arith
  steps_rise (suc n) =
      subst (λ l. Rises 0 l (length (values_below f (suc n)))) (sym (written_append tables (steps_below f stage n) (placed f n (stage n))))
      (rises_append 0 (length (values_below f n)) (length (values_below f (suc n))) (written_by tables (steps_below f stage n)) (written_by tables (placed f n (stage n)))
      (steps_rise n) (placed_rise n (stage n)))

  pub steps_apart : (n : ℕ) → AreApart (written_by tables (steps_below f stage n))
  steps_apart n = rises_apart 0 (length (values_below f n)) (written_by tables (steps_below f stage n)) (steps_rise n)

  -- ---- stages
  pub low_steps : (n : ℕ) → Each (λ s. s.stage ≤ highest_of stage n) (steps_below f stage n)
  low_steps zero = tt
  low_steps (suc n) =
      each_append (λ (s : Step). s.stage ≤ highest_of stage (suc n)) (steps_below f stage n) (placed f n (stage n))
      (each_weaker (λ (s : Step). s.stage ≤ highest_of stage n) (λ s. s.stage ≤ highest_of stage (suc n)) (λ s le. omega (arith, le)) (steps_below f stage n) (low_steps n))
      (one (stage n))
    where
      one : (o : Option ℕ) → Each (λ (s : Step). s.stage ≤ max (highest_of stage n) (stage_or_zero o)) (placed f n o)
      one None = tt
      one (Some t) = (omega arith, tt)

  -- what an instruction reads of its own pass is written in a lower stage
  pub reads_lower : ProgramGoesByStages f stage → (steps : List Step) (had : List Written) → Each IsStepOf steps → Each IsValueOf had
      → Each (λ s. Each (λ w. is_value_among w.value (operands s.work) ≡ true → w.stage < s.stage) had) steps
  reads_lower by steps had are values =
      each_weaker IsStepOf (λ s. Each (λ w. is_value_among w.value (operands s.work) ≡ true → w.stage < s.stage) had)
      (λ s is. each_weaker IsValueOf (λ w. is_value_among w.value (operands s.work) ≡ true → w.stage < s.stage)
      (λ w of e. by.reads s.instruction s.stage w.stage w.value is.1 is.0 (ap (λ work. is_value_among w.value (operands work)) (sym is.2) ∙ e) of.0) had values) steps are

  no_input : (v : ValueId) (work : Work) → is_value_among v (operands work) ≡ true → is_input work ≡ false
  no_input v (const width number) e = absurd (false≢true e)
  no_input v (field name) e = absurd (false≢true e)
  no_input v work e = refl

  -- and it reads nothing at stage 0
  pub reads_given : ProgramGoesByStages f stage → (steps : List Step) (had : List Written) → Each IsStepOf steps → Each (λ w. w.stage ≡ 0) had
      → Each (λ s. Each (λ w. is_value_among w.value (operands s.work) ≡ true → w.stage < s.stage) had) steps
  reads_given by steps had are values =
      each_weaker IsStepOf (λ s. Each (λ w. is_value_among w.value (operands s.work) ≡ true → w.stage < s.stage) had)
      (λ s is. each_weaker (λ (w : Written). w.stage ≡ 0) (λ w. is_value_among w.value (operands s.work) ≡ true → w.stage < s.stage)
      (λ w first e.
      let none = no_input w.value s.work e in
      let above = by.others s.instruction s.stage is.1 is.0 (ap is_input (sym is.2) ∙ none) in
      omega (arith, first, above)) had values) steps are

  -- ---- values have their numbers
  pub named : (w : Written) → IsValueOf w → is_named f w.value ≡ true
  named w is =
      and_from (nat_lt w.value.instruction (length f.code)) (nat_lt w.value.result (result_count f.objects (step_at f w.value.instruction).work))
      (lt-ltb w.value.instruction (length f.code) is.1) (lt-ltb w.value.result (result_count f.objects (step_at f w.value.instruction).work) is.2)
