-- Both passes of the code of a legally split program go by stages.
use Rattle.std.proofs.Common.{◌≡◌, ◌≢◌, ℕ, suc, ◌<◌, ◌≤◌, Bool, true, false, not, ◌&&◌, List, [], ◌∷◌, ◌++◌, length, Option, Some, None, is_some, refl, sym, ap, ◌∙◌, inl, inr, arith, slice_get, if◌then◌else◌}
use Rattle.std.specs.List.{AllByRecursion as Each}
use Rattle.std.specs.Prelude.{nat_lt}
use Rattle.std.proofs.lemmas.Bool.{cases_lt, and_parts, ltb-true}
use Rattle.std.proofs.lemmas.List.Elements.{All-map}
use Rattle.std.proofs.lemmas.List.Kept.{AllPairs-cons}
use Rattle.std.proofs.lemmas.Option.{slice_get_past, same_Some, none-some}
use Rattle.flat_ir.specs.declared.program.ValueId.{ValueId}
use Rattle.flat_ir.specs.Program.{Program, Work, step_at, operands, result_count, is_named}
use Rattle.split_model.specs.declared.layout.Crossing.{Crossing}
use Rattle.split_model.specs.declared.split.Part.{Part}
use Rattle.split_model.specs.Crossing.{is_among as is_value_among, is_at_hand, crosses_down}
use Rattle.split_model.specs.Bounds.{IsBounded}
use Rattle.split_model.specs.Legal.{IsLegal}
use Rattle.split_model.proofs.Laws.{legal_passes_go_by_stages-post, legal_passes_go_by_stages-pre}
use Rattle.transfer_header.proofs.Laws.{layouts_fit-rising, values_have_their_numbers}
use Rattle.split_model.specs.Layouts.{values_of, number_of, down_layout}
use Rattle.split_model.specs.Split.{is_post, pre_stage, post_stage}
use Rattle.transfer_header.specs.Registers.{IsRising}
use Rattle.switch_ir.specs.declared.code.Table.{Table}
use Rattle.switch_ir.specs.Emitted.{steps_of, only_value, is_given, is_read_after, given_stage, tables_from, emitted}
use Rattle.switch_ir.specs.LastReads.{AreInside, IsInside}
use Rattle.switch_ir.specs.Passes.{Step}
use Rattle.switch_ir.specs.Spans.{Written, written_by, handed_in, GoByStages}
use Rattle.switch_ir.proofs.Givens.{one_result}
use Rattle.switch_ir.proofs.PostStart.{crossing_parts}
use Rattle.switch_ir.proofs.Soundness.{crossing_among}
use Rattle.switch_ir.proofs.ApartValues.{apart_append, AreApart, IsStepOf, IsValueOf, steps_are, values_are, steps_apart, low_steps, reads_lower, reads_given, named}
use Rattle.lemmas.proofs.Lists.{each_append, each_map, each_weaker}
use Rattle.lemmas.proofs.Tests.{not_both}

each_both : {X Y : Type 0} (Q : X → Y → Type 0) → (ss : List X) (xs ys : List Y) → Each (λ s. Each (Q s) xs) ss → Each (λ s. Each (Q s) ys) ss → Each (λ s. Each (Q s) (xs ++ ys)) ss
each_both Q [] xs ys h k = tt
each_both Q (s ∷ ss) xs ys h k = (each_append (Q s) xs ys h.0 k.0, each_both Q ss xs ys h.1 k.1)

handed_apart : (layout : List Crossing) → IsRising layout → AreApart (handed_in layout)
handed_apart [] rising = λ i j d lt within. absurd (omega (arith, within))
handed_apart (c ∷ cs) rising =
    AllPairs-cons (λ (a b : Written). a.number ≢ b.number) (record { value = c.value; number = c.number; stage = 0 }) (handed_in cs)
    (All-map (λ (b : Written). c.number ≢ b.number) (λ (q : Crossing). record { value = q.value; number = q.number; stage = 0 }) cs
    (λ k d lt e. omega (arith, e, rising 0 (suc k) d (omega arith) (omega (arith, lt)))))
    (handed_apart cs (λ i j d lt within. rising (suc i) (suc j) d (omega (arith, lt)) (omega (arith, within))))

module _ (f : Program) (split : List Part) where
  abbrev tables : List Table
  tables = tables_from f split 0 f.objects

  -- ---- values with their numbers
  abbrev IsNumbered : Written → Type 0
  IsNumbered w = (is_named f w.value ≡ true) × (w.number ≡ number_of f w.value)

  by_value : (a b : Written) → IsNumbered a → IsNumbered b → (a.value ≡ b.value → ⊥) → a.number ≢ b.number
  by_value a b na nb differ e =
      let same : number_of f a.value ≡ number_of f b.value = sym na.1 ∙ e ∙ nb.1 in
      differ (same_Some a.value b.value (sym (values_have_their_numbers f a.value na.0) ∙ ap (slice_get (values_of f)) same ∙ values_have_their_numbers f b.value nb.0))

  in_values : (w : Written) → IsNumbered w → w.number < length (values_of f)
  in_values w is = elim (cases_lt w.number (length (values_of f))) [
    | inl lt ↦ lt
    | inr past ↦ absurd (none-some _ (sym (slice_get_past (values_of f) w.number past) ∙ ap (slice_get (values_of f)) is.1 ∙ values_have_their_numbers f w.value is.0))
  ]

  numbered : (stage : ℕ → Option ℕ) (w : Written) → IsValueOf f split stage w → IsNumbered w
  numbered stage w is = (named f split stage w is, is.3)

  -- ---- what is handed down
  abbrev IsHandedDown : Written → Type 0
  IsHandedDown w = (crosses_down f split w.value ≡ true) × (w.number ≡ number_of f w.value) × (w.stage ≡ 0)

  abbrev handed : List Written
  handed = handed_in (down_layout f split)

  handed_are : Each IsHandedDown handed
  handed_are = each_map IsHandedDown (λ (c : Crossing). record { value = c.value; number = c.number; stage = 0 }) (down_layout f split)
      (each_weaker (λ (c : Crossing). (crosses_down f split c.value ≡ true) × (c.number ≡ number_of f c.value))
      (λ c. IsHandedDown (record { value = c.value; number = c.number; stage = 0 })) (λ c is. (is.0, is.1, refl)) (down_layout f split) (crossing_among f (crosses_down f split) (values_of f)))

  handed_numbered : (w : Written) → IsHandedDown w → IsNumbered w
  handed_numbered w is = ((crossing_parts f split w.value is.0).0, is.1)

  -- and has a place among the first 9 results
  pub handed_inside : ((work : Work) → result_count f.objects work ≤ 9) → AreInside (length f.code) (handed_in (down_layout f split))
  handed_inside few =
      each_weaker IsHandedDown (IsInside (length f.code))
      (λ w is.
      let range = and_parts (nat_lt w.value.instruction (length f.code)) (nat_lt w.value.result (result_count f.objects (step_at f w.value.instruction).work)) (crossing_parts f split w.value is.0).0 in
      let below = ltb-true w.value.result (result_count f.objects (step_at f w.value.instruction).work) range.1 in
      (ltb-true w.value.instruction (length f.code) range.0, omega (arith, below, few (step_at f w.value.instruction).work)))
      handed handed_are

  -- ---- what is given
  abbrev given : List Written
  given = written_by tables (steps_of f (given_stage f split))

  is_first : (b : Bool) (t : ℕ) → (if b then Some 0 else None) ≡ Some t → (b ≡ true) × (t ≡ 0)
  is_first true t e = (refl, sym (same_Some 0 t e))
  is_first false t e = cc

  pub record IsGivenAt (i : ℕ) : Type 0 where
    pub hand : is_at_hand f split (step_at f i).work ≡ true
    pub later : not (is_post split i) ≡ true
    pub crosses : not (crosses_down f split (only_value i)) ≡ true

  pub given_at : (i t : ℕ) → given_stage f split i ≡ Some t → IsGivenAt i
  given_at i t e =
      let is = (is_first (is_given f split i) t e).0 in
      let rest = not (crosses_down f split (only_value i)) && is_read_after f split (only_value i) in
      let a = and_parts (is_at_hand f split (step_at f i).work) (not (is_post split i) && rest) is in
      let b = and_parts (not (is_post split i)) rest a.1 in
      let c = and_parts (not (crosses_down f split (only_value i))) (is_read_after f split (only_value i)) b.1 in
      record { hand = a.0; later = b.0; crosses = c.0 }

  pub only_one : (v : ValueId) → is_at_hand f split (step_at f v.instruction).work ≡ true → v.result < result_count f.objects (step_at f v.instruction).work → only_value v.instruction ≡ v
  only_one v hand lt =
      let first : 0 ≡ v.result = omega (arith, lt, one_result f split (step_at f v.instruction).work hand) in
      λ i. record { instruction = v.instruction; result = first i }

  -- ---- groups that have no value in common
  abbrev steps : List Written
  steps = written_by tables (steps_of f (post_stage split))

  given_values : Each (IsValueOf f split (given_stage f split)) given
  given_values = values_are f split (given_stage f split) (length f.code) (omega arith)

  steps_values : Each (IsValueOf f split (post_stage split)) steps
  steps_values = values_are f split (post_stage split) (length f.code) (omega arith)

  stepped_post : (w : Written) → IsValueOf f split (post_stage split) w → is_post split w.value.instruction ≡ true
  stepped_post w is = ap (λ (o : Option ℕ). is_some o) is.0

  -- what isn't handed down
  abbrev IsKept : Written → Type 0
  IsKept w = IsNumbered w × (crosses_down f split w.value ≡ true → ⊥)

  given_later : (w : Written) → IsValueOf f split (given_stage f split) w → not (is_post split w.value.instruction) ≡ true
  given_later w is = (given_at w.value.instruction w.stage is.0).later

  given_kept : (w : Written) → IsValueOf f split (given_stage f split) w → IsKept w
  given_kept w is =
      let at = given_at w.value.instruction w.stage is.0 in (
        numbered (given_stage f split) w is,
        not_both (crosses_down f split w.value) (ap (λ (v : ValueId). not (crosses_down f split v)) (sym (only_one w.value at.hand is.2)) ∙ at.crosses),
      )

  steps_kept : (w : Written) → IsValueOf f split (post_stage split) w → IsKept w
  steps_kept w is = (numbered (post_stage split) w is, λ e. not_both (is_post split w.value.instruction) (crossing_parts f split w.value e).1 (stepped_post w is))

  rest_apart : AreApart (given ++ steps)
  rest_apart =
      apart_append (IsValueOf f split (given_stage f split)) (IsValueOf f split (post_stage split))
      (λ a b of on. by_value a b (numbered (given_stage f split) a of) (numbered (post_stage split) b on)
      (λ e. not_both (is_post split a.value.instruction) (given_later a of) (ap (λ (v : ValueId). is_post split v.instruction) e ∙ stepped_post b on)))
      given steps given_values steps_values (steps_apart f split (given_stage f split) (length f.code)) (steps_apart f split (post_stage split) (length f.code))

  all_apart : IsRising (down_layout f split) → AreApart (handed ++ (given ++ steps))
  all_apart rising =
      apart_append IsHandedDown IsKept (λ a b of on. by_value a b (handed_numbered a of) on.0 (λ e. on.1 (ap (crosses_down f split) (sym e) ∙ of.0)))
      handed (given ++ steps) handed_are
      (each_append IsKept given steps (each_weaker (IsValueOf f split (given_stage f split)) IsKept given_kept given given_values)
      (each_weaker (IsValueOf f split (post_stage split)) IsKept steps_kept steps steps_values))
      (handed_apart (down_layout f split) rising) rest_apart

  -- ---- all of it
  given_first : Each (λ s. s.stage ≡ 0) (steps_of f (given_stage f split))
  given_first =
      each_weaker (IsStepOf f split (given_stage f split)) (λ s. s.stage ≡ 0)
      (λ s is. (is_first (is_given f split s.instruction) s.stage is.0).1) (steps_of f (given_stage f split))
      (steps_are f split (given_stage f split) (length f.code) (omega arith))

  given_zero : Each (λ w. w.stage ≡ 0) given
  given_zero =
      each_weaker (IsValueOf f split (given_stage f split)) (λ w. w.stage ≡ 0)
      (λ w is. (is_first (is_given f split w.value.instruction) w.stage is.0).1) given given_values

  handed_zero : Each (λ w. w.stage ≡ 0) handed
  handed_zero = each_weaker IsHandedDown (λ w. w.stage ≡ 0) (λ w is. is.2) handed handed_are

  post_are : Each (IsStepOf f split (post_stage split)) (steps_of f (post_stage split))
  post_are = steps_are f split (post_stage split) (length f.code) (omega arith)

  -- The passes of the code of a legally split program go by stages.
  pub what_is_emitted_goes_by_stages : (writeback : ℕ) → IsBounded f → IsLegal f split → GoByStages (emitted f split writeback)
  what_is_emitted_goes_by_stages writeback bounded legal = record {
    pre = record {
      apart = steps_apart f split (pre_stage split) (length f.code);
      given = tt;
      low = low_steps f split (pre_stage split) (length f.code);
      lower = reads_lower f split (pre_stage split) (legal_passes_go_by_stages-pre f split legal) (steps_of f (pre_stage split)) (written_by tables (steps_of f (pre_stage split)))
          (steps_are f split (pre_stage split) (length f.code) (omega arith)) (values_are f split (pre_stage split) (length f.code) (omega arith));
    };
    post = record {
      apart = all_apart (layouts_fit-rising f split).1;
      given = given_first;
      low = low_steps f split (post_stage split) (length f.code);
      lower = each_both (λ (s : Step) (w : Written). is_value_among w.value (operands s.work) ≡ true → w.stage < s.stage) (steps_of f (post_stage split)) handed (given ++ steps)
          (reads_given f split (post_stage split) (legal_passes_go_by_stages-post f split legal) (steps_of f (post_stage split)) handed post_are handed_zero)
          (each_both (λ (s : Step) (w : Written). is_value_among w.value (operands s.work) ≡ true → w.stage < s.stage) (steps_of f (post_stage split)) given steps
          (reads_given f split (post_stage split) (legal_passes_go_by_stages-post f split legal) (steps_of f (post_stage split)) given post_are given_zero)
          (reads_lower f split (post_stage split) (legal_passes_go_by_stages-post f split legal) (steps_of f (post_stage split)) steps post_are steps_values));
    };
    pre_numbers = each_weaker (IsValueOf f split (pre_stage split)) (λ w. w.number < length (values_of f)) (λ w is. in_values w (numbered (pre_stage split) w is))
        (written_by tables (steps_of f (pre_stage split))) (values_are f split (pre_stage split) (length f.code) (omega arith));
    post_numbers = each_append (λ (w : Written). w.number < length (values_of f)) handed (given ++ steps)
        (each_weaker IsHandedDown (λ w. w.number < length (values_of f)) (λ w is. in_values w (handed_numbered w is)) handed handed_are)
        (each_append (λ (w : Written). w.number < length (values_of f)) given steps
        (each_weaker (IsValueOf f split (given_stage f split)) (λ w. w.number < length (values_of f)) (λ w is. in_values w (numbered (given_stage f split) w is)) given given_values)
        (each_weaker (IsValueOf f split (post_stage split)) (λ w. w.number < length (values_of f)) (λ w is. in_values w (numbered (post_stage split) w is)) steps steps_values));
  }
