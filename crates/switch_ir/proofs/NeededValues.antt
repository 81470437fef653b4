-- What goes up is needed after the last stage, and what comes down before the first.
use Rattle.std.proofs.Common.{◌≡◌, ℕ, zero, suc, ◌+◌, ◌-◌, ◌==◌, ◌<◌, ◌≤◌, Bool, true, false, not, ◌&&◌, ◌||◌, List, [], ◌∷◌, ◌++◌, length, map, max, Option, Some, None, is_some, refl, sym, ap, subst, ◌∙◌, inl, inr, arith, get_or, slice_get, if◌then◌else◌}
use Rattle.std.specs.Prelude.{nat_le, nat_lt, All, unwrap_or}
use Rattle.std.specs.List.{list_any}
use Rattle.std.specs.Option.{option_map}
use Rattle.std.proofs.lemmas.Bool.{cases_lt, and_from, and_parts, eq-eqb, ne_eqb, le-leb, ltb-true, or_left, or_right, true≢false, false≢true}
use Rattle.std.proofs.lemmas.List.Folds.{list_any-append, list_any_at}
use Rattle.state_store.specs.declared.object.ObjectDecl.{ObjectDecl}
use Rattle.flat_ir.specs.declared.program.FieldValue.{FieldValue}
use Rattle.flat_ir.specs.declared.program.ValueId.{ValueId}
use Rattle.flat_ir.specs.declared.spans.Span.{Span}
use Rattle.flat_ir.specs.Kinds.{is_input}
use Rattle.flat_ir.specs.Program.{Program, Work, step_at, result_count, is_named}
use Rattle.flat_ir.specs.Program.Work.{look}
use Rattle.flat_ir.specs.Spans.{covers, last_step}
use Rattle.split_model.specs.declared.layout.Crossing.{Crossing}
use Rattle.split_model.specs.declared.split.Part.{Part}
use Rattle.split_model.specs.Counts.{is_post_shown}
use Rattle.split_model.specs.Crossing.{is_value, is_among, is_read_by, guards_write, is_written_value, crosses_up, crosses_down}
use Rattle.split_model.specs.Layouts.{values_below, values_of, number_of, up_layout, down_layout}
use Rattle.split_model.specs.Legal.{IsLegal}
use Rattle.split_model.specs.Shown.{looks_at, is_shown}
use Rattle.split_model.specs.Split.{is_carried, is_pre, is_server, pre_stage}
use Rattle.transfer_header.specs.Steps.{IsNeeded}
use Rattle.switch_ir.specs.declared.code.Table.{Table}
use Rattle.switch_ir.specs.Emitted.{placed, steps_below, is_looked_up, tables_from, emitted}
use Rattle.switch_ir.specs.Passes.{Step, PassCode}
use Rattle.switch_ir.specs.Spans.{Written, results_in, results_of, written_by, handed_in, is_read_last, is_tested, last_read, span_of, pre_spans, post_spans}
use Rattle.switch_ir.specs.Tables.{declared_at}
use Rattle.switch_ir.proofs.PostStart.{value_same}
use Rattle.switch_ir.proofs.Passes.{highest_is}
use Rattle.switch_ir.proofs.Places.{any_at}
use Rattle.switch_ir.proofs.Soundness.{crossing_among}
use Rattle.switch_ir.proofs.ApartValues.{written_append}
use Rattle.lemmas.proofs.Lists.{each_or}

any_map : {X Y : Type 0} (p : Y → Bool) (g : X → Y) (xs : List X) → list_any p (map g xs) ≡ list_any (λ x. p (g x)) xs
any_map p g [] = refl
any_map p g (x ∷ xs) = ap (λ b. p (g x) || b) (any_map p g xs)

-- ---- a value that a pass has is among its values
found_results : (p : Written → Bool) (s : Step) (n r : ℕ) → r < n
    → p (record { value = record { instruction = s.instruction; result = r }; number = s.first + r; stage = s.stage }) ≡ true → list_any p (results_of s n) ≡ true
found_results p s zero r lt e = absurd (omega (arith, lt))
found_results p s (suc n) r lt e =
    let last : Written = record { value = record { instruction = s.instruction; result = n }; number = s.first + n; stage = s.stage } in
    list_any-append p (results_of s n) (last ∷ [])
    ∙ elim (cases_lt r n) [
      | inl less ↦ or_left (list_any p (results_of s n)) (list_any p (last ∷ [])) (found_results p s n r less e)
      | inr more ↦ (
          let same : n ≡ r = omega arith in
          or_right (list_any p (results_of s n)) (list_any p (last ∷ []))
          (or_left (p last) false (ap (λ k. p (record { value = record { instruction = s.instruction; result = k }; number = s.first + k; stage = s.stage })) same ∙ e))
          )
    ]

found_placed : (f : Program) (tables : List Table) (p : Written → Bool) (n t r : ℕ) (o : Option ℕ) → o ≡ Some t → r < results_in tables (step_at f n).work
    → p (record { value = record { instruction = n; result = r }; number = length (values_below f n) + r; stage = t }) ≡ true → list_any p (written_by tables (placed f n o)) ≡ true
found_placed f tables p n t r o is lt e =
    let work = (step_at f n).work in
    let s : Step = record { instruction = n; stage = t; first = length (values_below f n); work = work } in
    ap (λ (x : Option ℕ). list_any p (written_by tables (placed f n x))) is
    ∙ list_any-append p (results_of s (results_in tables work)) [] ∙ or_left (list_any p (results_of s (results_in tables work))) false (found_results p s (results_in tables work) r lt e)

pub found_steps : (f : Program) (stage : ℕ → Option ℕ) (tables : List Table) (p : Written → Bool) (n i t r : ℕ) → i < n → stage i ≡ Some t → r < results_in tables (step_at f i).work
    → p (record { value = record { instruction = i; result = r }; number = length (values_below f i) + r; stage = t }) ≡ true → list_any p (written_by tables (steps_below f stage n)) ≡ true
found_steps f stage tables p zero i t r below is lt e = absurd (omega (arith, below))
found_steps f stage tables p (suc n) i t r below is lt e =
    let front = written_by tables (steps_below f stage n) in
    let back = written_by tables (placed f n (stage n)) in
    ap (list_any p) (written_append tables (steps_below f stage n) (placed f n (stage n))) ∙ list_any-append p front back
    ∙ elim (cases_lt i n) [
      | inl less ↦ or_left (list_any p front) (list_any p back) (found_steps f stage tables p n i t r less is lt e)
      | inr more ↦ (
          let same : i ≡ n = omega arith in
          or_right (list_any p front) (list_any p back)
          (found_placed f tables p n t r (stage n) (subst (λ k. stage k ≡ Some t) same is) (subst (λ k. r < results_in tables (step_at f k).work) same lt)
          (subst (λ k. p (record { value = record { instruction = k; result = r }; number = length (values_below f k) + r; stage = t }) ≡ true) same e))
          )
    ]

-- ---- how many results
-- what is looked up is declared as in the program
abbrev no_objects : List ObjectDecl
no_objects = []

nothing_there : (k : ℕ) → None ≡ slice_get no_objects k
nothing_there zero = refl
nothing_there (suc k) = refl

declared_is : (f : Program) (split : List Part) (o : ℕ) (ds : List ObjectDecl) (n k : ℕ) → n ≡ o + k → is_looked_up f split n ≡ true
    → declared_at (tables_from f split o ds) n ≡ slice_get ds k
declared_is f split o [] n k e shown = nothing_there k
declared_is f split o (d ∷ ds) n zero e shown =
    let same : o ≡ n = omega (arith, e) in
    ap (λ (b : Bool). declared_at ((if b then record { number = o; object = d } ∷ [] else []) ++ tables_from f split (suc o) ds) n) (ap (is_looked_up f split) same ∙ shown)
    ∙ ap (λ (b : Bool). if b then Some d else declared_at (tables_from f split (suc o) ds) n) (eq-eqb o n same)
declared_is f split o (d ∷ ds) n (suc k) e shown = by_test (is_looked_up f split o) (declared_is f split (suc o) ds n k (omega (arith, e)) shown)
  where
    by_test : (b : Bool) → declared_at (tables_from f split (suc o) ds) n ≡ slice_get ds k
        → declared_at ((if b then record { number = o; object = d } ∷ [] else []) ++ tables_from f split (suc o) ds) n ≡ slice_get ds k
    by_test true later = ap (λ (b : Bool). if b then Some d else declared_at (tables_from f split (suc o) ds) n) (ne_eqb o n (λ same. omega (arith, e, same))) ∙ later
    by_test false later = later

pub results_exact : (f : Program) (split : List Part) (work : Work) → ((o : ℕ) → looks_at o work ≡ true → is_looked_up f split o ≡ true)
    → result_count f.objects work ≡ results_in (tables_from f split 0 f.objects) work
results_exact f split (look object keys) shown =
    let at = declared_is f split 0 f.objects object object (omega arith) (shown object (eq-eqb object object refl)) in
    omega (arith, ap (λ (o : Option ObjectDecl). length (unwrap_or (option_map (λ (d : ObjectDecl). d.values) o) [])) at)
results_exact f split work shown = omega arith

-- ---- the values of a layout
covers_high : (highest t last : ℕ) (number : ℕ) → t ≤ highest → suc highest ≤ last → covers highest (record { value = number; from = t; to = max t last }) ≡ true
covers_high highest t last number low late =
    and_from (nat_le t highest) (nat_le highest (max t (max t last - 1))) (le-leb t highest low) (le-leb highest (max t (max t last - 1)) (omega (arith, low, late)))

is_first_kept : (o : Option ℕ) → is_some o ≡ true → (t : ℕ) × (o ≡ Some t)
is_first_kept None e = absurd (false≢true e)
is_first_kept (Some t) e = (t, refl)

carried_pre : (f : Program) (split : List Part) → IsLegal f split → (i : ℕ) → i < length f.code → is_carried split i ≡ true → is_pre split i ≡ true
carried_pre f split legal i lt carried = by_test (is_pre split i) (ap (λ (b : Bool). b && not (is_pre split i)) (sym carried) ∙ legal.kept 3 i lt)
  where
    by_test : (b : Bool) → not b ≡ false → b ≡ true
    by_test true e = refl
    by_test false e = absurd (true≢false e)

module _ (f : Program) (split : List Part) (legal : IsLegal f split) (writeback : ℕ) where
  abbrev tables : List Table
  tables = tables_from f split 0 f.objects

  abbrev pass : PassCode
  pass = (emitted f split writeback).pre

  abbrev up : List Crossing
  up = up_layout f split

  abbrev last : ValueId → ℕ
  last = last_read up pass

  abbrev spans_to : ℕ → ℕ → Written → Bool
  spans_to step number w = (span_of last w).value == number && covers step (span_of last w)

  read_up : (v : ValueId) → list_any (λ (c : Crossing). is_value v c.value) up ≡ true → is_read_last up pass v ≡ true
  read_up v e =
      or_left (list_any (λ (c : Crossing). is_value v c.value) up)
      (is_tested pass v || (is_among v (pass.send ∷ pass.port ∷ []) || list_any (λ (w : FieldValue). is_value v w.value) pass.fields)) e

  up_one : (v : ValueId) → crosses_up f split v ≡ true → list_any (λ (c : Crossing). is_value v c.value) up ≡ true → IsNeeded (pre_spans (emitted f split writeback)) pass.highest (number_of f v)
  up_one v crosses among =
      let rest = is_read_by f (is_server split) v || (guards_write f v || (crosses_down f split v || is_written_value f split v)) in
      let front = (and_parts (is_named f v && (is_carried split v.instruction && not (is_input (step_at f v.instruction).work))) rest crosses).0 in
      let named = and_parts (is_named f v) (is_carried split v.instruction && not (is_input (step_at f v.instruction).work)) front in
      let carried = (and_parts (is_carried split v.instruction) (not (is_input (step_at f v.instruction).work)) named.1).0 in
      let range = and_parts (nat_lt v.instruction (length f.code)) (nat_lt v.result (result_count f.objects (step_at f v.instruction).work)) named.0 in
      let inside : v.instruction < length f.code = ltb-true v.instruction (length f.code) range.0 in
      let result : v.result < result_count f.objects (step_at f v.instruction).work = ltb-true v.result (result_count f.objects (step_at f v.instruction).work) range.1 in
      let pre = carried_pre f split legal v.instruction inside carried in
      let at = is_first_kept (pre_stage split v.instruction) pre in
      let shown = λ (o : ℕ) (e : looks_at o (step_at f v.instruction).work ≡ true).
      or_left (is_shown f split o) (is_post_shown f split o)
      (any_at (length f.code) v.instruction (λ i. is_pre split i && looks_at o (step_at f i).work) inside (and_from (is_pre split v.instruction) (looks_at o (step_at f v.instruction).work) pre e)) in
      let few : v.result < results_in tables (step_at f v.instruction).work = omega (arith, result, results_exact f split (step_at f v.instruction).work shown) in
      let read : suc pass.highest ≤ last v = omega (arith, ap (λ (b : Bool). if b then suc pass.highest else 0) (read_up v among)) in
      any_map (λ (s : Span). s.value == number_of f v && covers pass.highest s) (span_of last) (written_by tables pass.steps)
      ∙ found_steps f (pre_stage split) tables (spans_to pass.highest (number_of f v)) (length f.code) v.instruction at.0 v.result inside at.1 few
      (and_from (number_of f v == number_of f v) (covers pass.highest (record { value = number_of f v; from = at.0; to = max at.0 (last v) }))
      (eq-eqb (number_of f v) (number_of f v) refl)
      (covers_high pass.highest at.0 (last v) (number_of f v) (highest_is (pre_stage split) (length f.code) v.instruction at.0 inside at.1) read))

  pub up_needed : All (λ (c : Crossing). IsNeeded (pre_spans (emitted f split writeback)) pass.highest c.number) up
  up_needed k d lt =
      let c = get_or up k d in
      let is = each_or (λ (q : Crossing). (crosses_up f split q.value ≡ true) × (q.number ≡ number_of f q.value)) up k d (crossing_among f (crosses_up f split) (values_of f)) lt in
      subst (λ n. IsNeeded (pre_spans (emitted f split writeback)) pass.highest n) (sym is.1)
      (up_one c.value is.0 (list_any_at (λ (q : Crossing). is_value c.value q.value) up k d lt (value_same c.value c.value refl)))

-- what comes down is there at the start
pub down_needed : (f : Program) (split : List Part) (writeback : ℕ) → All (λ (c : Crossing). IsNeeded (post_spans (emitted f split writeback)) 0 c.number) (down_layout f split)
down_needed f split writeback k d lt =
    let down = down_layout f split in
    let tables = tables_from f split 0 f.objects in
    let pass = (emitted f split writeback).post in
    let last = last_read [] pass in
    let c = get_or down k d in
    let test = λ (w : Written). (span_of last w).value == c.number && covers 0 (span_of last w) in
    let others = written_by tables pass.given ++ written_by tables pass.steps in
    any_map (λ (s : Span). s.value == c.number && covers 0 s) (span_of last) (handed_in down ++ others)
    ∙ list_any-append test (handed_in down) others
    ∙ or_left (list_any test (handed_in down)) (list_any test others)
    (any_map test (λ (q : Crossing). record { value = q.value; number = q.number; stage = 0 }) down
    ∙ list_any_at (λ (q : Crossing). test (record { value = q.value; number = q.number; stage = 0 })) down k d lt
    (and_from (c.number == c.number) (covers 0 (span_of last (record { value = c.value; number = c.number; stage = 0 })))
    (eq-eqb c.number c.number refl)
    (and_from (nat_le 0 0) (nat_le 0 (last_step (span_of last (record { value = c.value; number = c.number; stage = 0 }))))
    (le-leb 0 0 (omega arith)) (le-leb 0 (last_step (span_of last (record { value = c.value; number = c.number; stage = 0 }))) (omega arith)))))
