-- The spans of a server's run are spans of what its steps write and read.
use Rattle.std.proofs.Common.{◌≡◌, ◌+◌, ◌<◌, ◌≤◌, ◌==◌, ◌&&◌, ℕ, zero, suc, Bool, true, false, cond, List, [], ◌∷◌, ◌++◌, map, length, get_or, nat_lt, slice_get, refl, sym, ap, ◌∙◌, arith, inl, inr, true≢false, not}
use Rattle.std.specs.Prelude.{All, count_by}
use Rattle.std.specs.List.{filter, AllByRecursion as Each}
use Rattle.std.proofs.lemmas.Bool.{and_parts, cases_Bool, cases_eq, cases_lt, cond-true, cond-false, eq-eqb, eqb-true, le-ltb, lt-ltb, ltb-true, ne_eqb, or_cases, or_parts}
use Rattle.std.proofs.lemmas.List.{get_or_past, map-append}
use Rattle.std.proofs.lemmas.List.Elements.{All-append, All-map, All-nil, All-weaker, filter_passes, recursion_from_All}
use Rattle.std.proofs.lemmas.List.Folds.{list_any_at}
use Rattle.std.proofs.lemmas.List.Sums.{sum_by-append, sum_by-cons}
use Rattle.std.proofs.lemmas.Option.{same_Some}
use Rattle.flat_ir.specs.declared.program.FieldValue.{FieldValue}
use Rattle.flat_ir.specs.declared.program.ValueId.{ValueId}
use Rattle.flat_ir.specs.declared.spans.Span.{Span}
use Rattle.flat_ir.specs.Blocks.{block_at, line}
use Rattle.flat_ir.specs.Kinds.{is_input, is_write}
use Rattle.flat_ir.specs.Program.{is_named, operands, result_count, step_at, Program, Work}
use Rattle.flat_ir.specs.Program.Work.{const}
use Rattle.flat_ir.specs.Spans.{spans_of, AreWrittenFirst, ValuesDiffer}
use Rattle.flat_ir.specs.WellFormed.{EachCondition, IsWellFormed, IsWritten}
use Rattle.split_model.specs.declared.split.Part.{Part}
use Rattle.split_model.specs.declared.split.Slow.{Slow}
use Rattle.split_model.specs.declared.split.Slow.TheVariants.{Carried}
use Rattle.split_model.specs.Crossing.{crosses_down, crosses_up, is_server_write}
use Rattle.split_model.specs.Layouts.{down_values, first_results, number_of, up_values, values_below, values_of}
use Rattle.split_model.specs.Passes.{server_fields}
use Rattle.split_model.specs.Split.{is_carried, is_carried_up, is_served, is_server, part_at}
use Rattle.transfer_header.specs.Steps.{is_among, AreSpansOf, Contents, IsSpanOf, Steps}
use Rattle.server_runtime.specs.Spans.{conditions_of, is_taken, last_below, numbers_of, reads_at, server_spans, span_from, spans_below, values_at, values_kept, values_read, writes_at}
use Rattle.server_runtime.proofs.Numbers.{below_suc, each_result, is_named_by, named_parts}
use Rattle.lemmas.proofs.Lists.{each_append, each_both, each_filter, each_map, each_weaker}
use Rattle.transfer_header.proofs.Laws.{values_have_their_numbers}

-- ## How often a number stands in a list

abbrev one_if : Bool → ℕ
one_if b = cond b 1 0

one_at_most : (b : Bool) → one_if b ≤ 1
one_at_most true = omega arith
one_at_most false = omega arith

abbrev times : ℕ → List ℕ → ℕ
times value values = count_by (λ v. v == value) values

times_cons : (value v : ℕ) (vs : List ℕ) → times value (v ∷ vs) ≡ one_if (v == value) + times value vs
times_cons value v vs = sum_by-cons (λ (w : ℕ). one_if (w == value)) v vs

times_append : (value : ℕ) (xs ys : List ℕ) → times value (xs ++ ys) ≡ times value xs + times value ys
times_append value xs ys = sum_by-append (λ (w : ℕ). one_if (w == value)) xs ys

some_times : (value : ℕ) (values : List ℕ) → is_among value values ≡ true → 0 < times value values
some_times value [] e = absurd (true≢false (sym e))
some_times value (v ∷ vs) e = elim (or_cases (v == value) (is_among value vs) e) [
  | inl now ↦ omega (arith, times_cons value v vs, ap one_if now)
  | inr later ↦ omega (arith, times_cons value v vs, some_times value vs later)
]

no_times : (value : ℕ) (values : List ℕ) → is_among value values ≡ false → times value values ≡ 0
no_times value [] e = refl
no_times value (v ∷ vs) e =
    let parts = or_parts (v == value) (is_among value vs) e in
    omega (arith, times_cons value v vs, ap one_if parts.0, no_times value vs parts.1)

-- each of a list's numbers is among them
pub all_among : (xs : List ℕ) → All (λ x. is_among x xs ≡ true) xs
all_among xs = λ i d lt. list_any_at (λ v. v == get_or xs i d) xs i d lt (eq-eqb (get_or xs i d) (get_or xs i d) refl)

-- 1 where a number is below another
abbrev below : ℕ → ℕ → ℕ
below value k = one_if (nat_lt value k)

below_one : (value k : ℕ) → below value k + one_if (k == value) ≡ below value (suc k)
below_one value k = elim (cases_lt value k) [
  | inl lt ↦ rw (lt-ltb value k lt, ne_eqb k value (λ e. omega (arith, e, lt)), lt-ltb value (suc k) (omega (arith, lt))) (omega arith)
  | inr le ↦ elim (cases_eq k value) [
    | inl e ↦ rw (le-ltb value k le, eq-eqb k value e, lt-ltb value (suc k) (omega (arith, e))) (omega arith)
    | inr ne ↦ rw (le-ltb value k le, ne_eqb k value ne, le-ltb value (suc k) (above ne le)) (omega arith)
  ]
]
  where
    above : (k ≡ value → ⊥) → k ≤ value → suc k ≤ value
    above ne le = elim (cases_lt k value) [ inl lt ↦ omega (arith, lt) | inr ge ↦ absurd (ne (omega (arith, le, ge))) ]

-- ## Values and their numbers

-- a value of which something holds, by its number
pub record IsFound (f : Program) (P : ValueId → Type 0) (n : ℕ) : Type 0 where
  pub value : ValueId
  pub holds : P value
  pub number : number_of f value ≡ n

pub found : (f : Program) (P : ValueId → Type 0) (n : ℕ) (vs : List ValueId) → Each P vs → is_among n (numbers_of f vs) ≡ true → IsFound f P n
found f P n [] all e = absurd (true≢false (sym e))
found f P n (v ∷ vs) all e = elim (or_cases (number_of f v == n) (is_among n (numbers_of f vs)) e) [
  | inl here ↦ record { value = v; holds = all.0; number = eqb-true (number_of f v) n here }
  | inr later ↦ found f P n vs all.1 later
]

some_results : (f : Program) (i : ℕ) → 0 < result_count f.objects (step_at f i).work
some_results f i = of_work (step_at f i).work
  where
    of_work : (work : Work) → 0 < result_count f.objects work
    of_work (const width number) = omega arith
    of_work _ = omega arith

-- what is carried isn't the server's
not_served : (slow : Slow) → is_carried_up slow ≡ true → is_served slow ≡ true → ⊥
not_served Carried e h = true≢false (sym h)
not_served _ e h = true≢false (sym e)

module _ (f : Program) (split : List Part) (well : IsWellFormed f) where
  abbrev first : ℕ → ℕ
  first i = length (values_below f i)

  abbrev last : ℕ
  last = length f.code + 1

  same_number : (v w : ValueId) → is_named f v ≡ true → is_named f w ≡ true → number_of f v ≡ number_of f w → v ≡ w
  same_number v w named named' e =
      same_Some v w (sym (values_have_their_numbers f v named) ∙ ap (slice_get (values_of f)) e ∙ values_have_their_numbers f w named')

  -- ## How often a step writes a value

  results_times : (i c value : ℕ) → times value (numbers_of f (first_results i c)) + below value (first i) ≡ below value (first i + c)
  results_times i zero value = let e : first i + 0 ≡ first i = omega arith in omega (arith, ap (below value) e)
  results_times i (suc c) value =
      let e : suc (first i + c) ≡ first i + suc c = omega arith in
      let one : List ℕ = (first i + c) ∷ [] in
      let more : times value (numbers_of f (first_results i (suc c))) ≡ times value (numbers_of f (first_results i c)) + times value one =
      ap (times value) (map-append (number_of f) (first_results i c) (record { instruction = i; result = c } ∷ [])) ∙ times_append value (numbers_of f (first_results i c)) one
      in
      let alone : times value one ≡ one_if ((first i + c) == value) + 0 = times_cons value (first i + c) [] in
      omega (arith, results_times i c value, more, alone, below_one value (first i + c), ap (below value) e)

  values_times : (k value : ℕ) → times value (numbers_of f (values_below f k)) ≡ below value (first k)
  values_times zero value = sym (ap one_if (le-ltb value 0 (omega arith)))
  values_times (suc k) value =
      let more : times value (numbers_of f (values_below f (suc k))) ≡ times value (numbers_of f (values_below f k)) + times value (numbers_of f (values_at f k)) =
      ap (times value) (map-append (number_of f) (values_below f k) (values_at f k)) ∙ times_append value (numbers_of f (values_below f k)) (numbers_of f (values_at f k))
      in
      omega (arith, more, values_times k value, results_times k (result_count f.objects (step_at f k).work) value, ap (below value) (below_suc f k))

  filtered_more : (value : ℕ) (v : ValueId) (rest all : List ValueId) → times value (numbers_of f rest) ≤ times value (numbers_of f all) → (b : Bool)
      → times value (numbers_of f (cond b (v ∷ rest) rest)) ≤ times value (numbers_of f (v ∷ all))
  filtered_more value v rest all fewer true = omega (arith, fewer, times_cons value (number_of f v) (numbers_of f rest), times_cons value (number_of f v) (numbers_of f all))
  filtered_more value v rest all fewer false = omega (arith, fewer, times_cons value (number_of f v) (numbers_of f all))

  filtered_times : (value : ℕ) (test : ValueId → Bool) (vs : List ValueId) → times value (numbers_of f (filter test vs)) ≤ times value (numbers_of f vs)
  filtered_times value test [] = omega arith
  filtered_times value test (v ∷ vs) = filtered_more value v (filter test vs) vs (filtered_times value test vs) (test v)

  writes_once : (step value : ℕ) → times value (writes_at f split step) ≤ 1
  writes_once zero value =
      omega (arith, filtered_times value (crosses_up f split) (values_of f), values_times (length f.code) value, one_at_most (nat_lt value (first (length f.code))))
  writes_once (suc i) value = by_test (is_taken f split i)
    where
      by_test : (b : Bool) → times value (cond b (numbers_of f (values_at f i)) []) ≤ 1
      by_test true = omega (
        arith,
        results_times i (result_count f.objects (step_at f i).work) value,
        one_at_most (nat_lt value (first i + result_count f.objects (step_at f i).work)),
      )
      by_test false = omega arith

  -- ## Which step writes a value

  abbrev pub step_of_value : ValueId → ℕ
  step_of_value v = cond (crosses_up f split v) 0 (suc v.instruction)

  abbrev pub IsWrittenAt : ℕ → ValueId → Type 0
  IsWrittenAt step v = (is_named f v ≡ true) × (step ≡ step_of_value v)

  up_written : Each (IsWrittenAt 0) (up_values f split)
  up_written = each_weaker (λ v. crosses_up f split v ≡ true) (IsWrittenAt 0) (λ v e. (
    (and_parts (is_named f v) _ (and_parts _ _ e).0).0,
    sym (cond-true (crosses_up f split v) 0 (suc v.instruction) e),
  )) (up_values f split) (recursion_from_All (λ v. crosses_up f split v ≡ true) (up_values f split) (filter_passes (crosses_up f split) (values_of f)))

  -- what the server evaluates isn't handed up
  taken_stays : (v : ValueId) → is_taken f split v.instruction ≡ true → crosses_up f split v ≡ false
  taken_stays v taken = elim (cases_Bool (crosses_up f split v)) [
    | inl e ↦ (
        let hold = and_parts (is_carried split v.instruction) (not (is_input (step_at f v.instruction).work)) (and_parts (is_named f v) _ (and_parts _ _ e).0).1 in
        elim (or_cases (is_input (step_at f v.instruction).work) (is_server split v.instruction) (and_parts _ _ taken).1) [
          | inl input ↦ absurd (true≢false (sym hold.1 ∙ ap not input))
          | inr served ↦ absurd (not_served (part_at split v.instruction).slow hold.0 served)
        ]
        )
    | inr e ↦ e
  ]

  results_written : (i : ℕ) → is_taken f split i ≡ true → Each (IsWrittenAt (suc i)) (values_at f i)
  results_written i taken = each_result (IsWrittenAt (suc i)) i (result_count f.objects (step_at f i).work) (λ c low.
      let v : ValueId = record { instruction = i; result = c } in
      (is_named_by f v (ltb-true i (length f.code) (and_parts _ _ taken).0) low, sym (cond-false (crosses_up f split v) 0 (suc i) (taken_stays v taken))))

  pub writer : (step n : ℕ) → is_among n (writes_at f split step) ≡ true → IsFound f (IsWrittenAt step) n
  writer zero n e = found f (IsWrittenAt 0) n (up_values f split) up_written e
  writer (suc i) n e = by_test (is_taken f split i) refl e
    where
      by_test : (b : Bool) → is_taken f split i ≡ b → is_among n (cond b (numbers_of f (values_at f i)) []) ≡ true → IsFound f (IsWrittenAt (suc i)) n
      by_test true taken e = found f (IsWrittenAt (suc i)) n (values_at f i) (results_written i taken) e
      by_test false taken e = absurd (true≢false (sym e))

  pub one_step : (n step other : ℕ) → is_among n (writes_at f split step) ≡ true → is_among n (writes_at f split other) ≡ true → step ≡ other
  one_step n step other e e' =
      let a = writer step n e in
      let b = writer other n e' in
      a.holds.1 ∙ ap step_of_value (same_number a.value b.value a.holds.0 b.holds.0 (a.number ∙ sym b.number)) ∙ sym b.holds.1

  -- a step that writes is none of those behind the last instruction
  pub writes_within : (n step : ℕ) → is_among n (writes_at f split step) ≡ true → step < last
  writes_within n step e =
      let a = writer step n e in
      let within = (named_parts f a.value a.holds.0).0 in
      elim (cases_Bool (crosses_up f split a.value)) [
        | inl up ↦ omega (arith, a.holds.1, cond-true (crosses_up f split a.value) 0 (suc a.value.instruction) up)
        | inr not_up ↦ omega (arith, a.holds.1, cond-false (crosses_up f split a.value) 0 (suc a.value.instruction) not_up, within)
      ]

  -- ## How many spans a value has

  spans_times : (step from value : ℕ) (ws : List ℕ) → spans_of (map (span_from f split from) ws) value ≡ times value ws
  spans_times step from value [] = refl
  spans_times step from value (w ∷ ws) = omega (
    arith,
    spans_times step from value ws,
    sum_by-cons (λ (s : Span). one_if (s.value == value)) (span_from f split from w) (map (span_from f split from) ws),
    times_cons value w ws,
  )

  spans_more : (k value : ℕ) → spans_of (spans_below f split (suc k)) value ≡ spans_of (spans_below f split k) value + times value (writes_at f split k)
  spans_more k value =
      let here = map (span_from f split k) (writes_at f split k) in
      omega (
        arith,
        sum_by-append (λ (s : Span). one_if (s.value == value)) (spans_below f split k) here,
        spans_times k k value (writes_at f split k),
      )

  -- a step below a bound that writes a value
  record IsWrittenBelow (k n : ℕ) : Type 0 where
    step : ℕ
    low : step < k
    writes : is_among n (writes_at f split step) ≡ true

  written_below : (k n : ℕ) → 0 < spans_of (spans_below f split k) n → IsWrittenBelow k n
  written_below zero n some = absurd (omega (arith, some))
  written_below (suc k) n some = elim (cases_Bool (is_among n (writes_at f split k))) [
    | inl now ↦ record { step = k; low = omega arith; writes = now }
    | inr later ↦ (
        let h = written_below k n (omega (arith, some, spans_more k n, no_times n (writes_at f split k) later)) in
        record { step = h.step; low = omega (arith, h.low); writes = h.writes }
        )
  ]

  some_spans : (k n step : ℕ) → step < k → is_among n (writes_at f split step) ≡ true → 0 < spans_of (spans_below f split k) n
  some_spans zero n step low e = absurd (omega (arith, low))
  some_spans (suc k) n step low e = elim (cases_eq step k) [
    | inl same ↦ omega (arith, spans_more k n, some_times n (writes_at f split k) (ap (λ s. is_among n (writes_at f split s)) (sym same) ∙ e))
    | inr other ↦ omega (arith, spans_more k n, some_spans k n step (omega (arith, low, other)) e)
  ]

  one_span : (k n : ℕ) → spans_of (spans_below f split k) n ≤ 1
  one_span zero n = omega arith
  one_span (suc k) n = elim (cases_Bool (is_among n (writes_at f split k))) [
    | inl now ↦ elim (cases_lt 0 (spans_of (spans_below f split k) n)) [
      | inl some ↦ (
          let h = written_below k n some in
          absurd (omega (arith, h.low, one_step n h.step k h.writes now))
          )
      | inr none ↦ omega (arith, none, spans_more k n, writes_once k n)
    ]
    | inr later ↦ omega (arith, spans_more k n, no_times n (writes_at f split k) later, one_span k n)
  ]

  pub values_differ : ValuesDiffer (server_spans f split)
  values_differ n = one_span last n

  has_one : (step n : ℕ) → is_among n (writes_at f split step) ≡ true → spans_of (server_spans f split) n ≡ 1
  has_one step n e = omega (arith, one_span last n, some_spans last n step (writes_within n step e) e)

  -- ## What a step reads

  abbrev IsEarlier : ℕ → ValueId → Type 0
  IsEarlier i v = (is_named f v ≡ true) × (v.instruction < i)

  cond_named : (i k : ℕ) → i < length f.code → (block_at f.blocks k).cond.instruction < i → is_named f (block_at f.blocks k).cond ≡ true
  cond_named i k lt low = elim (cases_lt k (length f.blocks)) [
    | inl there ↦ well.names_conditions k there
    | inr past ↦ (
        let v : ValueId = record { instruction = 0; result = 0 } in
        let e = get_or_past f.blocks k (record { parent = 0; cond = v; polarity = true }) past in
        ap (λ b. is_named f b.cond) e ∙ is_named_by f v (omega (arith, lt, low)) (some_results f 0)
        )
  ]

  conditions_earlier : (i : ℕ) → i < length f.code → (ks : List ℕ) → Each (EachCondition f (λ c. c.instruction < i)) ks → Each (IsEarlier i) (conditions_of f ks)
  conditions_earlier i lt [] h = tt
  conditions_earlier i lt (zero ∷ ks) h = conditions_earlier i lt ks h.1
  conditions_earlier i lt (suc k ∷ ks) h = ((cond_named i k lt h.0, h.0), conditions_earlier i lt ks h.1)

  either_earlier : (i : ℕ) (vs : List ValueId) → Each (IsEarlier i) vs → (b : Bool) → Each (IsEarlier i) (cond b vs [])
  either_earlier i vs h true = h
  either_earlier i vs h false = tt

  pub read_earlier : (i : ℕ) → i < length f.code → Each (IsEarlier i) (values_read f i)
  read_earlier i lt =
      let one = step_at f i in
      let conditions = conditions_of f (line f.blocks one.block) in
      each_append (IsEarlier i) (operands one.work) (cond (is_write one.work) conditions [])
      (each_both (λ v. is_named f v ≡ true) (λ v. v.instruction < i) (operands one.work) (well.names i lt) (well.after_operands i lt))
      (either_earlier i conditions (conditions_earlier i lt (line f.blocks one.block) (well.after_conditions i lt)) (is_write one.work))

  named_earlier : (v : ValueId) → is_named f v ≡ true → IsEarlier (length f.code) v
  named_earlier v named = (named, (named_parts f v named).0)

  written_earlier : (ws : List FieldValue) → Each (IsWritten f) ws → Each (IsEarlier (length f.code)) (map (λ (w : FieldValue). w.value) (filter (is_server_write split) ws))
  written_earlier ws h =
      each_map (IsEarlier (length f.code)) (λ (w : FieldValue). w.value) (filter (is_server_write split) ws)
      (each_filter (λ (w : FieldValue). IsEarlier (length f.code) w.value) (is_server_write split) ws
      (each_weaker (IsWritten f) (λ (w : FieldValue). is_server_write split w ≡ true → IsEarlier (length f.code) w.value)
      (λ w is e. named_earlier w.value is.output.named) ws h))

  pub kept_earlier : Each (IsEarlier (length f.code)) (values_kept f split)
  kept_earlier =
      each_append (IsEarlier (length f.code)) (down_values f split) (map (λ (w : FieldValue). w.value) (server_fields f split))
      (each_weaker (λ v. crosses_down f split v ≡ true) (IsEarlier (length f.code)) (λ v e. named_earlier v (and_parts (is_named f v) _ (and_parts _ _ e).0).0) (down_values f split)
      (recursion_from_All (λ v. crosses_down f split v ≡ true) (down_values f split) (filter_passes (crosses_down f split) (values_of f))))
      (written_earlier f.fields well.fields)

  -- a step that reads a value reads one of an earlier instruction
  record IsRead (step n : ℕ) : Type 0 where
    value : ValueId
    named : is_named f value ≡ true
    number : number_of f value ≡ n
    before : suc value.instruction < step
    within : step ≤ last

  reader : (step n : ℕ) → reads_at f split step n ≡ true → IsRead step n
  reader zero n e = absurd (true≢false (sym e))
  reader (suc i) n e = elim (or_cases (is_taken f split i && is_among n (numbers_of f (values_read f i))) (i == length f.code && is_among n (numbers_of f (values_kept f split))) e) [
    | inl now ↦ (
        let parts = and_parts (is_taken f split i) (is_among n (numbers_of f (values_read f i))) now in
        let lt = ltb-true i (length f.code) (and_parts _ _ parts.0).0 in
        let h = found f (IsEarlier i) n (values_read f i) (read_earlier i lt) parts.1 in
        record { value = h.value; named = h.holds.0; number = h.number; before = omega (arith, h.holds.1); within = omega (arith, lt) }
        )
    | inr end ↦ (
        let parts = and_parts (i == length f.code) (is_among n (numbers_of f (values_kept f split))) end in
        let at = eqb-true i (length f.code) parts.0 in
        let h = found f (IsEarlier (length f.code)) n (values_kept f split) kept_earlier parts.1 in
        record { value = h.value; named = h.holds.0; number = h.number; before = omega (arith, h.holds.1, at); within = omega (arith, at) }
        )
  ]

  last_more : (test : ℕ → Bool) (n step : ℕ) → step < suc n → test step ≡ true → (step < n → step ≤ last_below n test) → (b : Bool) → test n ≡ b → step ≤ cond b n (last_below n test)
  last_more test n step low e rest true now = omega (arith, low)
  last_more test n step low e rest false later = elim (cases_eq step n) [
    | inl same ↦ absurd (true≢false (sym e ∙ ap test same ∙ later))
    | inr other ↦ rest (omega (arith, low, other))
  ]

  last_is : (test : ℕ → Bool) (bound step : ℕ) → step < bound → test step ≡ true → step ≤ last_below bound test
  last_is test zero step low e = absurd (omega (arith, low))
  last_is test (suc n) step low e = last_more test n step low e (λ lt. last_is test n step lt e) (test n) refl

  -- ## Spans

  is_span : (number : ℕ → Contents → Contents) (k n : ℕ) → is_among n (writes_at f split k) ≡ true
      → IsSpanOf (record { reads = reads_at f split; writes = writes_at f split; number = number }) (span_from f split k n)
  is_span number k n e = record {
    first = e;
    once = λ step e'. one_step n step k e' e;
    after = λ step reads.
        let r = reader step n reads in
        let w = writer k n e in
        let same = same_number r.value w.value r.named w.holds.0 (r.number ∙ sym w.number) in
        elim (cases_Bool (crosses_up f split w.value)) [
          | inl up ↦ omega (arith, r.before, w.holds.1, cond-true (crosses_up f split w.value) 0 (suc w.value.instruction) up)
          | inr not_up ↦ omega (arith, r.before, w.holds.1, cond-false (crosses_up f split w.value) 0 (suc w.value.instruction) not_up, ap (λ (v : ValueId). v.instruction) same)
        ];
    last = λ step reads. omega (arith, last_is (λ s. reads_at f split s n) (length f.code + 2) step (omega (arith, (reader step n reads).within)) reads);
  }

  all_spans : (number : ℕ → Contents → Contents) (k : ℕ) → All (IsSpanOf (record { reads = reads_at f split; writes = writes_at f split; number = number })) (spans_below f split k)
  all_spans number zero = All-nil (IsSpanOf (record { reads = reads_at f split; writes = writes_at f split; number = number }))
  all_spans number (suc k) =
      let steps : Steps = record { reads = reads_at f split; writes = writes_at f split; number = number } in
      let ws = writes_at f split k in
      All-append (IsSpanOf steps) (spans_below f split k) (map (span_from f split k) ws) (all_spans number k)
      (All-map (IsSpanOf steps) (span_from f split k) ws
      (All-weaker (λ n. is_among n ws ≡ true) (λ n. IsSpanOf steps (span_from f split k n)) (λ n e. is_span number k n e) ws (all_among ws)))

  pub are_spans : (number : ℕ → Contents → Contents) → AreSpansOf (record { reads = reads_at f split; writes = writes_at f split; number = number }) (server_spans f split)
  are_spans number = record {
    written = λ step n e. has_one step n e;
    read = λ step n e. elim (cases_lt 0 (spans_of (server_spans f split) n)) [
      | inl some ↦ inl (omega (arith, some, one_span last n))
      | inr none ↦ inr (record {
        unwritten = λ other. nowhere other n none;
        none = omega (arith, none);
      })
    ];
    each = all_spans number last;
  }
    where
      nowhere : (step n : ℕ) → spans_of (server_spans f split) n ≤ 0 → is_among n (writes_at f split step) ≡ false
      nowhere step n none = elim (cases_Bool (is_among n (writes_at f split step))) [
        | inl e ↦ absurd (omega (arith, none, has_one step n e))
        | inr e ↦ e
      ]

-- no span ends before it begins
forward : (f : Program) (split : List Part) (k : ℕ) → AreWrittenFirst (spans_below f split k)
forward f split zero = All-nil (λ (s : Span). s.from ≤ s.to)
forward f split (suc k) =
    let ws = writes_at f split k in
    All-append (λ (s : Span). s.from ≤ s.to) (spans_below f split k) (map (span_from f split k) ws) (forward f split k)
    (All-map (λ (s : Span). s.from ≤ s.to) (span_from f split k) ws (λ i d lt. omega arith))

pub written_first : (f : Program) (split : List Part) → AreWrittenFirst (server_spans f split)
written_first f split = forward f split (length f.code + 1)
