-- The spans of a pass that goes by stages.
use Rattle.std.proofs.Common.{◌≡◌, ◌≢◌, ℕ, zero, suc, ◌<◌, ◌≤◌, ◌&&◌, Bool, true, false, cond, List, [], ◌∷◌, ◌++◌, length, map, get_or, refl, sym, ap, subst, ◌∙◌, inl, inr, arith}
use Rattle.std.specs.Prelude.{◌==◌, Contains}
use Rattle.std.specs.List.{AllByRecursion as Each, list_any, filter}
use Rattle.std.proofs.lemmas.Bool.{cases_eq, cases_lt, eq-eqb, ne_eqb, eqb-true, or_left, or_right, or_cases, and_parts, true≢false}
use Rattle.std.proofs.lemmas.List.{get_or_default}
use Rattle.std.proofs.lemmas.List.Elements.{All-map, All-contains_itself}
use Rattle.std.proofs.lemmas.List.Sums.{sum_by-cons}
use Rattle.flat_ir.specs.declared.program.ValueId.{ValueId}
use Rattle.flat_ir.specs.declared.spans.Span.{Span}
use Rattle.flat_ir.specs.Program.{operands}
use Rattle.flat_ir.specs.Spans.{spans_of, ValuesDiffer, AreWrittenFirst}
use Rattle.split_model.specs.declared.layout.Crossing.{Crossing}
use Rattle.split_model.specs.Crossing.{is_among as is_value_among}
use Rattle.transfer_header.specs.Steps.{Steps, Contents, is_among, IsSpanOf, AreSpansOf}
use Rattle.switch_ir.specs.declared.code.Table.{Table}
use Rattle.switch_ir.specs.Passes.{Step, PassCode}
use Rattle.switch_ir.specs.Spans.{Written, results_in, results_of, written_by, handed_in, written_in, is_read_last, last_stage, last_read, span_of, pass_spans, is_read_at, reads_at, writes_at, steps_of, GoesByStages}
use Rattle.switch_ir.proofs.ApartValues.{AreApart}
use Rattle.lemmas.proofs.Lists.{each_append, each_or, each_weaker}

-- ---- elements
each_contains : {X : Type 0} (P : X → Type 0) → (xs : List X) (x : X) → Each P xs → Contains xs x → P x
each_contains P xs x each there = subst P there.2 (each_or P xs there.0 x each there.1)

-- ---- no stage is above the highest
module _ (highest : ℕ) where
  abbrev IsLow : Written → Type 0
  IsLow w = w.stage ≤ highest

  low_results : (s : Step) (n : ℕ) → s.stage ≤ highest → Each IsLow (results_of s n)
  low_results s zero low = tt
  low_results s (suc n) low = each_append IsLow (results_of s n) _ (low_results s n low) (low, tt)

  low_by : (tables : List Table) (steps : List Step) → Each (λ s. s.stage ≤ highest) steps → Each IsLow (written_by tables steps)
  low_by tables [] low = tt
  low_by tables (s ∷ ss) low =
      each_append IsLow (results_of s (results_in tables s.work)) (written_by tables ss) (low_results s (results_in tables s.work) low.0) (low_by tables ss low.1)

  low_handed : (layout : List Crossing) → Each IsLow (handed_in layout)
  low_handed [] = tt
  low_handed (c ∷ cs) = (omega arith, low_handed cs)

  low_in : (tables : List Table) (handed : List Crossing) (given steps : List Step) → Each (λ s. s.stage ≡ 0) given → Each (λ s. s.stage ≤ highest) steps
      → Each IsLow (handed_in handed ++ (written_by tables given ++ written_by tables steps))
  low_in tables handed given steps first low =
      each_append IsLow (handed_in handed) (written_by tables given ++ written_by tables steps) (low_handed handed)
      (each_append IsLow (written_by tables given) (written_by tables steps)
      (low_by tables given (each_weaker (λ (s : Step). s.stage ≡ 0) (λ s. s.stage ≤ highest) (λ s is. omega (arith, is)) given first)) (low_by tables steps low))

-- ---- no value has two spans
abbrev one_if : Bool → ℕ
one_if b = cond b 1 0

no_span : (last : ValueId → ℕ) (had : List Written) (n : ℕ) → ((k : ℕ) (d : Written) → k < length had → (get_or had k d).number ≢ n) → spans_of (map (span_of last) had) n ≡ 0
no_span last [] n none = refl
no_span last (w ∷ ws) n none = omega (
  arith,
  no_span last ws n (λ k d lt. none (suc k) d (omega (arith, lt))),
  sum_by-cons (λ (s : Span). one_if (s.value == n)) (span_of last w) (map (span_of last) ws),
  ap one_if (ne_eqb w.number n (none 0 w (omega arith))),
)

one_span : (last : ValueId → ℕ) (had : List Written) (n : ℕ) → AreApart had → spans_of (map (span_of last) had) n ≤ 1
one_span last [] n apart = omega arith
one_span last (w ∷ ws) n apart = elim (cases_eq w.number n) [
  | inl same ↦ omega (
    arith,
    no_span last ws n (λ k d lt e. apart 0 (suc k) d (omega arith) (omega (arith, lt)) (same ∙ sym e)),
    sum_by-cons (λ (s : Span). one_if (s.value == n)) (span_of last w) (map (span_of last) ws),
    ap one_if (eq-eqb w.number n same),
  )
  | inr other ↦ omega (
    arith,
    one_span last ws n (λ i j d lt within. apart (suc i) (suc j) d (omega (arith, lt)) (omega (arith, within))),
    sum_by-cons (λ (s : Span). one_if (s.value == n)) (span_of last w) (map (span_of last) ws),
    ap one_if (ne_eqb w.number n other),
  )
]

some_span : (last : ValueId → ℕ) (had : List Written) (i : ℕ) (w : Written) → i < length had → get_or had i w ≡ w → 0 < spans_of (map (span_of last) had) w.number
some_span last [] i w lt e = absurd (omega (arith, lt))
some_span last (x ∷ xs) zero w lt e = omega (
  arith,
  sum_by-cons (λ (s : Span). one_if (s.value == w.number)) (span_of last x) (map (span_of last) xs),
  ap one_if (eq-eqb x.number w.number (ap (λ (y : Written). y.number) e)),
)
some_span last (x ∷ xs) (suc i) w lt e = omega (
  arith,
  some_span last xs i w (omega (arith, lt)) e,
  sum_by-cons (λ (s : Span). one_if (s.value == w.number)) (span_of last x) (map (span_of last) xs),
)

has_one : (last : ValueId → ℕ) (had : List Written) (w : Written) → AreApart had → Contains had w → spans_of (map (span_of last) had) w.number ≡ 1
has_one last had w apart there = omega (arith, one_span last had w.number apart, some_span last had there.0 w there.1 there.2)

pub differ : (last : ValueId → ℕ) (had : List Written) → AreApart had → ValuesDiffer (map (span_of last) had)
differ last had apart n = one_span last had n apart

pub forward : (last : ValueId → ℕ) (had : List Written) → AreWrittenFirst (map (span_of last) had)
forward last had = All-map (λ (s : Span). s.from ≤ s.to) (span_of last) had (λ k d lt. omega arith)

-- values with one number are one
unique : (had : List Written) (a b : Written) → AreApart had → Contains had a → Contains had b → a.number ≡ b.number → a ≡ b
unique had a b apart there here same = elim (cases_eq there.0 here.0) [
  | inl at ↦ sym there.2 ∙ get_or_default had there.0 a b there.1 ∙ ap (λ k. get_or had k b) at ∙ here.2
  | inr other ↦ elim (cases_lt there.0 here.0) [
    | inl less ↦ absurd (apart there.0 here.0 a less here.1
        (ap (λ (w : Written). w.number) there.2 ∙ same ∙ sym (ap (λ (w : Written). w.number) (get_or_default had here.0 a b here.1 ∙ here.2))))
    | inr more ↦ absurd (apart here.0 there.0 a (omega (arith, more, other)) there.1
        (ap (λ (w : Written). w.number) (get_or_default had here.0 a b here.1 ∙ here.2) ∙ sym same ∙ sym (ap (λ (w : Written). w.number) there.2)))
  ]
]

-- ---- what a step writes
pub record IsWrittenAt (had : List Written) (step number : ℕ) : Type 0 where
  pub w : Written
  pub there : Contains had w
  pub same : w.number ≡ number
  pub at : w.stage ≡ step

written_later : (x : Written) (xs : List Written) (step number : ℕ) → IsWrittenAt xs step number → IsWrittenAt (x ∷ xs) step number
written_later x xs step number is = record { w = is.w; there = (suc is.there.0, omega (arith, is.there.1), is.there.2); same = is.same; at = is.at }

pub written_at : (had : List Written) (step number : ℕ) → is_among number (writes_at had step) ≡ true → IsWrittenAt had step number
written_at [] step number e = absurd (true≢false (sym e))
written_at (x ∷ xs) step number e = by_test (x.stage == step) refl (written_at xs step number) e
  where
    by_test : (b : Bool) → (x.stage == step) ≡ b → (is_among number (writes_at xs step) ≡ true → IsWrittenAt xs step number)
        → is_among number (map (λ (w : Written). w.number) (cond b (x ∷ filter (λ (w : Written). w.stage == step) xs) (filter (λ (w : Written). w.stage == step) xs))) ≡ true
        → IsWrittenAt (x ∷ xs) step number
    by_test true own more e = elim (or_cases (x.number == number) (is_among number (writes_at xs step)) e) [
      | inl same ↦ record { w = x; there = (0, omega arith, refl); same = eqb-true x.number number same; at = eqb-true x.stage step own }
      | inr later ↦ written_later x xs step number (more later)
    ]
    by_test false own more e = written_later x xs step number (more e)

is_written : (had : List Written) (i : ℕ) (w : Written) → i < length had → get_or had i w ≡ w → is_among w.number (writes_at had w.stage) ≡ true
is_written [] i w lt e = absurd (omega (arith, lt))
is_written (x ∷ xs) zero w lt e =
    let rest = filter (λ (y : Written). y.stage == w.stage) xs in
    ap (λ (b : Bool). is_among w.number (map (λ (y : Written). y.number) (cond b (x ∷ rest) rest))) (eq-eqb x.stage w.stage (ap (λ (y : Written). y.stage) e))
    ∙ or_left (x.number == w.number) (is_among w.number (map (λ (y : Written). y.number) rest)) (eq-eqb x.number w.number (ap (λ (y : Written). y.number) e))
is_written (x ∷ xs) (suc i) w lt e = by_test (x.stage == w.stage) (is_written xs i w (omega (arith, lt)) e)
  where
    by_test : (b : Bool) → is_among w.number (writes_at xs w.stage) ≡ true
        → is_among w.number (map (λ (y : Written). y.number) (cond b (x ∷ filter (λ (y : Written). y.stage == w.stage) xs) (filter (λ (y : Written). y.stage == w.stage) xs))) ≡ true
    by_test true later = or_right (x.number == w.number) (is_among w.number (writes_at xs w.stage)) later
    by_test false later = later

-- ---- what a step reads
record IsRead (had : List Written) (up : List Crossing) (pass : PassCode) (step number : ℕ) : Type 0 where
  w : Written
  there : Contains had w
  same : w.number ≡ number
  reads : is_read_at up pass step w.value ≡ true

read_at : (had : List Written) (up : List Crossing) (pass : PassCode) (step number : ℕ) → reads_at had up pass step number ≡ true → IsRead had up pass step number
read_at [] up pass step number e = absurd (true≢false (sym e))
read_at (x ∷ xs) up pass step number e = elim (or_cases (x.number == number && is_read_at up pass step x.value) (reads_at xs up pass step number) e) [
  | inl here ↦ (
      let parts = and_parts (x.number == number) (is_read_at up pass step x.value) here in
      record { w = x; there = (0, omega arith, refl); same = eqb-true x.number number parts.0; reads = parts.1 }
      )
  | inr later ↦ (
      let is = read_at xs up pass step number later in
      record { w = is.w; there = (suc is.there.0, omega (arith, is.there.1), is.there.2); same = is.same; reads = is.reads }
      )
]

abbrev Lower : List Written → Step → Type 0
Lower had s = Each (λ w. is_value_among w.value (operands s.work) ≡ true → w.stage < s.stage) had

read_after : (had : List Written) (steps : List Step) (step : ℕ) (w : Written) → Each (Lower had) steps → Contains had w
    → list_any (λ (s : Step). s.stage == step && is_value_among w.value (operands s.work)) steps ≡ true → w.stage < step
read_after had [] step w lower there e = absurd (true≢false (sym e))
read_after had (s ∷ ss) step w lower there e =
    elim (or_cases (s.stage == step && is_value_among w.value (operands s.work)) (list_any (λ (x : Step). x.stage == step && is_value_among w.value (operands x.work)) ss) e) [
      | inl here ↦ (
          let parts = and_parts (s.stage == step) (is_value_among w.value (operands s.work)) here in
          let less = each_contains (λ (x : Written). is_value_among x.value (operands s.work) ≡ true → x.stage < s.stage) had w lower.0 there parts.1 in
          omega (arith, less, eqb-true s.stage step parts.0)
          )
      | inr later ↦ read_after had ss step w lower.1 there later
    ]

read_before : (steps : List Step) (step : ℕ) (v : ValueId) → list_any (λ (s : Step). s.stage == step && is_value_among v (operands s.work)) steps ≡ true → step ≤ last_stage steps v
read_before [] step v e = absurd (true≢false (sym e))
read_before (s ∷ ss) step v e =
    elim (or_cases (s.stage == step && is_value_among v (operands s.work)) (list_any (λ (x : Step). x.stage == step && is_value_among v (operands x.work)) ss) e) [
      | inl here ↦ (
          let parts = and_parts (s.stage == step) (is_value_among v (operands s.work)) here in
          omega (arith, ap (λ (b : Bool). cond b s.stage 0) parts.1, eqb-true s.stage step parts.0)
          )
      | inr later ↦ omega (arith, read_before ss step v later)
    ]

read_range : (had : List Written) (up : List Crossing) (pass : PassCode) (step : ℕ) (w : Written) → Each (Lower had) pass.steps → Each (λ x. x.stage ≤ pass.highest) had → Contains had w
    → is_read_at up pass step w.value ≡ true → (w.stage < step) × (step ≤ last_read up pass w.value)
read_range had up pass step w lower low there reads =
    let in_stage = list_any (λ (s : Step). s.stage == step && is_value_among w.value (operands s.work)) pass.steps in
    elim (or_cases in_stage (step == suc pass.highest && is_read_last up pass w.value) reads) [
      | inl here ↦ (read_after had pass.steps step w lower there here, omega (arith, read_before pass.steps step w.value here))
      | inr last ↦ (
          let parts = and_parts (step == suc pass.highest) (is_read_last up pass w.value) last in
          let at = eqb-true step (suc pass.highest) parts.0 in
          let below = each_contains (λ (x : Written). x.stage ≤ pass.highest) had w low there in
          (omega (arith, at, below), omega (arith, at, ap (λ (b : Bool). cond b (suc pass.highest) 0) parts.1))
          )
    ]

-- ---- each span
module _ (had : List Written) (up : List Crossing) (pass : PassCode) (number : ℕ → Contents → Contents) (by : GoesByStages had pass) (low : Each (λ x. x.stage ≤ pass.highest) had) where
  abbrev steps : Steps
  steps = record { reads = reads_at had up pass; writes = writes_at had; number = number }

  abbrev last : ValueId → ℕ
  last = last_read up pass

  span_is : (w : Written) → Contains had w → IsSpanOf steps (span_of last w)
  span_is w there = record {
    first = is_written had there.0 w there.1 there.2;
    once = λ step e.
        let is = written_at had step w.number e in
        sym is.at ∙ ap (λ (x : Written). x.stage) (unique had is.w w by.apart is.there there is.same);
    after = λ step e. (own step e).0;
    last = λ step e. omega (arith, (own step e).1);
  }
    where
      own : (step : ℕ) → reads_at had up pass step w.number ≡ true → (w.stage < step) × (step ≤ last_read up pass w.value)
      own step e =
          let is = read_at had up pass step w.number e in
          let one : is.w ≡ w = unique had is.w w by.apart is.there there is.same in
          read_range had up pass step w by.lower low there (subst (λ (x : Written). is_read_at up pass step x.value ≡ true) one is.reads)

  pub are_spans : AreSpansOf steps (map (span_of last) had)
  are_spans = record {
    written = λ step n e.
        let is = written_at had step n e in
        subst (λ (k : ℕ). spans_of (map (span_of last) had) k ≡ 1) is.same (has_one last had is.w by.apart is.there);
    read = λ step n e.
        let is = read_at had up pass step n e in
        inl (subst (λ (k : ℕ). spans_of (map (span_of last) had) k ≡ 1) is.same (has_one last had is.w by.apart is.there));
    each = All-map (IsSpanOf steps) (span_of last) had (λ k d lt. span_is (get_or had k d) (All-contains_itself had k d lt));
  }

-- The spans of a pass that goes by stages are those of what its steps read and write.
pub passes_have_spans : (tables : List Table) (handed up : List Crossing) (pass : PassCode) (number : ℕ → Contents → Contents) → GoesByStages (written_in tables handed pass) pass
    → AreSpansOf (steps_of tables handed up pass number) (pass_spans tables handed up pass)
passes_have_spans tables handed up pass number by =
    are_spans (written_in tables handed pass) up pass number by (low_in pass.highest tables handed pass.given pass.steps by.given by.low)
