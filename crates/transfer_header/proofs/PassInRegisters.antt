-- A pass in registers that are used again.
use Rattle.std.proofs.Common.{◌≡◌, ◌≢◌, ℕ, zero, suc, ◌+◌, ◌<◌, ◌≤◌, Bool, true, cond, List, [], ◌∷◌, length, map, Option, Some, None, IsSome, ◌↔◌, refl, sym, ap, subst, ◌∙◌, inl, inr, arith}
use Rattle.std.specs.Prelude.{nat_le, All, Contains}
use Rattle.std.proofs.lemmas.List.Elements.{All-contains, All-head, All-tail}
use Rattle.std.proofs.lemmas.Bool.{cases_eq, cases_Bool, and_from, le-leb, true≢false}
use Rattle.flat_ir.specs.declared.spans.Span.{Span}
use Rattle.flat_ir.specs.Spans.{last_step, covers, spans_of}
use Rattle.flat_ir.specs.Plan.{RegisterPlan, register_of, AreApart}
use Rattle.transfer_header.specs.Registers.{Registers, place_by, place_of, number_by, content_of, written, ArePlaced}
use Rattle.transfer_header.specs.Steps.{Contents, Steps, is_among, LooksAtReadsAlone, reading_after, one_each, all_written, pairs_written, registers_after, in_registers, IsSpanOf, AreSpansOf, AreKeptApart, IsReady, KeepsCovered, IsDoneAlike, IsAlike}
use Rattle.transfer_header.proofs.Members.{HasSpan, has_span, is_counted}
use Rattle.transfer_header.proofs.Writes.{AreOut, all_written_is, places_all, placed_all}
use Rattle.flat_ir.proofs.PlanSteps.{covered}

is_covered : (step : ℕ) (span : Span) → span.from ≤ step → step ≤ last_step span → covers step span ≡ true
is_covered step span from last = and_from (nat_le span.from step) (nat_le step (last_step span)) (le-leb span.from step from) (le-leb step (last_step span) last)

-- ---- one step
reads_spanned : (steps : Steps) (spans : List Span) (registers : Registers) (contents : Contents) (step : ℕ)
    → AreSpansOf steps spans → IsReady spans registers contents step
    → (value : ℕ) → steps.reads step value ≡ true → spans_of spans value ≡ 1 → content_of registers value ≡ contents value
reads_spanned steps spans registers contents step of ready value reads one =
    let h = has_span spans value (omega (arith, one)) in
    let is = All-contains (IsSpanOf steps) spans h.span of.each h.there in
    let reads_it : steps.reads step h.span.value ≡ true = ap (steps.reads step) h.same ∙ reads in
    subst (λ (v : ℕ). content_of registers v ≡ contents v) h.same
    (ready.stands h.span h.there (is.after step reads_it) (is.last step reads_it))

reads_nowhere : (spans : List Span) (registers : Registers) (contents : Contents) (step : ℕ) → IsReady spans registers contents step
    → (value : ℕ) → spans_of spans value ≡ 0 → content_of registers value ≡ contents value
reads_nowhere spans registers contents step ready value none =
    ap (number_by registers.numbers) (ready.apart.none value none) ∙ sym (ready.zero value none)

reads_from : (steps : Steps) (spans : List Span) (registers : Registers) (contents : Contents) (step : ℕ)
    → AreSpansOf steps spans → IsReady spans registers contents step
    → (value : ℕ) → steps.reads step value ≡ true → content_of registers value ≡ contents value
reads_from steps spans registers contents step of ready value reads = elim (of.read step value reads) [
  | inl one ↦ reads_spanned steps spans registers contents step of ready value reads one
  | inr nowhere ↦ reads_nowhere spans registers contents step ready value nowhere.none
]

-- a value with no span is written by no step
still_zero : (steps : Steps) (spans : List Span) (contents : Contents) (step : ℕ) → AreSpansOf steps spans
    → ((value : ℕ) → spans_of spans value ≡ 0 → contents value ≡ 0) → (value : ℕ) → spans_of spans value ≡ 0 → reading_after steps contents step value ≡ 0
still_zero steps spans contents step of before value none =
    let writes = steps.writes step in
    elim (cases_Bool (is_among value writes)) [
      | inl now ↦ absurd (omega (arith, of.written step value now, none))
      | inr other ↦ ap (λ (b : Bool). cond b (steps.number step contents value) (contents value)) other ∙ before value none
    ]

-- values that a step writes are apart from a value that is needed then
out_of : (steps : Steps) (spans : List Span) (registers : Registers) (step : ℕ) (span : Span) → AreSpansOf steps spans → AreKeptApart spans registers
    → Contains spans span → covers step span ≡ true → AreOut registers (steps.writes step) span.value
out_of steps spans registers step span of kept there needed = record {
  apart = λ other writes. apart_one other writes (has_span spans other (omega (arith, of.written step other writes)));
}
  where
    apart_one : (other : ℕ) → is_among other (steps.writes step) ≡ true → HasSpan spans other → other ≢ span.value → place_of registers other ≢ place_of registers span.value
    apart_one other writes h differ same =
        let is = All-contains (IsSpanOf steps) spans h.span of.each h.there in
        let at : step ≡ h.span.from = is.once step (ap (λ (v : ℕ). is_among v (steps.writes step)) h.same ∙ writes) in
        kept.apart h.span span step h.there there (λ e. differ (sym h.same ∙ e)) (is_covered step h.span (omega arith) (omega arith)) needed
        (ap (place_of registers) h.same ∙ same)

-- what is needed after a step is in its register
after : (steps : Steps) (spans : List Span) (registers : Registers) (contents : Contents) (step : ℕ)
    → LooksAtReadsAlone steps → AreSpansOf steps spans → IsReady spans registers contents step
    → KeepsCovered spans step (registers_after steps registers step) (reading_after steps contents step)
after steps spans registers contents step alone of ready span there needed =
    let value = span.value in
    let writes = steps.writes step in
    let numbers = steps.number step (content_of registers) in
    let would = steps.number step contents in
    let written = all_written_is registers writes numbers value (ready.apart.has span there) ready.placed (out_of steps spans registers step span of ready.apart there needed) in
    elim (cases_Bool (is_among value writes)) [
      | inl now ↦ (
          let same = alone step (content_of registers) contents (reads_from steps spans registers contents step of ready) value in
          written ∙ ap (λ (b : Bool). cond b (numbers value) (content_of registers value)) now ∙ same
          ∙ sym (ap (λ (b : Bool). cond b (would value) (contents value)) now)
          )
      | inr later ↦ (
          let range = covered step span needed in
          let is = All-contains (IsSpanOf steps) spans span of.each there in
          let before : span.from < step = elim (cases_eq span.from step) [
            | inl at ↦ absurd (true≢false (sym (subst (λ (s : ℕ). is_among value (steps.writes s) ≡ true) at is.first) ∙ later))
            | inr other ↦ omega (arith, range.0, other)
          ] in
          let same = ready.stands span there before (omega (arith, range.1, before)) in
          written ∙ ap (λ (b : Bool). cond b (numbers value) (content_of registers value)) later ∙ same
          ∙ sym (ap (λ (b : Bool). cond b (would value) (contents value)) later)
          )
    ]

-- registers in the same places
still_apart : (spans : List Span) (registers other : Registers) → ((value : ℕ) → place_of other value ≡ place_of registers value) → AreKeptApart spans registers → AreKeptApart spans other
still_apart spans registers other same kept = record {
  has = λ span there. subst (λ (place : Option ℕ). IsSome place) (sym (same span.value)) (kept.has span there);
  none = λ value none. same value ∙ kept.none value none;
  apart = λ a b step ia ib differ ca cb e. kept.apart a b step ia ib differ ca cb (sym (same a.value) ∙ e ∙ same b.value);
}

-- A step in registers that are used again reads what it would read if each value had a register of its own, and the
-- next step is ready.
pub a_step_in_registers : (steps : Steps) (spans : List Span) (registers : Registers) (contents : Contents) (step : ℕ)
    → LooksAtReadsAlone steps → AreSpansOf steps spans → IsReady spans registers contents step → IsDoneAlike steps spans registers contents step
a_step_in_registers steps spans registers contents step alone of ready =
    let keeps = after steps spans registers contents step alone of ready in
    let numbers = steps.number step (content_of registers) in
    record {
      reads = reads_from steps spans registers contents step of ready;
      keeps = keeps;
      next = record {
        apart = still_apart spans registers (registers_after steps registers step) (places_all registers (steps.writes step) numbers) ready.apart;
        placed = placed_all registers (steps.writes step) numbers ready.placed;
        stands = λ span there from to. keeps span there (is_covered step span (omega (arith, from)) (omega (arith, from, to)));
        zero = still_zero steps spans contents step of ready.zero;
      };
    }

-- ---- a pass
ready_at : (steps : Steps) (spans : List Span) (start : Registers)
    → LooksAtReadsAlone steps → AreSpansOf steps spans → AreKeptApart spans start → ArePlaced start
    → (step : ℕ) → IsReady spans (in_registers steps start step) (one_each steps step) step
ready_at steps spans start alone of kept placed zero = record {
  apart = kept;
  placed = placed;
  stands = λ span there from to. absurd (omega (arith, from));
  zero = λ value none. refl;
}
ready_at steps spans start alone of kept placed (suc step) =
    let before = ready_at steps spans start alone of kept placed step in
    let e : step + 1 ≡ suc step = omega arith in
    subst (IsReady spans (in_registers steps start (suc step)) (one_each steps (suc step))) e
    (a_step_in_registers steps spans (in_registers steps start step) (one_each steps step) step alone of before).next

-- Each step of a pass in registers that are used again does what it does where each value has a register of its own.
pub a_pass_in_registers : (steps : Steps) (spans : List Span) (start : Registers)
    → LooksAtReadsAlone steps → AreSpansOf steps spans → AreKeptApart spans start → ArePlaced start → IsAlike steps spans start
a_pass_in_registers steps spans start alone of kept placed step =
    let ready = ready_at steps spans start alone of kept placed step in
    (ready, a_step_in_registers steps spans (in_registers steps start step) (one_each steps step) step alone of ready)

-- ---- registers of a plan
some_of : (o : Option ℕ) → (o ≡ None → ⊥) → IsSome o
some_of (Some x) other = refl
some_of None other = absurd (other refl)

-- In the registers of a plan that was made of spans, values that are needed at one step are apart.
pub a_plan_keeps_apart : (spans : List Span) (plan : RegisterPlan) (registers : Registers)
    → ((value : ℕ) → (register_of plan value ≡ None) ↔ (spans_of spans value ≡ 0))
    → AreApart spans plan.rows → registers.plan ≡ Some plan → AreKeptApart spans registers
a_plan_keeps_apart spans plan registers none apart is = record {
  has = λ span there. subst (λ (place : Option ℕ). IsSome place) (sym (place span.value))
      (some_of (register_of plan span.value) (λ e. omega (arith, (none span.value).0 e, is_counted spans span there)));
  none = λ value free. place value ∙ (none value).1 free;
  apart = λ a b step ia ib differ ca cb e. apart a b step ia ib differ ca cb (sym (place a.value) ∙ e ∙ place b.value);
}
  where
    place : (value : ℕ) → place_of registers value ≡ register_of plan value
    place value = ap (λ (p : Option RegisterPlan). place_by p (length registers.numbers) value) is

-- ---- a list of values and their numbers
-- To write a list of values and their numbers is to write the values with these numbers.
pub a_list_is_written : (registers : Registers) (pairs : List (ℕ × ℕ)) (numbers : Contents) → All (λ p. p.1 ≡ numbers p.0) pairs
    → pairs_written registers pairs ≡ all_written registers (map (λ (p : ℕ × ℕ). p.0) pairs) numbers
a_list_is_written registers [] numbers all = refl
a_list_is_written registers (pair ∷ pairs) numbers all =
    a_list_is_written (written registers pair.0 pair.1) pairs numbers (All-tail (λ (p : ℕ × ℕ). p.1 ≡ numbers p.0) pair pairs all)
    ∙ ap (λ (n : ℕ). all_written (written registers pair.0 n) (map (λ (p : ℕ × ℕ). p.0) pairs) numbers) (All-head (λ (p : ℕ × ℕ). p.1 ≡ numbers p.0) pair pairs all)
