-- One more span.
use Rattle.std.proofs.Common.{◌≡◌, ◌≢◌, ℕ, ◌+◌, ◌<◌, ◌≤◌, ◌&&◌, Bool, true, false, List, [], ◌∷◌, ◌++◌, length, Some, None, refl, sym, ap, subst, ◌∙◌, inl, inr, arith, length-append}
use Rattle.std.specs.Prelude.{◌==◌, nat_le, All, Contains, slice_index_or}
use Rattle.std.specs.BinaryHeap.{IsHeap}
use Rattle.std.specs.List.Sorted.{IsPermutation}
use Rattle.std.proofs.lemmas.Bool.{cases_eq, cases_lt, eq-eqb, ne_eqb, eqb-false, le-leb, lt-leb, leb-true, and_parts}
use Rattle.std.proofs.lemmas.List.Elements.{All-cons, All-head, All-tail, All-push, All-weaker, All-contains, Contains-push_cases}
use Rattle.std.proofs.lemmas.List.Sorted.{All-permutation, length_permutation, sum_by_pushed, sum_by_popped}
use Rattle.std.proofs.lemmas.List.Sums.{sum_by_push, count_by-le-length}
use Rattle.slot_table.specs.Table.{Contents}
use Rattle.flat_ir.specs.declared.spans.Span.{Span}
use Rattle.flat_ir.specs.declared.taken.Taken.{Taken}
use Rattle.flat_ir.specs.Spans.{last_step, covers, overlap, spans_of}
use Rattle.flat_ir.specs.Plan.{register_in, AreBelow}
use Rattle.flat_ir.specs.Taking.{taken_cmp, IsTaken}
use Rattle.flat_ir.specs.Planning.{taken_at, times_taken, AreOutlasted, AreTaken, AreEnough, AreGiven, IsPlanned}
use Rattle.flat_ir.proofs.SpanCounts.{one_if, count_all, count_none, none_counted}
use Rattle.flat_ir.proofs.PlanRows.{with_register, with_register_itself, with_register_other, with_register_len}
use Rattle.lemmas.proofs.Lists.{all_front}

abbrev entry_of : ℕ → ℕ → Taken
entry_of last register = record { last = record { 0 = last }; register = register }

one_at_most : (b : Bool) → one_if b ≤ 1
one_at_most true = omega arith
one_at_most false = omega arith

-- ---- a span and its steps
first_le_last : (span : Span) → span.from ≤ last_step span
first_le_last span = omega arith

covers_from : (step : ℕ) (span : Span) → span.from ≤ step → covers step span ≡ nat_le step (last_step span)
covers_from step span le = ap (λ b. b && nat_le step (last_step span)) (le-leb span.from step le)

covers_before : (step : ℕ) (span : Span) → step < span.from → covers step span ≡ false
covers_before step span lt = ap (λ b. b && nat_le step (last_step span)) (lt-leb span.from step lt)

pub covered : (step : ℕ) (span : Span) → covers step span ≡ true → (span.from ≤ step) × (step ≤ last_step span)
covered step span e =
    let parts = and_parts (nat_le span.from step) (nat_le step (last_step span)) e in
    (leb-true span.from step parts.0, leb-true step (last_step span) parts.1)

-- ---- counts
overlap_more : (done : List Span) (span : Span) (step : ℕ) → overlap (done ++ span ∷ []) step ≡ overlap done step + one_if (covers step span)
overlap_more done span step = sum_by_push (λ s. one_if (covers step s)) done span

spans_more : (done : List Span) (span : Span) (value : ℕ) → spans_of (done ++ span ∷ []) value ≡ spans_of done value + one_if (span.value == value)
spans_more done span value = sum_by_push (λ s. one_if (s.value == value)) done span

taken_more : (entry : Taken) (rest new : List Taken) (step : ℕ) → IsPermutation (entry ∷ rest) new → taken_at new step ≡ one_if (nat_le step entry.last.0) + taken_at rest step
taken_more entry rest new step same = sum_by_pushed (λ x. one_if (nat_le step x.last.0)) entry rest new same

taken_less : (entry : Taken) (old rest : List Taken) (step : ℕ) → IsPermutation old (entry ∷ rest) → taken_at rest step + one_if (nat_le step entry.last.0) ≡ taken_at old step
taken_less entry old rest step same = sum_by_popped (λ x. one_if (nat_le step x.last.0)) entry old rest same

times_more : (entry : Taken) (rest new : List Taken) (register : ℕ) → IsPermutation (entry ∷ rest) new → times_taken new register ≡ one_if (entry.register == register) + times_taken rest register
times_more entry rest new register same = sum_by_pushed (λ x. one_if (x.register == register)) entry rest new same

times_less : (entry : Taken) (old rest : List Taken) (register : ℕ) → IsPermutation old (entry ∷ rest) → times_taken rest register + one_if (entry.register == register) ≡ times_taken old register
times_less entry old rest register same = sum_by_popped (λ x. one_if (x.register == register)) entry old rest same

at_most_all : (taken : List Taken) (step : ℕ) → taken_at taken step ≤ length taken
at_most_all taken step = count_by-le-length (λ x. nat_le step x.last.0) taken

-- ---- what later steps need
abbrev pub Begun : ℕ → Span → Type 0
Begun step span = span.from ≤ step

all_last : {X : Type 0} (P : X → Type 0) (xs : List X) (y : X) → All P (xs ++ y ∷ []) → P y
all_last P [] y all = All-head P y [] all
all_last P (x ∷ xs) y all = all_last P xs y (All-tail P x (xs ++ y ∷ []) all)

-- ---- a free register
-- no span whose value is in the register reaches this span
abbrev IsFreeOf : Contents → ℕ → Span → Span → Type 0
IsFreeOf rows register span s = register_in rows s.value ≡ Some register → last_step s < span.from

abbrev Outlasts : Contents → Span → Taken → Type 0
Outlasts rows s entry = register_in rows s.value ≡ Some entry.register → last_step s ≤ entry.last.0

free_again : (done : List Span) (rows : Contents) (old rest : List Taken) (span : Span) (last register : ℕ)
    → AreOutlasted done rows old → IsPermutation old (entry_of last register ∷ rest) → last < span.from → All (IsFreeOf rows register span) done
free_again done rows old rest span last register out was before = All-weaker (λ s. All (Outlasts rows s) old) (IsFreeOf rows register span)
    (λ s all has. let lasts : last_step s ≤ last = All-head (Outlasts rows s) (entry_of last register) rest (All-permutation (Outlasts rows s) old (entry_of last register ∷ rest) was all) has in omega arith)
    done out

free_new : (done : List Span) (rows : Contents) (count : ℕ) (span : Span) → AreBelow rows count → All (IsFreeOf rows count span) done
free_new done rows count span below k d lt has = absurd (omega (arith, below _ count has))

-- ---- what is given
differs : (done : List Span) (value : ℕ) → spans_of done value ≡ 0 → All (λ s. s.value ≢ value) done
differs done value none = All-weaker (λ s. (s.value == value) ≡ false) (λ s. s.value ≢ value) (λ s e. eqb-false s.value value e) done (none_counted (λ s. s.value == value) done none)

more_given : (done : List Span) (rows : Contents) (n m : ℕ) (span : Span) (register : ℕ)
    → AreGiven done rows n → spans_of done span.value ≡ 0 → All (IsFreeOf rows register span) done → n ≤ m → register < m
    → AreGiven (done ++ span ∷ []) (with_register rows span.value register) m
more_given done rows n m span register g new free grown below = record {
  none = λ v e. elim (cases_eq span.value v) [
    | inl same ↦ absurd (omega (arith, e, spans_more done span v, ap one_if (eq-eqb span.value v same)))
    | inr other ↦ with_register_other rows span.value register v (λ s. other (sym s)) ∙ g.none v (omega (arith, e, spans_more done span v))
  ];
  some = λ v e. elim (cases_eq span.value v) [
    | inl same ↦ absurd (let h : None ≡ Some register = sym e ∙ ap (register_in (with_register rows span.value register)) (sym same) ∙ with_register_itself rows span.value register in cc)
    | inr other ↦ omega (arith, spans_more done span v, ap one_if (ne_eqb span.value v other), g.some v (sym (with_register_other rows span.value register v (λ s. other (sym s))) ∙ e))
  ];
  below = λ v r e. elim (cases_eq span.value v) [
    | inl same ↦ (let h : Some register ≡ Some r = sym (with_register_itself rows span.value register) ∙ ap (register_in (with_register rows span.value register)) same ∙ e in
        let is : register ≡ r = cc in omega arith)
    | inr other ↦ omega (arith, g.below v r (sym (with_register_other rows span.value register v (λ s. other (sym s))) ∙ e))
  ];
  apart = λ a b step ia ib differ ca cb same. elim (Contains-push_cases done span a ia) [
    | inl a_in ↦ elim (Contains-push_cases done span b ib) [
      | inl b_in ↦ g.apart a b step a_in b_in differ ca cb (sym (as_before a a_in) ∙ same ∙ as_before b b_in)
      | inr is_b ↦ clash a step a_in ca (ap (covers step) is_b ∙ cb) (sym (as_before a a_in) ∙ same ∙ here b is_b)
    ]
    | inr is_a ↦ elim (Contains-push_cases done span b ib) [
      | inl b_in ↦ clash b step b_in cb (ap (covers step) is_a ∙ ca) (sym (as_before b b_in) ∙ sym same ∙ here a is_a)
      | inr is_b ↦ differ (ap (λ (s : Span). s.value) (sym is_a ∙ is_b))
    ]
  ];
  few = omega (arith, g.few, with_register_len rows span.value register, length-append done (span ∷ []));
}
  where
    as_before : (a : Span) → Contains done a → register_in (with_register rows span.value register) a.value ≡ register_in rows a.value
    as_before a a_in = with_register_other rows span.value register a.value (All-contains (λ s. s.value ≢ span.value) done a (differs done span.value new) a_in)

    here : (b : Span) → span ≡ b → register_in (with_register rows span.value register) b.value ≡ Some register
    here b is = ap (λ (s : Span). register_in (with_register rows span.value register) s.value) (sym is) ∙ with_register_itself rows span.value register

    clash : (a : Span) (step : ℕ) → Contains done a → covers step a ≡ true → covers step span ≡ true → register_in rows a.value ≡ Some register → ⊥
    clash a step a_in ca cs has =
        let before : last_step a < span.from = All-contains (IsFreeOf rows register span) done a free a_in has in
        omega (arith, before, (covered step a ca).1, (covered step span cs).0)

-- ---- how many there are
later_again : (done : List Span) (old rest new : List Taken) (span : Span) (last register step : ℕ)
    → AreEnough done old → IsPermutation old (entry_of last register ∷ rest) → last < span.from
    → IsPermutation (entry_of (last_step span) register ∷ rest) new → All (Begun step) done → span.from ≤ step
    → overlap (done ++ span ∷ []) step ≡ taken_at new step
later_again done old rest new span last register step e was before pushed begun from = omega (
  arith,
  overlap_more done span step,
  e.later step begun,
  taken_less (entry_of last register) old rest step was,
  taken_more (entry_of (last_step span) register) rest new step pushed,
  ap one_if (covers_from step span from),
  ap one_if (lt-leb step last (omega arith)),
)

later_new : (done : List Span) (old new : List Taken) (span : Span) (register step : ℕ)
    → AreEnough done old → IsPermutation (entry_of (last_step span) register ∷ old) new → All (Begun step) done → span.from ≤ step
    → overlap (done ++ span ∷ []) step ≡ taken_at new step
later_new done old new span register step e pushed begun from = omega (
  arith,
  overlap_more done span step,
  e.later step begun,
  taken_more (entry_of (last_step span) register) old new step pushed,
  ap one_if (covers_from step span from),
)

-- from the next first step on, or before it
all_more : (done : List Span) (old new : List Taken) (span : Span) (step : ℕ)
    → AreEnough done old → All (Begun span.from) done → length old ≤ length new
    → ((step : ℕ) → All (Begun step) done → span.from ≤ step → overlap (done ++ span ∷ []) step ≡ taken_at new step)
    → overlap (done ++ span ∷ []) step ≤ length new
all_more done old new span step e begun grown later = elim (cases_lt step span.from) [
  | inl before ↦ omega (arith, overlap_more done span step, ap one_if (covers_before step span before), e.all step)
  | inr after ↦ omega (arith, later step (All-weaker (Begun span.from) (Begun step) (λ s b. omega arith) done begun) after, at_most_all new step)
]

enough_again : (done : List Span) (old rest new : List Taken) (span : Span) (last register : ℕ)
    → AreEnough done old → All (Begun span.from) done → IsPermutation old (entry_of last register ∷ rest) → last < span.from
    → IsPermutation (entry_of (last_step span) register ∷ rest) new → length new ≡ length old
    → AreEnough (done ++ span ∷ []) new
enough_again done old rest new span last register e begun was before pushed size =
    let later = λ (step : ℕ). later_again done old rest new span last register step e was before pushed in
    let all = λ (step : ℕ). all_more done old new span step e begun (omega arith) later in
    record {
      later = λ step b. later step (all_front (Begun step) done (span ∷ []) b) (all_last (Begun step) done span b);
      all = all;
      some = (e.some.0, omega (arith, e.some.1, overlap_more done span e.some.0, all e.some.0, size));
    }

enough_new : (done : List Span) (old new : List Taken) (span : Span) (register : ℕ)
    → AreEnough done old → All (Begun span.from) done → All (λ entry. span.from ≤ entry.last.0) old
    → IsPermutation (entry_of (last_step span) register ∷ old) new → length new ≡ length old + 1
    → AreEnough (done ++ span ∷ []) new
enough_new done old new span register e begun none pushed size =
    let later = λ (step : ℕ). later_new done old new span register step e pushed in
    let passes : All (λ entry. nat_le span.from entry.last.0 ≡ true) old =
    All-weaker (λ (entry : Taken). span.from ≤ entry.last.0) (λ (entry : Taken). nat_le span.from entry.last.0 ≡ true) (λ entry le. le-leb span.from entry.last.0 le) old none in
    record {
      later = λ step b. later step (all_front (Begun step) done (span ∷ []) b) (all_last (Begun step) done span b);
      all = λ step. all_more done old new span step e begun (omega arith) later;
      some = (
        span.from,
        omega (
          arith,
          size,
          later span.from begun (omega arith),
          taken_more (entry_of (last_step span) register) old new span.from pushed,
          count_all (λ (entry : Taken). nat_le span.from entry.last.0) old passes,
          ap one_if (le-leb span.from (last_step span) (first_le_last span)),
        ),
      );
    }

-- ---- what is taken
-- what each span that came before, and this one, says of the registers that are taken
outlast_more : (done : List Span) (rows : Contents) (rest new : List Taken) (span : Span) (register : ℕ)
    → spans_of done span.value ≡ 0 → AreOutlasted done rows rest → All (IsFreeOf rows register span) done → All (λ entry. entry.register ≢ register) rest
    → IsPermutation (entry_of (last_step span) register ∷ rest) new
    → AreOutlasted (done ++ span ∷ []) (with_register rows span.value register) new
outlast_more done rows rest new span register fresh out free apart pushed = All-push (λ s. All (Outlasts (with_register rows span.value register) s) new) done span
    (λ k d lt. old_spans (slice_index_or done k d) (fresh_one k d lt) (out k d lt) (free k d lt))
    this_span
  where
    fresh_one : All (λ s. s.value ≢ span.value) done
    fresh_one = differs done span.value fresh

    old_spans : (s : Span) → s.value ≢ span.value → All (Outlasts rows s) rest → IsFreeOf rows register span s → All (Outlasts (with_register rows span.value register) s) new
    old_spans s other all free_of =
        let same = with_register_other rows span.value register s.value other in
        All-permutation (Outlasts (with_register rows span.value register) s) (entry_of (last_step span) register ∷ rest) new pushed
        (All-cons (Outlasts (with_register rows span.value register) s) (entry_of (last_step span) register) rest
        (λ has. omega (arith, free_of (sym same ∙ has), first_le_last span))
        (All-weaker (Outlasts rows s) (Outlasts (with_register rows span.value register) s) (λ entry lasts has. lasts (sym same ∙ has)) rest all))

    this_span : All (Outlasts (with_register rows span.value register) span) new
    this_span = All-permutation (Outlasts (with_register rows span.value register) span) (entry_of (last_step span) register ∷ rest) new pushed
        (All-cons (Outlasts (with_register rows span.value register) span) (entry_of (last_step span) register) rest
        (λ has. omega arith)
        (All-weaker (λ entry. entry.register ≢ register) (Outlasts (with_register rows span.value register) span)
        (λ entry other has. absurd (other (let h : Some entry.register ≡ Some register = sym has ∙ with_register_itself rows span.value register in cc))) rest apart))

-- a register that is taken once is not among the others
others : (rest : List Taken) (register : ℕ) → times_taken rest register ≡ 0 → All (λ entry. entry.register ≢ register) rest
others rest register none = All-weaker (λ entry. (entry.register == register) ≡ false) (λ entry. entry.register ≢ register)
    (λ entry e. eqb-false entry.register register e) rest (none_counted (λ entry. entry.register == register) rest none)

taken_again : (done : List Span) (rows : Contents) (old rest new : List Taken) (span : Span) (last register : ℕ)
    → spans_of done span.value ≡ 0 → AreTaken done rows old → IsPermutation old (entry_of last register ∷ rest) → last < span.from
    → IsPermutation (entry_of (last_step span) register ∷ rest) new → IsHeap taken_cmp new → length new ≡ length old
    → AreTaken (done ++ span ∷ []) (with_register rows span.value register) new
taken_again done rows old rest new span last register fresh t was before pushed heap size =
    let was_entry = entry_of last register in
    let is_entry = entry_of (last_step span) register in
    let less = times_less was_entry old rest register was in
    let none : times_taken rest register ≡ 0 = omega (arith, less, t.once register, ap one_if (eq-eqb register register refl)) in
    let Below : Taken → Type 0 = λ entry. entry.register < length old in
    let below_was : All Below (was_entry ∷ rest) = All-permutation Below old (was_entry ∷ rest) was t.below in
    let below_is : All Below new = All-permutation Below (is_entry ∷ rest) new pushed
    (All-cons Below is_entry rest (All-head Below was_entry rest below_was) (All-tail Below was_entry rest below_was)) in
    record {
      heap = heap;
      once = λ r. omega (arith, times_more is_entry rest new r pushed, times_less was_entry old rest r was, t.once r);
      below = All-weaker Below (λ entry. entry.register < length new) (λ entry b. omega arith) new below_is;
      outlast = outlast_more done rows rest new span register fresh
          (All-weaker (λ s. All (Outlasts rows s) old) (λ s. All (Outlasts rows s) rest)
          (λ s all. All-tail (Outlasts rows s) was_entry rest (All-permutation (Outlasts rows s) old (was_entry ∷ rest) was all)) done t.outlast)
          (free_again done rows old rest span last register t.outlast was before)
          (others rest register none) pushed;
    }

taken_new : (done : List Span) (rows : Contents) (old new : List Taken) (span : Span)
    → spans_of done span.value ≡ 0 → AreTaken done rows old → AreBelow rows (length old)
    → IsPermutation (entry_of (last_step span) (length old) ∷ old) new → IsHeap taken_cmp new → length new ≡ length old + 1
    → AreTaken (done ++ span ∷ []) (with_register rows span.value (length old)) new
taken_new done rows old new span fresh t below pushed heap size =
    let register = length old in
    let is_entry = entry_of (last_step span) register in
    let apart : All (λ entry. entry.register ≢ register) old =
    All-weaker (λ (entry : Taken). entry.register < register) (λ (entry : Taken). entry.register ≢ register) (λ entry lt same. omega arith) old t.below in
    let none : times_taken old register ≡ 0 = count_none (λ (entry : Taken). entry.register == register) old
    (All-weaker (λ (entry : Taken). entry.register ≢ register) (λ (entry : Taken). (entry.register == register) ≡ false) (λ entry other. ne_eqb entry.register register other) old apart) in
    record {
      heap = heap;
      once = λ r. elim (cases_eq register r) [
        | inl same ↦ omega (arith, times_more is_entry old new r pushed, one_at_most (register == r), ap (times_taken old) same, none)
        | inr other ↦ omega (arith, times_more is_entry old new r pushed, ap one_if (ne_eqb register r other), t.once r)
      ];
      below = All-permutation (λ entry. entry.register < length new) (is_entry ∷ old) new pushed
          (All-cons (λ entry. entry.register < length new) is_entry old (omega arith)
          (All-weaker (λ entry. entry.register < register) (λ entry. entry.register < length new) (λ entry b. omega arith) old t.below));
      outlast = outlast_more done rows old new span register fresh t.outlast (free_new done rows register span below) apart pushed;
    }

-- ---- the step
planned_again : (done : List Span) (rows : Contents) (old rest new : List Taken) (span : Span) (last register : ℕ)
    → IsPlanned done rows old → spans_of done span.value ≡ 0 → All (Begun span.from) done
    → IsPermutation old (entry_of last register ∷ rest) → last < span.from
    → IsPermutation (entry_of (last_step span) register ∷ rest) new → IsHeap taken_cmp new
    → IsPlanned (done ++ span ∷ []) (with_register rows span.value register) new
planned_again done rows old rest new span last register p fresh begun was before pushed heap =
    let was_entry = entry_of last register in
    let is_entry = entry_of (last_step span) register in
    let size : length new ≡ length old = omega (arith, length_permutation old (was_entry ∷ rest) was, length_permutation (is_entry ∷ rest) new pushed) in
    let Below : Taken → Type 0 = λ entry. entry.register < length old in
    let below : register < length old = All-head Below was_entry rest (All-permutation Below old (was_entry ∷ rest) was p.registers.below) in
    record {
      registers = taken_again done rows old rest new span last register fresh p.registers was before pushed heap size;
      enough = enough_again done old rest new span last register p.enough begun was before pushed size;
      given = more_given done rows (length old) (length new) span register p.given fresh
          (free_again done rows old rest span last register p.registers.outlast was before) (omega arith) (omega arith);
    }

planned_new : (done : List Span) (rows : Contents) (old new : List Taken) (span : Span)
    → IsPlanned done rows old → spans_of done span.value ≡ 0 → All (Begun span.from) done
    → All (λ entry. span.from ≤ entry.last.0) old
    → IsPermutation (entry_of (last_step span) (length old) ∷ old) new → IsHeap taken_cmp new
    → IsPlanned (done ++ span ∷ []) (with_register rows span.value (length old)) new
planned_new done rows old new span p fresh begun none pushed heap =
    let is_entry = entry_of (last_step span) (length old) in
    let size : length new ≡ length old + 1 = omega (arith, length_permutation (is_entry ∷ old) new pushed) in
    record {
      registers = taken_new done rows old new span fresh p.registers p.given.below pushed heap size;
      enough = enough_new done old new span (length old) p.enough begun none pushed size;
      given = more_given done rows (length old) (length new) span (length old) p.given fresh
          (free_new done rows (length old) span p.given.below) (omega arith) (omega arith);
    }

pub planned_more : (done : List Span) (rows : Contents) (old new : List Taken) (span : Span) (register : ℕ)
    → IsPlanned done rows old → spans_of done span.value ≡ 0 → All (Begun span.from) done → IsTaken span old new register
    → IsPlanned (done ++ span ∷ []) (with_register rows span.value register) new
planned_more done rows old new span register p fresh begun t = elim t.found [
  | inl again ↦ planned_again done rows old t.rest new span again.last register p fresh begun again.was again.free t.pushed t.heap
  | inr new_one ↦
      let pushed : IsPermutation (entry_of (last_step span) (length old) ∷ old) new =
      subst (λ (r : ℕ). IsPermutation (entry_of (last_step span) r ∷ old) new) new_one.next
      (subst (λ (rest : List Taken). IsPermutation (entry_of (last_step span) register ∷ rest) new) new_one.same t.pushed) in
      subst (λ (r : ℕ). IsPlanned (done ++ span ∷ []) (with_register rows span.value r) new) (sym new_one.next)
      (planned_new done rows old new span p fresh begun new_one.none pushed t.heap)
]
