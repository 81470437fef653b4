-- The plan of all spans, by those in order so far.
use Rattle.std.proofs.Common.{◌≡◌, ℕ, ◌+◌, ◌<◌, ◌≤◌, List, [], ◌∷◌, length, take, get_or, Some, None, refl, sym, ap, subst, ◌∙◌, arith}
use Rattle.std.specs.Prelude.{◌==◌, nat_le, All, not, if◌then◌else◌}
use Rattle.std.specs.BinaryHeap.{IsHeap}
use Rattle.std.specs.List.Sorted.{IsPermutation, IsNonDecreasingBy}
use Rattle.std.specs.FinMap.{empty, insert, len, contains_key, get-empty, len-empty}
use Rattle.std.proofs.lemmas.Bool.{eq-eqb, lt-leb, and_right}
use Rattle.std.proofs.lemmas.List.{take_more, take_all, get_or-take, length-take, get_or_default}
use Rattle.std.proofs.lemmas.List.Elements.{All-nil}
use Rattle.std.proofs.lemmas.List.Sorted.{Contains-permutation, sum_by-IsPermutation}
use Rattle.std.proofs.lemmas.List.Sums.{sum_by_more_le}
use Rattle.slot_table.specs.Table.{Contents, Table, key_cmp, is_table_full}
use Rattle.flat_ir.specs.declared.spans.Span.{Span}
use Rattle.flat_ir.specs.declared.taken.Taken.{Taken}
use Rattle.flat_ir.specs.Spans.{last_step, covers, spans_of, ValuesDiffer}
use Rattle.flat_ir.specs.Plan.{register_in, AreBelow, AreApart, IsGreatestOverlap}
use Rattle.flat_ir.specs.Taking.{taken_cmp, IsTaken}
use Rattle.flat_ir.specs.Planning.{IsPlanned}
use Rattle.flat_ir.proofs.SpanCounts.{one_if}
use Rattle.flat_ir.proofs.PlanRows.{with_register}
use Rattle.flat_ir.proofs.PlanSteps.{Begun, planned_more}

-- ---- before the first span
none_given : (value : ℕ) → register_in empty value ≡ None
none_given value = rw (get-empty key_cmp (value ∷ [])) refl

planned_none : IsHeap taken_cmp [] → IsPlanned [] empty []
planned_none heap = record {
  registers = record {
    heap = heap;
    once = λ r. omega arith;
    below = All-nil (λ entry. entry.register < 0);
    outlast = All-nil (λ span. All (λ entry. register_in empty span.value ≡ Some entry.register → last_step span ≤ entry.last.0) []);
  };
  enough = record { later = λ step b. refl; all = λ step. omega arith; some = (0, refl) };
  given = record {
    none = λ v e. none_given v;
    some = λ v e. refl;
    below = λ v r e. absurd (let h : None ≡ Some r = sym (none_given v) ∙ e in cc);
    apart = λ a b step ia ib differ ca cb same. absurd (omega (arith, ia.1));
    few = omega (arith, len-empty key_cmp (List ℕ));
  };
}

pub starts : (rows : Contents) (taken : List Taken) → rows ≡ empty → taken ≡ [] → IsHeap taken_cmp taken → IsPlanned [] rows taken
starts rows taken e f heap = subst (λ (given_rows : Contents). IsPlanned [] given_rows taken) (sym e)
    (subst (λ (entries : List Taken). IsPlanned [] empty entries) (sym f) (planned_none (subst (IsHeap taken_cmp) f heap)))

-- ---- one more
pub stored : (table : Table) (value register n : ℕ) → len table.rows ≤ n → n < table.capacity
    → (if is_table_full table (value ∷ []) then table.rows else insert table.rows (value ∷ []) (register ∷ [])) ≡ with_register table.rows value register
stored table value register n few room = rw (and_right (not (contains_key table.rows (value ∷ []))) (nat_le table.capacity (len table.rows)) (lt-leb table.capacity (len table.rows) (omega arith))) refl

fresh : (spans sorted : List Span) (i : ℕ) (d : Span) → i < length sorted → ValuesDiffer spans → IsPermutation spans sorted
    → spans_of (take i sorted) (get_or sorted i d).value ≡ 0
fresh spans sorted i d lt differ same =
    let value = (get_or sorted i d).value in
    omega (
      arith,
      differ value,
      sum_by-IsPermutation (λ (s : Span). one_if (s.value == value)) spans sorted same,
      sum_by_more_le (λ (s : Span). one_if (s.value == value)) sorted i d lt,
      ap one_if (eq-eqb value value refl),
    )

begun : (sorted : List Span) (i : ℕ) (d : Span) → i < length sorted → IsNonDecreasingBy (λ s. s.from) sorted → All (Begun (get_or sorted i d).from) (take i sorted)
begun sorted i d lt rising k e below =
    let short : k < i = omega (arith, below, length-take i sorted) in
    subst (λ (s : Span). s.from ≤ (get_or sorted i d).from) (sym (get_or-take i sorted k e short)) (subst (λ (s : Span). (get_or sorted k e).from ≤ s.from) (get_or_default sorted i e d lt) (rising k i e (omega arith) lt))

pub one_more : (spans sorted : List Span) (i : ℕ) (d : Span) (rows : Contents) (old new : List Taken) (register : ℕ)
    → i < length sorted → ValuesDiffer spans → IsPermutation spans sorted → IsNonDecreasingBy (λ s. s.from) sorted
    → IsPlanned (take i sorted) rows old → IsTaken (get_or sorted i d) old new register
    → IsPlanned (take (i + 1) sorted) (with_register rows (get_or sorted i d).value register) new
one_more spans sorted i d rows old new register lt differ same rising p t =
    subst (λ (done : List Span). IsPlanned done (with_register rows (get_or sorted i d).value register) new) (sym (take_more sorted i d lt))
    (planned_more (take i sorted) rows old new (get_or sorted i d) register p (fresh spans sorted i d lt differ same) (begun sorted i d lt rising) t)

-- ---- all of them
pub record IsMade (spans : List Span) (rows : Contents) (count : ℕ) : Type 0 where
  pub none : (value : ℕ) → spans_of spans value ≡ 0 → register_in rows value ≡ None
  pub some : (value : ℕ) → register_in rows value ≡ None → spans_of spans value ≡ 0
  pub below : AreBelow rows count
  pub apart : AreApart spans rows
  pub greatest : IsGreatestOverlap spans count

pub made : (spans sorted : List Span) (i : ℕ) (rows : Contents) (taken : List Taken) → length sorted ≤ i → IsPermutation spans sorted
    → IsPlanned (take i sorted) rows taken → IsMade spans rows (length taken)
made spans sorted i rows taken all same so_far =
    let p : IsPlanned sorted rows taken = subst (λ (done : List Span). IsPlanned done rows taken) (take_all i sorted all) so_far in
    let values = λ (value : ℕ). sum_by-IsPermutation (λ (s : Span). one_if (s.value == value)) spans sorted same in
    let steps = λ (step : ℕ). sum_by-IsPermutation (λ (s : Span). one_if (covers step s)) spans sorted same in
    record {
      none = λ value e. p.given.none value (values value ∙ e);
      some = λ value e. sym (values value) ∙ p.given.some value e;
      below = p.given.below;
      apart = λ a b step ia ib. p.given.apart a b step (Contains-permutation spans sorted a same ia) (Contains-permutation spans sorted b same ib);
      greatest = record {
        all = λ step. omega (arith, steps step, p.enough.all step);
        some = (p.enough.some.0, sym (steps p.enough.some.0) ∙ p.enough.some.1);
      };
    }
