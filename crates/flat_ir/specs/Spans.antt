-- For how long values are needed.
use Rattle.std.specs.Prelude.{ℕ, ◌-◌, ◌≤◌, Bool, ◌&&◌, ◌==◌, nat_le, max, List, count_by, All}
use Rattle.flat_ir.specs.declared.spans.Span.{Span}

-- the last step that a span covers; since a step reads before it writes, the step that reads a value last may write
-- another into its register
abbrev pub last_step : Span → ℕ
last_step span = max span.from (span.to - 1)

-- whether a span covers a step
abbrev pub covers : ℕ → Span → Bool
covers step span = nat_le span.from step && nat_le step (last_step span)

-- how many spans cover a step
abbrev pub overlap : List Span → ℕ → ℕ
overlap spans step = count_by (covers step) spans

-- how many spans a value has
abbrev pub spans_of : List Span → ℕ → ℕ
spans_of spans value = count_by (λ span. span.value == value) spans

-- no value has two spans
abbrev pub ValuesDiffer : List Span → Type 0
ValuesDiffer spans = (value : ℕ) → spans_of spans value ≤ 1

-- no value is read before it is written
abbrev pub AreWrittenFirst : List Span → Type 0
AreWrittenFirst spans = All (λ span. span.from ≤ span.to) spans
