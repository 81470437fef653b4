-- Only proofs need this. A plan that is made span by span, in the order of their first steps.
use Rattle.std.specs.Prelude.{◌≡◌, ℕ, ◌<◌, ◌≤◌, ◌==◌, nat_le, List, length, count_by, Some, None, All}
use Rattle.std.specs.BinaryHeap.{IsHeap}
use Rattle.std.specs.FinMap as map
use Rattle.slot_table.specs.Table.{Contents}
use Rattle.flat_ir.specs.declared.spans.Span.{Span}
use Rattle.flat_ir.specs.declared.taken.Taken.{Taken}
use Rattle.flat_ir.specs.Spans.{last_step, overlap, spans_of}
use Rattle.flat_ir.specs.Plan.{register_in, AreBelow, AreApart}
use Rattle.flat_ir.specs.Taking.{taken_cmp}

-- how many registers are taken up to a step at least
abbrev pub taken_at : List Taken → ℕ → ℕ
taken_at taken step = count_by (λ entry. nat_le step entry.last.0) taken

-- how often a register is taken
abbrev pub times_taken : List Taken → ℕ → ℕ
times_taken taken register = count_by (λ entry. entry.register == register) taken

-- each register is taken at least as long as the spans of its values last
abbrev pub AreOutlasted : List Span → Contents → List Taken → Type 0
AreOutlasted done rows taken = All (λ span. All (λ entry. register_in rows span.value ≡ Some entry.register
    → last_step span ≤ entry.last.0) taken) done

-- the registers that are taken, each once
pub record AreTaken (done : List Span) (rows : Contents) (taken : List Taken) : Type 0 where
  pub heap : IsHeap taken_cmp taken
  pub once : (register : ℕ) → times_taken taken register ≤ 1
  pub below : All (λ entry. entry.register < length taken) taken
  pub outlast : AreOutlasted done rows taken

-- how many registers there are so far
pub record AreEnough (done : List Span) (taken : List Taken) : Type 0 where
  -- from the last first step on, just the registers that are still taken are needed
  pub later : (step : ℕ) → All (λ span. span.from ≤ step) done → overlap done step ≡ taken_at taken step
  pub all : (step : ℕ) → overlap done step ≤ length taken
  pub some : (step : ℕ) × (overlap done step ≡ length taken)

-- the registers that were given so far
pub record AreGiven (done : List Span) (rows : Contents) (count : ℕ) : Type 0 where
  pub none : (value : ℕ) → spans_of done value ≡ 0 → register_in rows value ≡ None
  pub some : (value : ℕ) → register_in rows value ≡ None → spans_of done value ≡ 0
  pub below : AreBelow rows count
  pub apart : AreApart done rows
  pub few : map.len rows ≤ length done

pub record IsPlanned (done : List Span) (rows : Contents) (taken : List Taken) : Type 0 where
  pub registers : AreTaken done rows taken
  pub enough : AreEnough done taken
  pub given : AreGiven done rows (length taken)
