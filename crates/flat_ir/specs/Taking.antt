-- Registers that are taken up to some step.
use Rattle.std.specs.Prelude.{◌≡◌, ◌⊎◌, ℕ, ◌<◌, ◌≤◌, List, ◌∷◌, length, All}
use Rattle.std.specs.List.Sorted.{IsPermutation}
use Rattle.std.specs.Ordering.{nat_cmp, ordering_then}
use Rattle.std.specs.declared.cmp.Ordering.{Ordering}
use Rattle.std.specs.BinaryHeap.{IsHeap}
use Rattle.flat_ir.specs.declared.spans.Span.{Span}
use Rattle.flat_ir.specs.declared.taken.Taken.{Taken}
use Rattle.flat_ir.specs.Spans.{last_step}

-- the register that is free first comes first
abbrev pub taken_cmp : Taken → Taken → Ordering
taken_cmp a b = ordering_then (nat_cmp b.last.0 a.last.0) (nat_cmp a.register b.register)

-- a register that is free before a step is no longer taken
pub record IsUsedAgain (from : ℕ) (old new : List Taken) (register : ℕ) : Type 0 where
  pub last : ℕ
  pub free : last < from
  pub was : IsPermutation old (record { last = record { 0 = last }; register = register } ∷ new)

-- none is free before a step, and this is one more
pub record IsNew (from : ℕ) (old new : List Taken) (register : ℕ) : Type 0 where
  pub next : register ≡ length old
  pub same : new ≡ old
  pub none : All (λ entry. from ≤ entry.last.0) old

abbrev pub IsFound : ℕ → List Taken → List Taken → ℕ → Type 0
IsFound from old new register = IsUsedAgain from old new register ⊎ IsNew from old new register

-- a register was found for a span, and is taken up to its last step
pub record IsTaken (span : Span) (old new : List Taken) (register : ℕ) : Type 0 where
  pub rest : List Taken
  pub found : IsFound span.from old rest register
  pub pushed : IsPermutation (record { last = record { 0 = last_step span }; register = register } ∷ rest) new
  pub heap : IsHeap taken_cmp new
