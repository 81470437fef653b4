-- What is computed step by step, with a register for each value and with registers that are used again.
use Rattle.std.specs.Prelude.{◌≡◌, ◌≢◌, ◌⊎◌, ℕ, zero, suc, ◌+◌, ◌<◌, ◌≤◌, ◌==◌}
use Rattle.std.specs.Prelude.{Bool, true, false, ◌&&◌, if◌then◌else◌, List, [], ◌∷◌, None, All, Contains}
use Rattle.std.specs.List.{list_any}
use Rattle.flat_ir.specs.declared.spans.Span.{Span}
use Rattle.flat_ir.specs.Spans.{covers, spans_of}
use Rattle.transfer_header.specs.Registers.{Registers, place_of, content_of, written, HasRegister, ArePlaced}

-- a number for each value
abbrev pub Contents : Type 0
Contents = ℕ → ℕ

-- Steps: which values each reads, which it writes then, and what number it gives to a value by what it reads.
pub record Steps : Type 0 where
  pub reads : ℕ → ℕ → Bool
  pub writes : ℕ → List ℕ
  pub number : ℕ → Contents → Contents

abbrev pub is_among : ℕ → List ℕ → Bool
is_among value values = list_any (λ v. v == value) values

-- a step looks at no value but those that it reads
abbrev pub LooksAtReadsAlone : Steps → Type 0
LooksAtReadsAlone steps = (step : ℕ) (a b : Contents)
    → ((value : ℕ) → steps.reads step value ≡ true → a value ≡ b value)
    → (value : ℕ) → steps.number step a value ≡ steps.number step b value

-- ## A register for each value

-- some values have new numbers
abbrev pub with_numbers : List ℕ → Contents → Contents → Contents
with_numbers values numbers before value = if is_among value values then numbers value else before value

abbrev pub reading_after : Steps → Contents → ℕ → Contents
reading_after steps before step = with_numbers (steps.writes step) (steps.number step before) before

-- each value's number before a step
abbrev pub one_each : Steps → ℕ → Contents
one_each steps zero = λ _. 0
one_each steps (suc step) = reading_after steps (one_each steps step) step

-- ## Registers that are used again

-- numbers are written one after the other
abbrev pub all_written : Registers → List ℕ → Contents → Registers
all_written registers [] numbers = registers
all_written registers (value ∷ values) numbers = all_written (written registers value (numbers value)) values numbers

-- the same by a list of values and their numbers
abbrev pub pairs_written : Registers → List (ℕ × ℕ) → Registers
pairs_written registers [] = registers
pairs_written registers (pair ∷ pairs) = pairs_written (written registers pair.0 pair.1) pairs

-- a step reads all that it reads before it writes
abbrev pub registers_after : Steps → Registers → ℕ → Registers
registers_after steps before step = all_written before (steps.writes step) (steps.number step (content_of before))

-- the registers before a step
abbrev pub in_registers : Steps → Registers → ℕ → Registers
in_registers steps start zero = start
in_registers steps start (suc step) = registers_after steps (in_registers steps start step) step

-- ## Spans of what is computed

-- a value is written at the first step of its span alone, is read only after that, and at the last step at the latest
pub record IsSpanOf (steps : Steps) (span : Span) : Type 0 where
  pub first : is_among span.value (steps.writes span.from) ≡ true
  pub once : (step : ℕ) → is_among span.value (steps.writes step) ≡ true → step ≡ span.from
  pub after : (step : ℕ) → steps.reads step span.value ≡ true → span.from < step
  pub last : (step : ℕ) → steps.reads step span.value ≡ true → step ≤ span.to

-- no step writes a value, and it has no span
pub record IsNowhere (steps : Steps) (spans : List Span) (value : ℕ) : Type 0 where
  pub unwritten : (step : ℕ) → is_among value (steps.writes step) ≡ false
  pub none : spans_of spans value ≡ 0

-- whatever is written has a span, and so has whatever is read, unless it is written nowhere
pub record AreSpansOf (steps : Steps) (spans : List Span) : Type 0 where
  pub written : (step value : ℕ) → is_among value (steps.writes step) ≡ true → spans_of spans value ≡ 1
  pub read : (step value : ℕ) → steps.reads step value ≡ true
      → (spans_of spans value ≡ 1) ⊎ IsNowhere steps spans value
  pub each : All (IsSpanOf steps) spans

-- a value is needed at a step
abbrev pub IsNeeded : List Span → ℕ → ℕ → Type 0
IsNeeded spans step value = list_any (λ span. span.value == value && covers step span) spans ≡ true

-- registers for the values that have spans and no others, in which values that are needed at one step are apart
pub record AreKeptApart (spans : List Span) (registers : Registers) : Type 0 where
  pub has : (span : Span) → Contains spans span → HasRegister registers span.value
  pub none : (value : ℕ) → spans_of spans value ≡ 0 → place_of registers value ≡ None
  pub apart : (a b : Span) (step : ℕ) → Contains spans a → Contains spans b → a.value ≢ b.value
      → covers step a ≡ true → covers step b ≡ true → place_of registers a.value ≢ place_of registers b.value

-- ## What the laws say

-- Before a step: what was written and is still to be read, by this step or later, is in its register. What has no span
-- counts as 0.
pub record IsReady (spans : List Span) (registers : Registers) (contents : Contents) (step : ℕ) : Type 0 where
  pub apart : AreKeptApart spans registers
  pub placed : ArePlaced registers
  pub stands : (span : Span) → Contains spans span → span.from < step → step ≤ span.to
      → content_of registers span.value ≡ contents span.value
  pub zero : (value : ℕ) → spans_of spans value ≡ 0 → contents value ≡ 0

-- after a step: what it wrote, and what is still to be read, is in its register
abbrev pub KeepsCovered : List Span → ℕ → Registers → Contents → Type 0
KeepsCovered spans step registers contents = (span : Span) → Contains spans span → covers step span ≡ true
    → content_of registers span.value ≡ contents span.value

-- a step reads in registers what it would read with a register for each value, and the next step is ready
pub record IsDoneAlike (steps : Steps) (spans : List Span) (registers : Registers) (contents : Contents) (step : ℕ)
    : Type 0 where
  pub reads : (value : ℕ) → steps.reads step value ≡ true → content_of registers value ≡ contents value
  pub keeps : KeepsCovered spans step (registers_after steps registers step) (reading_after steps contents step)
  pub next : IsReady spans (registers_after steps registers step) (reading_after steps contents step) (step + 1)

-- each step of a pass is ready and is done so
abbrev pub IsAlike : Steps → List Span → Registers → Type 0
IsAlike steps spans start = (step : ℕ) → IsReady spans (in_registers steps start step) (one_each steps step) step
    × IsDoneAlike steps spans (in_registers steps start step) (one_each steps step) step
