-- Batches by where their changes stand among all changes, and commands by their place.
use Rattle.std.specs.Prelude.{◌≡◌, ◌≤◌, ◌<◌, ℕ, ◌+◌, ◌-◌, ◌*◌, List, [], ◌∷◌, Option, Some, None}
use Rattle.std.specs.Prelude.{Bool, false, ◌&&◌, slice_get}
use Rattle.std.specs.Prelude.{drop, get_or, if◌then◌else◌, length, nat_lt, take, ◌==◌}
use Rattle.std.specs.List.{AllByRecursion as Each}
use Rattle.writeback_table.specs.declared.command.Update.{Update}
use Rattle.writeback_table.specs.Batches.{count_of}
use Rattle.output_commit.specs.declared.span.Span.{Span}
use Rattle.output_commit.specs.declared.place.Place.{Place}
use Rattle.output_commit.specs.declared.tally.Tally.{Tally}
use Rattle.output_commit.specs.Batches.{Batch}

-- ## Spans

-- the batch of a span of these changes
abbrev pub batch_in : List Update → Span → Batch
batch_in updates span = record { updates = take span.changes (drop span.first updates); versions = span.versions }

-- how many commands it has, and how many those of all these have
abbrev pub span_len : Span → ℕ
span_len span = 3 * span.changes + 2

abbrev pub total : List Span → ℕ
total [] = 0
total (span ∷ spans) = span_len span + total spans

-- two as one, where the second begins behind the first
abbrev pub joined : Span → Span → Span
joined a b = record { first = a.first; changes = a.changes + b.changes; versions = a.versions + b.versions }

-- each begins behind the one before it, from one place to another, and has no more versions than changes
abbrev pub AreJoined : ℕ → List Span → ℕ → Type 0
AreJoined from [] upto = from ≡ upto
AreJoined from (span ∷ spans) upto =
    (span.first ≡ from) × (span.versions ≤ span.changes) × AreJoined (from + span.changes) spans upto

-- where the first begins
abbrev pub first_of : List Span → ℕ
first_of [] = 0
first_of (span ∷ spans) = span.first

-- ## Places

-- how many commands stand before a place
abbrev pub passed : List Span → Place → ℕ
passed spans place = total (take place.batch spans) + place.step

-- it is within its batch, or behind its last command
pub record IsIn (spans : List Span) (place : Place) : Type 0 where
  pub batch : place.batch ≤ length spans
  pub step : place.step ≤ total (take 1 (drop place.batch spans))

-- the batch in which command n stands, from 0, and its place there
abbrev pub stands : List Span → ℕ → Option (Span × ℕ)
stands [] n = None
stands (span ∷ spans) n = if nat_lt n (span_len span) then Some (span, n) else stands spans (n - span_len span)

-- the bit stands behind the first commands of a batch: the one that sets it is among them, and the one that clears it
-- isn't
abbrev pub has_bit : Span → ℕ → Bool
has_bit span step = nat_lt span.changes step && nat_lt step (2 * span.changes + 2)

-- so it does at a place
abbrev pub bit_of : Option Span → ℕ → Bool
bit_of None step = false
bit_of (Some span) step = has_bit span step

abbrev pub bit_at : List Span → Place → Bool
bit_at spans place = bit_of (slice_get spans place.batch) place.step

-- how many versions a command of a batch makes visible: all of them, where it sets the bit
abbrev pub shown_by : Span → ℕ → ℕ
shown_by span step = if step == span.changes then span.versions else 0

-- ## Tallies

-- there is a count for the object of each change
abbrev pub AreTallied : Tally → List Update → Type 0
AreTallied tally updates = Each (λ (u : Update). u.object < length tally.counts.items) updates

-- the counts are those of these changes
abbrev pub IsTallied : Tally → List Update → Type 0
IsTallied tally updates =
    (o : ℕ) → o < length tally.counts.items → get_or tally.counts.items o 0 ≡ count_of o updates
