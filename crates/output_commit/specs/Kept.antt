-- What a commit keeps beside what it shows.
use Rattle.std.specs.Prelude.{◌≡◌, ◌≤◌, ◌<◌, ◌^◌, ℕ, suc, ◌+◌, ◌-◌, ◌*◌, List, [], ◌∷◌, ◌++◌}
use Rattle.std.specs.Prelude.{drop, length, map, take}
use Rattle.writeback_table.specs.declared.command.Update.{Update}
use Rattle.output_commit.specs.declared.batches.Batches.{Batches}
use Rattle.output_commit.specs.declared.place.Place.{Place}
use Rattle.output_commit.specs.declared.span.Span.{Span}
use Rattle.output_commit.specs.Batches.{Batch, fits, merged, visible}
use Rattle.output_commit.specs.Spans.{AreJoined, AreTallied, IsIn, batch_in, first_of, passed, total}

-- the spans of which a command was sent, and all that count
abbrev pub begun_in : Batches → List Span
begun_in b = take b.begun b.spans.items

abbrev pub spans_in : Batches → List Span
spans_in b = begun_in b ++ drop b.next b.spans.items

abbrev pub batches_in : Batches → List Batch
batches_in b = map (batch_in b.updates.items) (spans_in b)

pub record AreKept (b : Batches) : Type 0 where
  pub begun : b.begun ≤ b.next
  pub next : b.next ≤ length b.spans.items
  -- the batches have all changes, one behind the other
  pub joined : AreJoined 0 (spans_in b) (length b.updates.items)
  pub tallied : AreTallied b.tally b.updates.items
  pub commands : b.commands ≡ total (spans_in b)
  pub few : total (spans_in b) < 2 ^ 32

-- of these spans the first takes up those behind it, and this one and those from place `count` on come of it
pub record Takes (writeback : ℕ) (updates : List Update) (spans : List Span) (span : Span) (count : ℕ) : Type 0 where
  pub some : 0 < count
  pub within : count ≤ length spans
  pub merged : merged (fits writeback) 0 (map (batch_in updates) spans)
      ≡ map (batch_in updates) (span ∷ drop count spans)
  pub joined : AreJoined (first_of spans) (span ∷ drop count spans) (length updates)
  pub fewer : total (span ∷ drop count spans) + 2 * (count - 1) ≡ total spans

-- these batches go behind all others
pub record IsPushed (old new : Batches) (more : List Batch) : Type 0 where
  pub kept : AreKept new
  pub batches : batches_in new ≡ batches_in old ++ more
  pub begun : new.begun ≡ old.begun
  pub front : (k : ℕ) → k ≤ old.begun → take k new.spans.items ≡ take k old.spans.items

-- the first batch that waits takes up others, and is begun
pub record IsBegun (writeback : ℕ) (old new : Batches) (span : Span) : Type 0 where
  pub kept : AreKept new
  pub batches : batches_in new ≡ merged (fits writeback) (total (begun_in old)) (batches_in old)
  pub begun : new.begun ≡ old.begun + 1
  pub front : (k : ℕ) → k ≤ old.begun → take k new.spans.items ≡ take k old.spans.items
  pub last : begun_in new ≡ begun_in old ++ span ∷ []

-- a place before command n of the batches that were begun
pub record IsBefore (b : Batches) (n : ℕ) (place : Place) : Type 0 where
  pub within : IsIn (begun_in b) place
  pub passed : passed (begun_in b) place ≡ n

pub record IsCounted (b : Batches) (sent done acked left : ℕ) (applied known : Place)
    (visible_now acknowledged_now : ℕ) : Type 0 where
  pub kept : AreKept b
  -- sent commands are those of the batches that were begun, and some are of the last of these
  pub all : sent + left ≡ total (begun_in b)
  pub last : (k : ℕ) → b.begun ≡ suc k → total (take k b.spans.items) < sent
  pub done_within : done ≤ sent
  pub acked_within : acked ≤ done
  pub applied_at : IsBefore b done applied
  pub known_at : IsBefore b acked known
  -- two counters keep the versions
  pub seen : visible_now ≡ visible (batches_in b) done
  pub known_seen : acknowledged_now ≡ visible (batches_in b) acked
