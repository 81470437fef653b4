-- What holds of every list of calls, as the definitions give it.
use Rattle.std.specs.Prelude.{Bool, List, true, ℕ, ◌↔◌, ◌≡◌, ◌≤◌}
use Rattle.writeback_table.specs.Batches.{count_of}
use Rattle.writeback_table.specs.declared.command.Update.{Update}
use Rattle.output_commit.proofs.Calls.{each_held, kept_in_order, seen_from_then_on, stays_sent}
use Rattle.output_commit.proofs.FitsByCount.{exactly}
use Rattle.output_commit.proofs.MergedBatches.{is_merged}
use Rattle.output_commit.specs.Batches.{Batch, fits, merged}
use Rattle.output_commit.specs.Commit.{AreHeld, first}
use Rattle.output_commit.specs.Laws.{Call, HoldsFitting, IsKeptInOrder, IsMerged, IsSeenFromThenOn, StaysSent, after_calls}
use Rattle.output_commit.specs.declared.output.Output.{Output}

-- Only sent commands are applied, only applied ones are acknowledged, and the version that is acknowledged is never
-- above the one that lookups see. The batches have all changes in order, and a version for each output that had any.
pub counts_stay_in_order : (writeback : ℕ) (calls : List Call) → IsKeptInOrder writeback calls
counts_stay_in_order = kept_in_order

-- Commands that were sent stay, also where batches take up others.
pub sent_commands_stay : (writeback : ℕ) (calls more : List Call) → StaysSent (after_calls (first writeback) calls) more
sent_commands_stay = stays_sent

-- Where a batch takes up those behind it, all changes and versions stay, and so do the commands before it with what
-- lookups see of them.
pub a_batch_takes_up_others : (fits : List Update → Bool) (n : ℕ) (batches : List Batch)
    → IsMerged n batches (merged fits n batches)
a_batch_takes_up_others = is_merged

-- An output goes only when lookups on the switch see its version, and they see it, or a later one, from then on.
pub a_held_output_waits : (writeback : ℕ) (calls more : List Call) (j : ℕ) (output : Output)
    → IsSeenFromThenOn writeback calls more j output
a_held_output_waits = seen_from_then_on

-- The write-back tables hold each batch, where they hold the changes of each output: at most so many of each object.
pub each_batch_is_held-held : (writeback : ℕ) (calls : List Call) → HoldsFitting writeback calls
    → AreHeld writeback (after_calls (first writeback) calls).batches
each_batch_is_held-held = each_held

pub each_batch_is_held-exact : (writeback : ℕ) (updates : List Update)
    → (fits writeback updates ≡ true) ↔ ((o : ℕ) → count_of o updates ≤ writeback)
each_batch_is_held-exact = exactly
