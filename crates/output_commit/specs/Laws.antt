-- What holds of every list of calls.
use Rattle.std.specs.Prelude.{◌≡◌, ◌≤◌, ◌<◌, ℕ, ◌+◌, true, List, [], ◌∷◌, ◌++◌, Some, length, slice_get, take}
use Rattle.writeback_table.specs.declared.command.Update.{Update}
use Rattle.output_commit.specs.declared.output.Output.{Output}
use Rattle.output_commit.specs.declared.output.Release.TheVariants.{Frame}
use Rattle.output_commit.specs.Batches.{Batch, commands_in, fits}
use Rattle.output_commit.specs.Batches.{visible as seen}
use Rattle.output_commit.specs.Commit.{Commit, first, IsInOrder, visible, acknowledged, answer, commands}
use Rattle.output_commit.specs.Commit.{with_output, after_send, after_next, after_acknowledge, after_release}

-- the calls that change a commit
pub data Call : Type 0 where
  hold : (output : Output) (updates : List Update) → Call
  send : Call
  apply : Call
  acknowledge : Call
  release : (j : ℕ) → Call

abbrev pub after_call : Commit → Call → Commit
after_call c (hold output updates) = with_output c output updates
after_call c send = after_send c
after_call c apply = after_next c
after_call c acknowledge = after_acknowledge c
after_call c (release j) = after_release c j (slice_get c.held j)

abbrev pub after_calls : Commit → List Call → Commit
after_calls c [] = c
after_calls c (call ∷ calls) = after_calls (after_call c call) calls

-- the changes that came with outputs, in order, and how many outputs had any
abbrev pub changes_of : List Call → List Update
changes_of [] = []
changes_of (hold output updates ∷ calls) = updates ++ changes_of calls
changes_of (send ∷ calls) = changes_of calls
changes_of (apply ∷ calls) = changes_of calls
changes_of (acknowledge ∷ calls) = changes_of calls
changes_of (release j ∷ calls) = changes_of calls

abbrev pub one_if_any : List Update → ℕ
one_if_any [] = 0
one_if_any (update ∷ updates) = 1

abbrev pub versions_of : List Call → ℕ
versions_of [] = 0
versions_of (hold output updates ∷ calls) = one_if_any updates + versions_of calls
versions_of (send ∷ calls) = versions_of calls
versions_of (apply ∷ calls) = versions_of calls
versions_of (acknowledge ∷ calls) = versions_of calls
versions_of (release j ∷ calls) = versions_of calls

-- the write-back tables hold the changes of each output
abbrev pub HoldsFitting : ℕ → List Call → Type 0
HoldsFitting writeback [] = Unit {0}
HoldsFitting writeback (hold output updates ∷ calls) =
    (fits writeback updates ≡ true) × HoldsFitting writeback calls
HoldsFitting writeback (send ∷ calls) = HoldsFitting writeback calls
HoldsFitting writeback (apply ∷ calls) = HoldsFitting writeback calls
HoldsFitting writeback (acknowledge ∷ calls) = HoldsFitting writeback calls
HoldsFitting writeback (release j ∷ calls) = HoldsFitting writeback calls

-- the changes of all batches, in order, and how many versions they make
abbrev pub changes_in : List Batch → List Update
changes_in [] = []
changes_in (b ∷ bs) = b.updates ++ changes_in bs

abbrev pub versions_in : List Batch → ℕ
versions_in [] = 0
versions_in (b ∷ bs) = b.versions + versions_in bs

-- What stays where the batch behind n commands takes up others.
pub record IsMerged (n : ℕ) (old new : List Batch) : Type 0 where
  -- the changes, in order, and how many versions they make
  pub changes : changes_in new ≡ changes_in old
  pub versions : versions_in new ≡ versions_in old
  -- those n commands, and what lookups see of them
  pub stays : (m : ℕ) → m ≤ n → take m (commands_in new) ≡ take m (commands_in old)
  pub shows : (m : ℕ) → m ≤ n → seen new m ≡ seen old m
  -- there are no more commands, and one more to be sent where there was one
  pub fewer : length (commands_in new) ≤ length (commands_in old)
  pub goes_on : n < length (commands_in old) → n < length (commands_in new)

-- What holds after any calls.
pub record IsKeptInOrder (writeback : ℕ) (calls : List Call) : Type 0 where
  -- only sent commands are applied, and only applied ones are acknowledged
  pub in_order : IsInOrder (after_calls (first writeback) calls)
  -- so what is known to be seen is seen
  pub known : acknowledged (after_calls (first writeback) calls) ≤ visible (after_calls (first writeback) calls)
  -- the batches have all changes, in the order in which they came, and a version for each output that had any
  pub changes : changes_in (after_calls (first writeback) calls).batches ≡ changes_of calls
  pub versions : versions_in (after_calls (first writeback) calls).batches ≡ versions_of calls

-- A command that was sent stands where it stood, whatever calls follow, and so does what lookups see of it.
pub record StaysSent (c : Commit) (calls : List Call) : Type 0 where
  pub sent : c.sent ≤ (after_calls c calls).sent
  pub commands : take c.sent (commands (after_calls c calls)) ≡ take c.sent (commands c)

-- An output that is let go after some calls has a version that lookups on the switch see from then on, whatever calls
-- follow.
abbrev pub IsSeenFromThenOn : ℕ → List Call → List Call → ℕ → Output → Type 0
IsSeenFromThenOn writeback calls more j output =
    let c = after_calls (first writeback) calls in
    slice_get c.held j ≡ Some output → answer c (Some output) ≡ Frame output.number output.frame
    → output.need ≤ visible (after_calls c more)
