-- Batches of changes, each of which lookups see at once, and how a batch takes up those behind it.
use Rattle.std.specs.Prelude.{ℕ, ◌+◌, ◌-◌, ◌==◌, Bool, List, [], ◌∷◌, ◌++◌, Option, Some, None, map, length, take}
use Rattle.std.specs.Prelude.{nat_le, slice_get, if◌then◌else◌}
use Rattle.std.specs.List.{list_all}
use Rattle.writeback_table.specs.declared.command.Update.{Update}
use Rattle.writeback_table.specs.declared.command.Command.{Command}
use Rattle.writeback_table.specs.Batches.{all_commands, count_of}
use Rattle.writeback_table.specs.Commands.{commands_of, versions_on}

-- changes that lookups see at once, and how many versions these are
pub record Batch : Type 0 where
  pub updates : List Update
  pub versions : ℕ

-- all commands, one batch behind the other
abbrev pub commands_in : List Batch → List Command
commands_in batches = all_commands (map (λ b. b.updates) batches)

-- the last command that was sent, where so many were
abbrev pub last_of : List Batch → ℕ → Option Command
last_of batches sent = if sent == 0 then None else slice_get (commands_in batches) (sent - 1)

abbrev pub versions_of : Option Batch → ℕ
versions_of None = 0
versions_of (Some b) = b.versions

-- how many versions batch i makes; where there is none, none
abbrev pub versions_at : List Batch → ℕ → ℕ
versions_at batches i = versions_of (slice_get batches i)

-- the version that the first n commands make visible, by the batches that have set the bit
abbrev pub visible : List Batch → ℕ → ℕ
visible batches n = versions_on (versions_at batches) (take n (commands_in batches))

-- the write-back tables hold these changes: of each object at most so many
abbrev pub fits : ℕ → List Update → Bool
fits writeback updates = list_all (λ u. nat_le (count_of u.object updates) writeback) updates

-- a batch takes up those behind it, as far as they fit
abbrev pub take_up : (List Update → Bool) → Batch → List Batch → List Batch
take_up fits b [] = b ∷ []
take_up fits b (c ∷ bs) =
    if fits (b.updates ++ c.updates)
    then take_up fits (record { updates = b.updates ++ c.updates; versions = b.versions + c.versions }) bs
    else b ∷ (c ∷ bs)

-- the same for the batch that begins behind n commands, if one does
abbrev pub merged : (List Update → Bool) → ℕ → List Batch → List Batch
merged fits n [] = []
merged fits n (b ∷ bs) =
    if n == 0 then take_up fits b bs
    else (if nat_le (length (commands_of b.updates)) n then b ∷ merged fits (n - length (commands_of b.updates)) bs
    else b ∷ bs)
