-- Held outputs, all batches of changes, and how far their commands have come.
use Rattle.std.specs.Prelude.{◌≡◌, ◌≤◌, ℕ, zero, suc, ◌+◌, ◌*◌, ◌==◌, Bool, true, false, ◌&&◌, List, [], ◌∷◌, ◌++◌}
use Rattle.std.specs.Prelude.{Option, Some, None, nat_le, nat_lt, length, slice_get, remove, take, if◌then◌else◌}
use Rattle.std.specs.List.{AllByRecursion as Each}
use Rattle.writeback_table.specs.declared.command.Update.{Update}
use Rattle.writeback_table.specs.declared.command.Command.{Command}
use Rattle.writeback_table.specs.Commands.{bit_through}
use Rattle.output_commit.specs.Batches.{Batch, commands_in, fits, merged, last_of}
use Rattle.output_commit.specs.Batches as batches
use Rattle.output_commit.specs.declared.output.Output.{Output}
use Rattle.output_commit.specs.declared.output.Release.{Release}
use Rattle.output_commit.specs.declared.output.Release.TheVariants.{Frame, NotYet, NoSuch}

pub record Commit : Type 0 where
  -- how many changes of one object a batch may have
  pub writeback : ℕ
  -- all batches so far, and how many of their commands were sent, applied and acknowledged
  pub batches : List Batch
  pub sent : ℕ
  pub done : ℕ
  pub acked : ℕ
  -- the outputs that wait, in the order in which they came
  pub held : List Output

abbrev pub first : ℕ → Commit
first writeback = record { writeback = writeback; batches = []; sent = 0; done = 0; acked = 0; held = [] }

abbrev pub commands : Commit → List Command
commands c = commands_in c.batches

-- the batch of one output: none at all where nothing changed
abbrev pub batch_of : List Update → List Batch
batch_of [] = []
batch_of (update ∷ updates) = (record { updates = update ∷ updates; versions = 1 }) ∷ []

-- how many commands there are for so many changes of one output
abbrev pub batch_len : ℕ → ℕ
batch_len zero = 0
batch_len (suc n) = 3 * suc n + 2

-- the version that lookups on the switch see, and the one that they are known to see
abbrev pub visible : Commit → ℕ
visible c = batches.visible c.batches c.done

abbrev pub acknowledged : Commit → ℕ
acknowledged c = batches.visible c.batches c.acked

-- the bit of the switch, behind the commands that it applied
abbrev pub bit : Commit → Bool
bit c = bit_through false (take c.done (commands c))

-- one more output waits, and the batch of its changes goes behind all others
abbrev pub with_output : Commit → Output → List Update → Commit
with_output c output updates = record c { batches = c.batches ++ batch_of updates; held = c.held ++ output ∷ [] }

-- one more command is sent, where one is left; a batch of which none was sent first takes up those behind it
abbrev pub after_send : Commit → Commit
after_send c =
    if nat_lt c.sent (length (commands c))
    then record c { batches = merged (fits c.writeback) c.sent c.batches; sent = c.sent + 1 } else c

-- the last command that was sent
abbrev pub last_sent : Commit → Option Command
last_sent c = last_of c.batches c.sent

-- the first command that was sent and isn't applied
abbrev pub next : Commit → Option Command
next c = if nat_lt c.done c.sent then slice_get (commands c) c.done else None

abbrev pub after_next : Commit → Commit
after_next c = if nat_lt c.done c.sent then record c { done = c.done + 1 } else c

abbrev pub after_acknowledge : Commit → Commit
after_acknowledge c = if nat_lt c.acked c.done then record c { acked = c.acked + 1 } else c

-- whether an output may go: it need not wait
abbrev pub may_release : Commit → Option Output → Bool
may_release c None = false
may_release c (Some output) = nat_le output.need (acknowledged c)

-- what a release of an output answers, or of none
abbrev pub answer : Commit → Option Output → Release
answer c None = NoSuch (length c.held)
answer c (Some output) =
    if nat_lt (acknowledged c) output.need then NotYet output.need (acknowledged c)
    else Frame output.number output.frame

-- the output at place j is let go where it need not wait
abbrev pub after_release : Commit → ℕ → Option Output → Commit
after_release c j None = c
after_release c j (Some output) = if nat_lt (acknowledged c) output.need then c else record c { held = remove c.held j }

-- nothing waits, and all commands are acknowledged
abbrev pub is_quiet : Commit → Bool
is_quiet c = (length c.held == 0) && (c.acked == length (commands c))

-- only sent commands are applied, and only applied ones are acknowledged
pub record IsInOrder (c : Commit) : Type 0 where
  pub acked_within : c.acked ≤ c.done
  pub done_within : c.done ≤ c.sent
  pub sent_within : c.sent ≤ length (commands c)

-- the write-back tables hold each batch
abbrev pub AreHeld : ℕ → List Batch → Type 0
AreHeld writeback all = Each (λ (b : Batch). fits writeback b.updates ≡ true) all
