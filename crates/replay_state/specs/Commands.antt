-- Commands by what they are, and those that were applied.
use Rattle.std.specs.Prelude.{ℕ, ◌+◌, List, [], ◌∷◌, Option, Some, None, if◌then◌else◌, slice_get}
use Rattle.writeback_table.specs.declared.command.Command.{Command}
use Rattle.writeback_table.specs.declared.command.Command.TheVariants.{Off}
use Rattle.run_model.specs.declared.event.Event.{Event}
use Rattle.run_model.specs.declared.event.Event.TheVariants as event
use Rattle.replay_state.specs.Answers.{Setup}
use Rattle.output_commit.specs.Batches.{commands_in}
use Rattle.replay_state.specs.State.{State}
use Rattle.replay_state.specs.Step.{applies}

abbrev pub counts_off : Command → ℕ
counts_off Off = 1
counts_off command = 0

-- how many of the commands clear the bit
abbrev pub offs : List Command → ℕ
offs [] = 0
offs (command ∷ commands) = counts_off command + offs commands

-- ## Commands that were applied

abbrev pub one_or_none : Option Command → List Command
one_or_none None = []
one_or_none (Some command) = command ∷ []

abbrev pub commands_at : State → Event → List Command
commands_at st event.Apply = one_or_none (slice_get (commands_in st.batches) st.done)
commands_at st event = []

-- the commands that an event applies
abbrev pub applied_by : Setup → State → Event → List Command
applied_by setup st event = if applies setup st event then commands_at st event else []
