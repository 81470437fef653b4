-- What lookups see in the tables that the switch keeps of replicated objects.
use Rattle.std.specs.Prelude.{◌≡◌, ℕ, true, false, Some, slice_get}
use Rattle.std.specs.FinMap as map
use Rattle.state_store.specs.Store.{Store, object_at}
use Rattle.writeback_table.specs.declared.command.Command.{Command}
use Rattle.writeback_table.specs.Pair.{Pair, first_pair}
use Rattle.writeback_table.specs.Commands.{pair_through, room_for}
use Rattle.writeback_table.specs.Batches.{LookupsSee}
use Rattle.replay_state.specs.Answers.{Setup}
use Rattle.output_commit.specs.Batches.{commands_in}
use Rattle.replay_state.specs.State.{State, applied_commands, store_at, seen, bit_behind}

-- its tables after the commands that were applied
abbrev pub pair_now : Setup → State → ℕ → Pair
pair_now setup st o = pair_through o (first_pair setup.objects setup.writeback o) (applied_commands st)

-- lookups of replicated objects see those of a store
abbrev pub LookupsShow : Setup → State → Store → Type 0
LookupsShow setup st store = LookupsSee setup.replicated setup.objects setup.writeback (commands_in st.batches) st.done store

pub record IsSeen (setup : Setup) (st : State) : Type 0 where
  -- lookups see the objects of the visible version
  pub shows : LookupsShow setup st (store_at st.stores (seen st))
  -- the next command finds room
  pub room : (o : ℕ) (command : Command) → setup.replicated o ≡ true
      → slice_get (commands_in st.batches) st.done ≡ Some command
      → room_for o (pair_now setup st o) command ≡ true

-- The bit is clear, each replicated object of the server is its main table, and nothing is staged.
pub record HasNewestTables (setup : Setup) (st : State) : Type 0 where
  pub bit : bit_behind st.batches st.done ≡ false
  pub each : (o : ℕ) → setup.replicated o ≡ true
      → pair_now setup st o ≡ record { main = object_at st.store o; staged = map.empty; room = setup.writeback }
