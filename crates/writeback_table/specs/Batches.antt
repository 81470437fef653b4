-- Batches of changes one after the other, and what is seen at each point between their commands.
use Rattle.std.specs.Prelude.{◌≡◌, ◌≤◌, ◌<◌, ◌+◌, ◌==◌, ℕ, Bool, true, false, List, [], ◌∷◌, ◌++◌, ⊤, Some, length}
use Rattle.std.specs.Prelude.{take, slice_get, if◌then◌else◌}
use Rattle.std.specs.FinMap as map
use Rattle.state_store.specs.Store.{Contents, Object, Store, object_at}
use Rattle.state_store.specs.declared.object.ObjectDecl.{ObjectDecl}
use Rattle.writeback_table.specs.declared.command.Update.{Update}
use Rattle.writeback_table.specs.declared.command.Command.{Command}
use Rattle.writeback_table.specs.Pair.{Pair, first_pair, visible, changed, takes}
use Rattle.writeback_table.specs.Commands.{commands_of, ons, pair_through, bit_through, room_for}

-- the change of object o by one update, by all of a batch in turn, and by all batches in turn
abbrev pub changed_at : ℕ → Object → Update → Object
changed_at o object update = if update.object == o then changed object update else object

abbrev pub changed_by : ℕ → Object → List Update → Object
changed_by o object [] = object
changed_by o object (update ∷ updates) = changed_by o (changed_at o object update) updates

abbrev pub object_after : ℕ → Object → List (List Update) → Object
object_after o object [] = object
object_after o object (updates ∷ batches) = object_after o (changed_by o object updates) batches

-- whether object o has room for the update, where it is one of this object
abbrev pub takes_at : ℕ → Object → Update → Bool
takes_at o object update = if update.object == o then takes object update else true

-- each update of object o finds room there, in turn
abbrev pub TakesAll : ℕ → Object → List Update → Type 0
TakesAll o object [] = ⊤
TakesAll o object (update ∷ updates) =
    (takes_at o object update ≡ true) × TakesAll o (changed_at o object update) updates

-- how many updates are of object o
abbrev pub count_of : ℕ → List Update → ℕ
count_of o [] = 0
count_of o (update ∷ updates) = (if update.object == o then 1 else 0) + count_of o updates

-- the commands of all batches
abbrev pub all_commands : List (List Update) → List Command
all_commands [] = []
all_commands (updates ∷ batches) = commands_of updates ++ all_commands batches

-- each batch in turn finds room for all of its changes of object o in the main table, and there is room to stage them
abbrev pub AreTaken : ℕ → ℕ → Object → List (List Update) → Type 0
AreTaken o room object [] = ⊤
AreTaken o room object (updates ∷ batches) =
    (count_of o updates ≤ room) × TakesAll o object updates × AreTaken o room (changed_by o object updates) batches

-- nothing is staged, and each batch may come in turn
pub record IsReady (o : ℕ) (pair : Pair) (batches : List (List Update)) : Type 0 where
  pub empty : pair.staged ≡ map.empty
  pub taken : AreTaken o pair.room pair.main batches

-- the table of object o that lookups see after the first n of the commands, from bit 0
abbrev pub seen_after : ℕ → Pair → List Command → ℕ → Contents
seen_after o pair commands n = visible (bit_through false (take n commands)) (pair_through o pair (take n commands))

-- after the first n of the commands, lookups of the marked objects see those of a store
abbrev pub LookupsSee : (ℕ → Bool) → List ObjectDecl → ℕ → List Command → ℕ → Store → Type 0
LookupsSee marked objects writeback commands n store = (o : ℕ) → marked o ≡ true
    → seen_after o (first_pair objects writeback o) commands n ≡ (object_at store o).contents

-- What is seen of object o while the commands of the batches are applied one by one.
pub record IsSeenInOrder (o : ℕ) (pair : Pair) (batches : List (List Update)) : Type 0 where
  -- after each number of commands, lookups see the object after as many batches as set the bit by then
  pub seen : (n : ℕ) → seen_after o pair (all_commands batches) n
      ≡ (object_after o pair.main (take (ons (take n (all_commands batches))) batches)).contents
  -- no command meets a full table
  pub room : (n : ℕ) (command : Command) → slice_get (all_commands batches) n ≡ Some command
      → room_for o (pair_through o pair (take n (all_commands batches))) command ≡ true
  -- after the last command the main table is the object after all batches, and nothing is staged
  pub pair_ends : pair_through o pair (all_commands batches) ≡ record pair { main = object_after o pair.main batches }
  -- the bit is clear then
  pub bit_ends : bit_through false (all_commands batches) ≡ false
  -- and all batches set it, each once
  pub all : ons (all_commands batches) ≡ length batches

-- What is seen of object o while the commands of one batch are applied one by one.
pub record IsSeenAtOnce (o : ℕ) (pair : Pair) (updates : List Update) : Type 0 where
  -- up to the command that sets the bit it is the old table
  pub before : (n : ℕ) → n ≤ length updates → seen_after o pair (commands_of updates) n ≡ pair.main.contents
  -- and from there on it is the new one
  pub after : (n : ℕ) → length updates < n
      → seen_after o pair (commands_of updates) n ≡ (changed_by o pair.main updates).contents
