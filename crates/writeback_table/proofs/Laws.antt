-- What holds of every pair of tables and of every list of batches, as the definitions give it.
use Rattle.std.specs.FinMap as map
use Rattle.std.proofs.Common.{refl}
use Rattle.std.specs.Prelude.{List, None, Option, Some, [], false, length, true, ℕ, ◌++◌, ◌∷◌, ◌≡◌, ◌≤◌}
use Rattle.state_store.proofs.Laws.{rows_change_alone-del, rows_change_alone-put}
use Rattle.state_store.specs.Store.{Object, look}
use Rattle.writeback_table.proofs.Histories.{all_versions, more_commands, more_object, more_ready, once, one_seen, seen_in_order}
use Rattle.writeback_table.proofs.Slots.{seen_other, seen_staged}
use Rattle.writeback_table.specs.Batches.{IsReady, IsSeenAtOnce, IsSeenInOrder, TakesAll, all_commands, changed_by, count_of, object_after}
use Rattle.writeback_table.specs.Commands.{commands_of, one_each, ons, versions, versions_on}
use Rattle.writeback_table.specs.Pair.{Pair, seen}
use Rattle.writeback_table.specs.declared.command.Command.{Command}
use Rattle.writeback_table.specs.declared.command.Update.{Update}

-- With bit 0 a lookup sees the main table. With bit 1 it sees what is staged under a key, which may be that the key is
-- gone, and what the main table has under every other key.
pub what_a_lookup_sees-main : (pair : Pair) (key : List ℕ) → seen false pair key ≡ look pair.main key
what_a_lookup_sees-main pair key = refl

pub what_a_lookup_sees-staged : (pair : Pair) (key : List ℕ) (row : Option (List ℕ))
    → map.get pair.staged key ≡ Some row → seen true pair key ≡ row
what_a_lookup_sees-staged = seen_staged

pub what_a_lookup_sees-others : (pair : Pair) (key : List ℕ)
    → map.get pair.staged key ≡ None → seen true pair key ≡ look pair.main key
what_a_lookup_sees-others = seen_other

-- While the commands of batches are applied one by one, lookups see at each point the table after as many batches as
-- set the bit by then. No command meets a full table, and after the last one nothing is staged.
pub batches_are_seen_in_order : (o : ℕ) (pair : Pair) (batches : List (List Update))
    → IsReady o pair batches → IsSeenInOrder o pair batches
batches_are_seen_in_order = seen_in_order (record { put = rows_change_alone-put; del = rows_change_alone-del })

-- Of the commands of a batch only the one that sets the bit changes what lookups see, and it shows all changes of the
-- batch.
pub a_batch_is_seen_at_once : (o : ℕ) (pair : Pair) (updates : List Update)
    → IsReady o pair (updates ∷ []) → IsSeenAtOnce o pair updates
a_batch_is_seen_at_once = one_seen (record { put = rows_change_alone-put; del = rows_change_alone-del })

-- One batch more goes behind the others where the object after these takes each of its changes in turn.
pub one_batch_more-ready : (o : ℕ) (pair : Pair) (batches : List (List Update)) (updates : List Update)
    → IsReady o pair batches → count_of o updates ≤ pair.room
    → TakesAll o (object_after o pair.main batches) updates → IsReady o pair (batches ++ updates ∷ [])
one_batch_more-ready = more_ready

pub one_batch_more-object : (o : ℕ) (object : Object) (batches : List (List Update)) (updates : List Update)
    → object_after o object (batches ++ updates ∷ []) ≡ changed_by o (object_after o object batches) updates
one_batch_more-object = more_object

pub one_batch_more-commands : (batches : List (List Update)) (updates : List Update)
    → all_commands (batches ++ updates ∷ []) ≡ all_commands batches ++ commands_of updates
one_batch_more-commands = more_commands

-- All commands of batches make visible the versions of all of them, whatever each counts for. Where each makes one
-- version, these are as many as the commands that set the bit.
pub versions_count_the_bit-all : (weight : ℕ → ℕ) (batches : List (List Update))
    → versions_on weight (all_commands batches) ≡ versions weight (length batches)
versions_count_the_bit-all = all_versions

pub versions_count_the_bit-one_each : (commands : List Command) → versions_on one_each commands ≡ ons commands
versions_count_the_bit-one_each = λ commands. once (ons commands)
