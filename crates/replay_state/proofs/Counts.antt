-- The counts of a state.
use Rattle.std.proofs.Common.{◌≡◌, ℕ, ◌+◌, ◌*◌, ◌≤◌, List, [], ◌∷◌, ◌++◌, ap, arith, length}
use Rattle.std.proofs.lemmas.List.{length-append}
use Rattle.state_store.specs.Store.{Store}
use Rattle.writeback_table.specs.Commands.{commands_of}
use Rattle.output_commit.specs.Batches.{Batch, commands_in}
use Rattle.output_commit.specs.Laws.{versions_in}
use Rattle.output_commit.proofs.MergedBatches.{push_commands}
use Rattle.writeback_table.proofs.Ons.{length_batch}
use Rattle.replay_state.specs.State.{State}

-- a batch more has so many commands more
pub length_more : (bs : List Batch) (b : Batch) → length (commands_in (bs ++ b ∷ [])) ≡ length (commands_in bs) + (3 * length b.updates + 2)
length_more bs b =
    let all = ap length (push_commands bs (b ∷ [])) in
    let parts = length-append (commands_in bs) (commands_in (b ∷ [])) in
    let one = length-append (commands_of b.updates) [] in
    let l = length_batch b.updates in
    omega arith

pub record Counted (batches : List Batch) (version : ℕ) (stores : List Store) (sent done acked : ℕ) : Type 0 where
  pub versions : versions_in batches ≡ version
  pub all : length stores ≡ version + 1
  pub sent_in : sent ≤ length (commands_in batches)
  pub done_in : done ≤ sent
  pub acked_in : acked ≤ done

abbrev pub AreCounted : State → Type 0
AreCounted w = Counted w.batches w.version w.stores w.sent w.done w.acked
