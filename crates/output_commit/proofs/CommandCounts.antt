-- How many commands there are, and what they make visible.
use Rattle.std.proofs.Common.{◌≡◌, List, [], ◌∷◌, refl, sym, ◌∙◌, arith, length}
use Rattle.writeback_table.specs.declared.command.Update.{Update}
use Rattle.writeback_table.specs.Commands.{commands_of}
use Rattle.output_commit.specs.declared.batches.Batches.{Batches}
use Rattle.output_commit.specs.Batches.{commands_in}
use Rattle.output_commit.specs.Commit.{batch_len, batch_of}
use Rattle.output_commit.specs.Kept.{AreKept, batches_in, spans_in}
use Rattle.writeback_table.proofs.Ons.{length_batch}
use Rattle.output_commit.proofs.SpannedBatches.{AreFull, are_full, total_is}
use Rattle.std.proofs.lemmas.List.{length-append}

pub kept_full : (b : Batches) → AreKept b → AreFull b.updates.items (spans_in b)
kept_full b kept = are_full b.updates.items 0 (spans_in b) (length b.updates.items) (omega arith) kept.joined

pub commands_total : (b : Batches) → AreKept b → length (commands_in (batches_in b)) ≡ b.commands
commands_total b kept = total_is b.updates.items (spans_in b) (kept_full b kept) ∙ sym kept.commands

pub batch_commands : (us : List Update) → length (commands_in (batch_of us)) ≡ batch_len (length us)
batch_commands [] = refl
batch_commands (u ∷ us) =
    let a = length-append (commands_of (u ∷ us)) [] in
    let l = length_batch (u ∷ us) in omega arith
