use Rattle.std.proofs.Common.{◌≡◌, ◌<◌, ℕ, suc, max, length, get_or}
use Rattle.flat_ir.specs.Program.{program_of}
use Rattle.transfer_header.specs.BlockSteps.{greatest_below}
use Rattle.server_runtime.specs.Noting.{is_condition_of}
use Rattle.server_runtime.proofs.allocation.note_conditions.Given as goal

abbrev pub invariant-loop-place : goal.invariant-loop-place
invariant-loop-place l = record {
  count : length l.last.items ≡ length l.initial.last.items;
  last : (n : ℕ) → n < length l.initial.last.items
      → get_or l.last.items n 0 ≡ max (get_or l.initial.last.items n 0) (greatest_below (suc l.place) (is_condition_of (program_of l.whole.flat) n) l.blocks);
}
