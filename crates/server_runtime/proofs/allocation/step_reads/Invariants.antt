use Rattle.std.proofs.Common.{◌≡◌, ◌<◌, ℕ, suc, Bool, length, get_or}
use Rattle.flat_ir.specs.Program.{program_of}
use Rattle.split_model.specs.Layouts.{values_of}
use Rattle.transfer_header.specs.BlockSteps.{greatest}
use Rattle.server_runtime.specs.Noting.{is_operand_at, is_written_at}
use Rattle.server_runtime.specs.Spans.{last_below}
use Rattle.server_runtime.proofs.allocation.step_reads.Given as goal

abbrev pub invariant-loop-i : goal.invariant-loop-i
invariant-loop-i l = record {
  blocks : length l.blocks ≡ suc (length l.whole.flat.blocks);
  count : length l.last.items ≡ length (values_of (program_of l.whole.flat));
  writes : (test : ℕ → Bool) → greatest test l.blocks ≡ last_below (suc l.i) (is_written_at (program_of l.whole.flat) l.whole.split test);
  last : (n : ℕ) → n < length (values_of (program_of l.whole.flat))
      → get_or l.last.items n 0 ≡ last_below (suc l.i) (is_operand_at (program_of l.whole.flat) l.whole.split n);
}
