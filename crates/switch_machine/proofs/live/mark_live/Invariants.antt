use Rattle.std.proofs.Common.{◌≡◌, ℕ, suc, ◌≤◌, false, length, get_or}
use Rattle.flat_ir.specs.Blocks.{is_live}
use Rattle.switch_machine.proofs.live.mark_live.Given as goal

abbrev pub invariant-loop-index : goal.invariant-loop-index
invariant-loop-index g l = record {
  count : length l.marks.items ≡ suc (length l.blocks);
  exact : (b : ℕ) → b ≤ l.index → get_or l.marks.items b false ≡ is_live l.blocks (g.R.Numbers.reads l.numbers) b;
}
