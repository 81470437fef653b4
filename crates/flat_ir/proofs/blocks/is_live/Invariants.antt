use Rattle.std.proofs.Common.{◌≡◌, ◌≤◌, length}
use Rattle.flat_ir.specs.Blocks.{is_live}
use Rattle.flat_ir.proofs.blocks.is_live.Given as goal

abbrev pub invariant-loop-number : goal.invariant-loop-number
invariant-loop-number g l =
    (is_live l.blocks (g.R.Numbers.reads l.numbers) l.number ≡ is_live l.blocks (g.R.Numbers.reads l.numbers) l.block) × (l.number ≤ length l.blocks)

abbrev pub decreases-loop-number : goal.decreases-loop-number
decreases-loop-number g l = l.number
