use Rattle.std.proofs.Common.{◌≡◌, ◌≤◌, length}
use Rattle.flat_ir.specs.Blocks.{is_above}
use Rattle.flat_ir.proofs.blocks.is_above.Given as goal

abbrev pub invariant-loop-number : goal.invariant-loop-number
invariant-loop-number l = (is_above l.blocks l.above l.number ≡ is_above l.blocks l.above l.block) × (l.number ≤ length l.blocks)

abbrev pub decreases-loop-number : goal.decreases-loop-number
decreases-loop-number l = l.number
