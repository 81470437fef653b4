use Rattle.std.proofs.Common.{◌≡◌, ◌≤◌, length}
use Rattle.flat_ir.specs.Tests.{are_before}
use Rattle.flat_ir.proofs.well_formed.are_before.Given as goal

abbrev pub invariant-loop-number : goal.invariant-loop-number
invariant-loop-number l = (are_before l.blocks l.i l.number ≡ are_before l.blocks l.i l.block) × (l.number ≤ length l.blocks)

abbrev pub decreases-loop-number : goal.decreases-loop-number
decreases-loop-number l = l.number
