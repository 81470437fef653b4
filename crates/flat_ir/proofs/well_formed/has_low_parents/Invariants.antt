use Rattle.std.proofs.Common.{◌≡◌, true, nat_le}
use Rattle.flat_ir.specs.Blocks.{block_at}
use Rattle.flat_ir.specs.Tests.{all_below}
use Rattle.flat_ir.proofs.well_formed.has_low_parents.Given as goal

abbrev pub invariant-loop-place : goal.invariant-loop-place
invariant-loop-place l = all_below l.place (λ k. nat_le (block_at l.blocks k).parent k) ≡ true
