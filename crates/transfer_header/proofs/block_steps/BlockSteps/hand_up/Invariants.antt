use Rattle.std.proofs.Common.{◌≡◌, ◌≤◌, ℕ, Bool, length}
use Rattle.std.specs.List.{list_any}
use Rattle.flat_ir.specs.Blocks.{line}
use Rattle.transfer_header.specs.BlockSteps.{greatest}
use Rattle.transfer_header.proofs.SweptBlocks.{swept}
use Rattle.transfer_header.proofs.block_steps.BlockSteps.hand_up.Given as goal

abbrev pub invariant-loop-block : goal.invariant-loop-block
invariant-loop-block l = record {
  inside : l.block ≤ length l.blocks;
  count : length l.self ≡ length l.initial.self;
  greatest : (test : ℕ → Bool) → greatest (swept l.blocks test l.block) l.self ≡ greatest (λ b. list_any test (line l.blocks b)) l.initial.self;
}

abbrev pub decreases-loop-block : goal.decreases-loop-block
decreases-loop-block l = l.block
