use Rattle.std.proofs.Common.{◌≡◌, ℕ, suc, Bool, length, take}
use Rattle.std.specs.List.{list_any}
use Rattle.transfer_header.specs.BlockSteps.{greatest, step_if}
use Rattle.switch_ir.proofs.spans.tested_blocks.Given as goal

abbrev pub invariant-loop-block : goal.invariant-loop-block
invariant-loop-block l = record {
  count : length l.steps ≡ suc (length l.pass.blocks);
  steps : (test : ℕ → Bool) → greatest test l.steps ≡ step_if (list_any test (take l.block-index l.block-items)) l.step;
}
