use Rattle.std.proofs.Common.{◌≡◌, ℕ, List, sym, subst}
use Rattle.transfer_header.specs.BlockSteps.{greatest}
use Rattle.transfer_header.proofs.SweptBlocks.{none}
use Rattle.transfer_header.proofs.block_steps.BlockSteps.new.Goals as goal

pub returns-clause-none : goal.returns-clause-none
returns-clause-none c = λ test. subst (λ (l : List ℕ). greatest test l ≡ 0) (sym (c.in_ok-steps.ensures.items_if_clones_equal (λ x e. e))) (none test _ _)
