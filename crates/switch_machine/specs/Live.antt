-- Which blocks are live, in one list.
use Rattle.std.specs.Prelude.{◌≡◌, ◌≤◌, ℕ, suc, Bool, false, List, length, slice_index_or}
use Rattle.flat_ir.specs.declared.program.Block.{Block}
use Rattle.flat_ir.specs.Blocks.{Reading, is_live}

-- the root and each block has a mark, which says whether it is live
pub record AreLive (blocks : List Block) (reads : Reading) (marks : List Bool) : Type 0 where
  pub count : length marks ≡ suc (length blocks)
  pub exact : (b : ℕ) → b ≤ length blocks → slice_index_or marks b false ≡ is_live blocks reads b
