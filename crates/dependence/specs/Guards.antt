-- Which instructions decide whether a write takes effect.
use Rattle.std.specs.Prelude.{◌≡◌, ℕ, List, Bool, length}
use Rattle.flat_ir.specs.Program.{Program}
use Rattle.flat_ir.specs.Sets.{IsMarked, IsGuard}

-- the marks are on the instructions that have a result in the block chain of a write
pub record AreGuards (f : Program) (marks : List Bool) : Type 0 where
  pub count : length marks ≡ length f.code
  pub sound : (j : ℕ) → IsMarked marks j → IsGuard f j
  pub complete : (j : ℕ) → IsGuard f j → IsMarked marks j
