-- Only proofs need this. The set of postprocessing, found from the last instruction to the first.
use Rattle.std.specs.Prelude.{◌≡◌, ℕ, ◌≤◌, List, Bool, length}
use Rattle.flat_ir.specs.Program.{Program}
use Rattle.flat_ir.specs.Sets.{IsMarked, IsPostClosed}

-- what is known once the instructions from i on are placed: they are closed, and have all that is closed
pub record IsPostFrom (f : Program) (carried : List Bool) (i : ℕ) (post : List Bool) : Type 0 where
  pub count : length post ≡ length f.code
  pub closed : IsPostClosed f carried post
  pub greatest : (others : List Bool) → IsPostClosed f carried others → (j : ℕ) → i ≤ j → IsMarked others j
      → IsMarked post j
