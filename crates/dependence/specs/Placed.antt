-- Only proofs need this. What the scans rest on, of a program that is well formed.
use Rattle.std.specs.Prelude.{ℕ, ◌<◌, ◌≤◌, length}
use Rattle.flat_ir.specs.Program.{Program, Step, operands}
use Rattle.flat_ir.specs.Blocks.{block_at}
use Rattle.flat_ir.specs.Sets.{IsAt, Reads}

-- Operands stand before their readers and blocks below their parents, and what is named is there.
pub record IsPlaced (f : Program) : Type 0 where
  pub operands : (i j : ℕ) (one : Step) → IsAt f i one → Reads (operands one.work) j → j < i
  pub blocks : (i : ℕ) (one : Step) → IsAt f i one → one.block ≤ length f.blocks
  pub parents : (k : ℕ) → k < length f.blocks → (block_at f.blocks k).parent ≤ k
  pub conditions : (k : ℕ) → k < length f.blocks → (block_at f.blocks k).cond.instruction < length f.code
