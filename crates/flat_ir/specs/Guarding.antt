-- Only proofs need this. The values that decide on writes, found from the last block to the first.
use Rattle.std.specs.Prelude.{◌≡◌, ℕ, suc, ◌+◌, ◌<◌, ◌≤◌, ◌==◌, Bool, true, false, ◌&&◌, List, length, slice_index_or}
use Rattle.flat_ir.specs.declared.program.ValueId.{ValueId}
use Rattle.flat_ir.specs.Program.{Program, step_at, any_below, is_among}
use Rattle.flat_ir.specs.Blocks.{block_at}
use Rattle.flat_ir.specs.Kinds.{is_write}
use Rattle.flat_ir.specs.Guards.{decides_on, guards_write}

-- one of the first n instructions is a write in block b
abbrev pub is_written_in : Program → ℕ → ℕ → Bool
is_written_in f n b = any_below n (λ i. is_write (step_at f i).work && ((step_at f i).block == b))

-- the marks say of each block, the root first, whether one of the first n instructions is a write in it
pub record AreWriteBlocks (f : Program) (n : ℕ) (marks : List Bool) : Type 0 where
  pub count : length marks ≡ length f.blocks + 1
  pub exact : (b : ℕ) → b ≤ length f.blocks → slice_index_or marks b false ≡ is_written_in f n b

-- what is known once the blocks above number b are done
pub record AreGuardsFrom (f : Program) (b : ℕ) (covering : List Bool) (found : List ValueId) : Type 0 where
  pub blocks : length covering ≡ length f.blocks + 1
  pub writes : (i : ℕ) → i < length f.code → is_write (step_at f i).work ≡ true
      → slice_index_or covering (step_at f i).block false ≡ true
  pub up : (k : ℕ) → b ≤ k → k < length f.blocks → slice_index_or covering (suc k) false ≡ true
      → slice_index_or covering (block_at f.blocks k).parent false ≡ true
  pub has : (k : ℕ) → b ≤ k → k < length f.blocks → slice_index_or covering (suc k) false ≡ true
      → is_among (block_at f.blocks k).cond found ≡ true
  pub covers : (d : ℕ) (v : ValueId) → slice_index_or covering d false ≡ true → decides_on f v d ≡ true
      → guards_write f v ≡ true
  pub sound : (v : ValueId) → is_among v found ≡ true → guards_write f v ≡ true
  pub inside : (v : ValueId) → is_among v found ≡ true → v.instruction < length f.code
