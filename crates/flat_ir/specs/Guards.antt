-- Which values decide whether a write takes effect.
use Rattle.std.specs.Prelude.{ℕ, zero, suc, Bool, false, ◌&&◌}
use Rattle.std.specs.List.{list_any}
use Rattle.flat_ir.specs.declared.program.ValueId.{ValueId}
use Rattle.flat_ir.specs.Program.{Program, step_at, any_step, is_value}
use Rattle.flat_ir.specs.Blocks.{line, block_at}
use Rattle.flat_ir.specs.Kinds.{is_write}

-- the value is a block's condition; the root has none
abbrev pub is_condition : Program → ValueId → ℕ → Bool
is_condition f v zero = false
is_condition f v (suc k) = is_value v (block_at f.blocks k).cond

-- the value is the condition of the block, or of one above it
abbrev pub decides_on : Program → ValueId → ℕ → Bool
decides_on f v b = list_any (is_condition f v) (line f.blocks b)

-- it decides whether a write takes effect
abbrev pub guards_write : Program → ValueId → Bool
guards_write f v = any_step f (λ i. is_write (step_at f i).work && decides_on f v (step_at f i).block)
