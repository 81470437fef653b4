-- Only proofs need this. What is noted of the steps of a server's run: which operands an instruction reads, and in which
-- block a write stands.
use Rattle.std.specs.Prelude.{ℕ, zero, suc, ◌==◌, Bool, false, ◌&&◌, List}
use Rattle.flat_ir.specs.Blocks.{block_at}
use Rattle.flat_ir.specs.Kinds.{is_write}
use Rattle.flat_ir.specs.Program.{Program, step_at, operands}
use Rattle.split_model.specs.declared.split.Part.{Part}
use Rattle.split_model.specs.Layouts.{number_of}
use Rattle.transfer_header.specs.Steps.{is_among}
use Rattle.server_runtime.specs.Spans.{is_taken, numbers_of}

-- a value of this number is an operand of the instruction of a step
abbrev pub is_operand_at : Program → List Part → ℕ → ℕ → Bool
is_operand_at f split n zero = false
is_operand_at f split n (suc i) = is_taken f split i && is_among n (numbers_of f (operands (step_at f i).work))

-- the instruction of a step is a write in a block that passes a test
abbrev pub is_written_at : Program → List Part → (ℕ → Bool) → ℕ → Bool
is_written_at f split test zero = false
is_written_at f split test (suc i) =
    is_taken f split i && (is_write (step_at f i).work && test (step_at f i).block)

-- a value of this number is a block's condition; the root has none
abbrev pub is_condition_of : Program → ℕ → ℕ → Bool
is_condition_of f n zero = false
is_condition_of f n (suc k) = number_of f (block_at f.blocks k).cond == n
