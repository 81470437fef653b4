-- For how long each value of a server's run is needed. What is handed up is written at step 0, and instruction i is
-- step i + 1. One step more reads what is handed down, and what the server sets fields to.
use Rattle.std.specs.Prelude.{ℕ, zero, suc, ◌+◌, ◌==◌, nat_lt, max, Bool, false, ◌&&◌, ◌||◌, if◌then◌else◌}
use Rattle.std.specs.Prelude.{List, [], ◌∷◌, ◌++◌, map, length}
use Rattle.flat_ir.specs.declared.program.FieldValue.{FieldValue}
use Rattle.flat_ir.specs.declared.program.ValueId.{ValueId}
use Rattle.flat_ir.specs.declared.spans.Span.{Span}
use Rattle.flat_ir.specs.Blocks.{block_at, line}
use Rattle.flat_ir.specs.Kinds.{is_input, is_write}
use Rattle.flat_ir.specs.Program.{Program, step_at, operands, result_count}
use Rattle.split_model.specs.declared.split.Part.{Part}
use Rattle.split_model.specs.Layouts.{first_results, number_of, up_values, down_values}
use Rattle.split_model.specs.Passes.{server_fields}
use Rattle.split_model.specs.Split.{is_server}
use Rattle.transfer_header.specs.Steps.{is_among}

-- the server evaluates an instruction: it is the server's, or a const or a field
abbrev pub is_turn : Program → List Part → ℕ → Bool
is_turn f split i = is_input (step_at f i).work || is_server split i

abbrev pub is_taken : Program → List Part → ℕ → Bool
is_taken f split i = nat_lt i (length f.code) && is_turn f split i

-- the values of an instruction
abbrev pub values_at : Program → ℕ → List ValueId
values_at f i = first_results i (result_count f.objects (step_at f i).work)

-- the conditions of some blocks; the root has none
abbrev pub conditions_of : Program → List ℕ → List ValueId
conditions_of f [] = []
conditions_of f (zero ∷ blocks) = conditions_of f blocks
conditions_of f (suc k ∷ blocks) = (block_at f.blocks k).cond ∷ conditions_of f blocks

-- what an instruction reads: its operands, and a write also the conditions of its block and of those above it
abbrev pub values_read : Program → ℕ → List ValueId
values_read f i =
    let one = step_at f i in
    operands one.work ++ (if is_write one.work then conditions_of f (line f.blocks one.block) else [])

-- what is read once all instructions are done
abbrev pub values_kept : Program → List Part → List ValueId
values_kept f split = down_values f split ++ map (λ (w : FieldValue). w.value) (server_fields f split)

abbrev pub numbers_of : Program → List ValueId → List ℕ
numbers_of f values = map (number_of f) values

-- the numbers of the values that a step writes
abbrev pub writes_at : Program → List Part → ℕ → List ℕ
writes_at f split zero = numbers_of f (up_values f split)
writes_at f split (suc i) = if is_taken f split i then numbers_of f (values_at f i) else []

-- a step reads the value of a number
abbrev pub reads_at : Program → List Part → ℕ → ℕ → Bool
reads_at f split zero value = false
reads_at f split (suc i) value =
    (is_taken f split i && is_among value (numbers_of f (values_read f i)))
    || (i == length f.code && is_among value (numbers_of f (values_kept f split)))

-- the last number below a bound that passes a test, 0 where none does
abbrev pub last_below : ℕ → (ℕ → Bool) → ℕ
last_below zero test = 0
last_below (suc n) test = if test n then n else last_below n test

-- the last step that reads a value, 0 where none does
abbrev pub last_read : Program → List Part → ℕ → ℕ
last_read f split value = last_below (length f.code + 2) (λ step. reads_at f split step value)

-- the span of a value that is written at a step; where nothing reads it, it ends there
abbrev pub span_from : Program → List Part → ℕ → ℕ → Span
span_from f split step value = record { value = value; from = step; to = max step (last_read f split value) }

-- the spans of what the first steps write, so many of them
abbrev pub spans_below : Program → List Part → ℕ → List Span
spans_below f split zero = []
spans_below f split (suc step) = spans_below f split step ++ map (span_from f split step) (writes_at f split step)

-- the spans of a server's run
abbrev pub server_spans : Program → List Part → List Span
server_spans f split = spans_below f split (length f.code + 1)
