-- The numbers of a program's values, in registers.
use Rattle.std.specs.Prelude.{◌≡◌, ℕ, suc, ◌+◌, ◌-◌, ◌^◌, ◌<◌, ◌≤◌, List, length, slice_get, slice_index, Option, Some, None, if◌then◌else◌, unwrap_or}
use Rattle.flat_ir.specs.declared.program.ValueId.{ValueId}
use Rattle.flat_ir.specs.Blocks.{Reading}
use Rattle.flat_ir.specs.Program.{Program, is_named, result_count, step_at}
use Rattle.split_model.specs.declared.split.Part.{Part}
use Rattle.split_model.specs.Crossing.{crosses_up}
use Rattle.split_model.specs.Layouts.{number_of, values_below, values_of}
use Rattle.transfer_header.specs.Registers.{Registers, content_of, place_of, ArePlaced, HasRegister}
use Rattle.transfer_header.specs.Steps.{Contents, all_written, AreKeptApart}
use Rattle.server_runtime.specs.Spans.{numbers_of, server_spans, values_at}

-- the number of each value by the numbers of values; 0 where the program has no such value
abbrev pub reading_of : Program → Contents → Reading
reading_of f contents v = if is_named f v then contents (number_of f v) else 0

-- the number in each value's register
abbrev pub register_reads : Program → Registers → Reading
register_reads f registers = reading_of f (content_of registers)

-- the number of a value, 0 where there is none
abbrev pub number_by : Reading → Option ValueId → ℕ
number_by reads None = 0
number_by reads (Some v) = reads v

-- the numbers of a reading, by the numbers of values
abbrev pub contents_of : Program → Reading → Contents
contents_of f reads n = number_by reads (slice_get (values_of f) n)

-- what the registers hold of the values that are handed up, and 0 for all others
abbrev pub handed : Program → List Part → Registers → Reading
handed f split registers v = if crosses_up f split v then content_of registers (number_of f v) else 0

-- the values of an instruction have registers
abbrev pub HaveRegisters : Program → ℕ → Registers → Type 0
HaveRegisters f i registers = (place : ℕ) → place < result_count f.objects (step_at f i).work
    → HasRegister registers (length (values_below f i) + place)

-- the registers once an instruction's values have these numbers
abbrev pub with_row : Program → ℕ → List ℕ → Registers → Registers
with_row f i row registers =
    all_written registers (numbers_of f (values_at f i)) (λ n. slice_index row (n - length (values_below f i)))

-- registers in which the values of a server's run are computed
pub record AreServing (f : Program) (split : List Part) (registers : Registers) : Type 0 where
  pub apart : AreKeptApart (server_spans f split) registers
  pub placed : ArePlaced registers

-- each instruction's first value, by its number, and behind them the number of all values
pub record AreFirsts (f : Program) (firsts : List ℕ) : Type 0 where
  pub count : length firsts ≡ suc (length f.code)
  pub each : (i : ℕ) → i ≤ length f.code → slice_index firsts i ≡ length (values_below f i)

-- a place past all registers
abbrev pub no_place : ℕ
no_place = 2 ^ 32 - 1

-- where the number of a value stands among the registers, past all of them if nowhere
abbrev pub place_in : Program → Registers → ValueId → ℕ
place_in f registers v = unwrap_or (if is_named f v then place_of registers (number_of f v) else None) no_place

-- an instruction's first value
abbrev pub first_of : ℕ → ValueId
first_of i = record { instruction = i; result = 0 }

-- where the number of an instruction's first value stands
abbrev pub seat_in : Program → Registers → ℕ → ℕ
seat_in f registers i = place_in f registers (first_of i)

-- for each instruction, where the number of its first value stands
pub record AreSeats (f : Program) (seats : List ℕ) (registers : Registers) : Type 0 where
  pub count : length seats ≡ length f.code
  pub each : (i : ℕ) → i < length f.code → slice_index seats i ≡ seat_in f registers i
