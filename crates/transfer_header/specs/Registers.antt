-- Registers: numbers of a program's values, in order of instruction and result, or as a plan places them.
use Rattle.std.specs.Prelude.{◌≡◌, ◌≢◌, ℕ, ◌^◌, ◌<◌, nat_lt, if◌then◌else◌, List, length, slice_index}
use Rattle.std.specs.Prelude.{slice_set, Option, Some, None, IsSome, refl}
use Rattle.std.specs.Coded.{Coded, code_by, coded×, coded_ℕ, coded_list, coded_option}
use Rattle.std.specs.List.{All, AllPairs}
use Rattle.flat_ir.specs.Blocks.{Reading}
use Rattle.flat_ir.specs.Plan.{RegisterPlan, plan_code, register_of}
use Rattle.flat_ir.specs.Program.{Program}
use Rattle.split_model.specs.declared.layout.Crossing.{Crossing}
use Rattle.split_model.specs.Layouts.{number_of}
use Rattle.transfer_header.specs.Values.{Agree, value_by}

-- ## Numbers and their places

-- numbers, and a plan of which value has which of them; without a plan each value has the one at its own place
pub record Registers : Type 0 where
  pub plan : Option RegisterPlan
  pub numbers : List ℕ

abbrev pub registers_code : Coded Registers
registers_code =
    code_by (Option RegisterPlan × List ℕ) (coded× (coded_option plan_code) (coded_list coded_ℕ))
    (λ r. (r.plan, r.numbers)) (λ p. record { plan = p.0; numbers = p.1 }) (λ _. refl)

abbrev pub place_by : Option RegisterPlan → ℕ → ℕ → Option ℕ
place_by None count value = if nat_lt value count then Some value else None
place_by (Some plan) count value = register_of plan value

-- where the number of a value stands, if it has one
abbrev pub place_of : Registers → ℕ → Option ℕ
place_of registers value = place_by registers.plan (length registers.numbers) value

abbrev pub HasRegister : Registers → ℕ → Type 0
HasRegister registers value = IsSome (place_of registers value)

abbrev pub number_by : List ℕ → Option ℕ → ℕ
number_by numbers None = 0
number_by numbers (Some place) = slice_index numbers place

-- the number in a value's register, 0 where it has none
abbrev pub content_of : Registers → ℕ → ℕ
content_of registers value = number_by registers.numbers (place_of registers value)

abbrev pub set_by : List ℕ → Option ℕ → ℕ → List ℕ
set_by numbers None to = numbers
set_by numbers (Some place) to = slice_set numbers place to

-- the registers with another number for a value
abbrev pub written : Registers → ℕ → ℕ → Registers
written registers value to = record {
  plan = registers.plan;
  numbers = set_by registers.numbers (place_of registers value) to;
}

-- the registers with another number at a place
abbrev pub placed : Registers → ℕ → ℕ → Registers
placed registers place to = record { plan = registers.plan; numbers = slice_set registers.numbers place to }

-- each value that has a register has a number
abbrev pub ArePlaced : Registers → Type 0
ArePlaced registers = (value place : ℕ) → place_of registers value ≡ Some place → place < length registers.numbers

pub record AreRegisters (registers : Registers) : Type 0 where
  pub placed : ArePlaced registers
  pub few : length registers.numbers < 2 ^ 32

-- ## The values of a program and of a layout

-- the number of a value of a layout
abbrev pub value_in : Registers → Crossing → ℕ
value_in registers c = content_of registers c.number

-- the number of each value of a program
abbrev pub reads_of : Program → Registers → Reading
reads_of f registers v = content_of registers (number_of f v)

-- of the values of a layout, the registers hold the numbers of a reading
abbrev pub Holds : List Crossing → Registers → Reading → Type 0
Holds layout registers reads = Agree layout (value_in registers) (value_by reads)

-- the values of a layout stand at rising numbers
abbrev pub IsRising : List Crossing → Type 0
IsRising layout = AllPairs (λ a b. a.number < b.number) layout

-- each value of a layout has a register
abbrev pub AllHaveRegisters : List Crossing → Registers → Type 0
AllHaveRegisters layout registers = All (λ c. HasRegister registers c.number) layout

-- each value of a layout has a register, and no two have the same
pub record FitsLayout (layout : List Crossing) (registers : Registers) : Type 0 where
  pub rising : IsRising layout
  pub among : AllHaveRegisters layout registers
  pub apart : AllPairs (λ a b. place_of registers a.number ≢ place_of registers b.number) layout

-- only the registers of a layout's values may have changed
pub record ChangesOnly (layout : List Crossing) (before after : Registers) : Type 0 where
  pub plan : after.plan ≡ before.plan
  pub count : length after.numbers ≡ length before.numbers
  pub others : (value : ℕ) → All (λ c. place_of before c.number ≢ place_of before value) layout
      → content_of after value ≡ content_of before value
