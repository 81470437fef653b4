-- The steps of a server's run, with the places of operands and results among the registers.
use Rattle.std.specs.Prelude.{◌≡◌, ℕ, ◌<◌, List, length, map, slice_index}
use Rattle.std.specs.List.{AllByRecursion as Each}
use Rattle.flat_ir.specs.declared.program.ValueId.{ValueId}
use Rattle.flat_ir.specs.Operands.{CanRun}
use Rattle.flat_ir.specs.Program.{Program, result_count, step_at}
use Rattle.flat_ir.specs.Renaming.{renamed}
use Rattle.transfer_header.specs.Ready.{named, places_of, ready_work}
use Rattle.transfer_header.specs.Registers.{Registers}
use Rattle.server_runtime.specs.declared.plan.PlannedStep.{PlannedStep}
use Rattle.server_runtime.specs.Registers.{place_in, AreSeats}

-- the instructions at which steps are taken
abbrev pub instructions_of : List PlannedStep → List ℕ
instructions_of steps = map (λ (t : PlannedStep). t.instruction) steps

-- a value, named by the place of its number
abbrev pub place_name : Program → Registers → ValueId → ValueId
place_name f registers v = named (place_in f registers v)

-- where the results of instruction i stand
pub record ArePlaces (f : Program) (registers : Registers) (i : ℕ) (places : List ℕ) : Type 0 where
  pub count : length places ≡ result_count f.objects (step_at f i).work
  pub each : (k : ℕ) → k < result_count f.objects (step_at f i).work
      → slice_index places k ≡ place_in f registers (record { instruction = i; result = k })

-- a turn's instruction by place: it does the same with the numbers at the places of its operands
pub record IsResolved (f : Program) (registers : Registers) (t : PlannedStep) : Type 0 where
  pub work : ready_work t.ready.kind ≡ renamed (place_name f registers) (step_at f t.instruction).work
  pub can : CanRun (ready_work t.ready.kind)
  pub places : ArePlaces f registers t.instruction (places_of t.ready.places)

-- what was found beforehand of where numbers stand: for each instruction its first value's, and for each turn those of
-- its operands and results
pub record AreResolved (f : Program) (places : List ℕ) (taken : List PlannedStep) (registers : Registers) : Type 0 where
  pub seats : AreSeats f places registers
  pub steps : Each (IsResolved f registers) taken
