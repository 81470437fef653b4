-- When values are read last, as a number for each of the first 9 results of each instruction.
use Rattle.std.specs.Prelude.{◌≡◌, ◌≤◌, ◌<◌, ℕ, ◌+◌, ◌*◌, ◌^◌, Bool, List, length, max}
use Rattle.std.specs.Prelude.{slice_index}
use Rattle.std.specs.List.{AllByRecursion as Each, All}
use Rattle.state_store.specs.declared.object.ObjectDecl.{ObjectDecl}
use Rattle.flat_ir.specs.declared.program.ValueId.{ValueId}
use Rattle.flat_ir.specs.Blocks.{HasLowParents}
use Rattle.split_model.specs.declared.layout.Crossing.{Crossing}
use Rattle.transfer_header.specs.BlockSteps.{step_if}
use Rattle.switch_ir.specs.declared.code.Table.{Table}
use Rattle.switch_ir.specs.Passes.{PassCode}
use Rattle.switch_ir.specs.Spans.{written_in, AreNumbered, GoesByStages, Written}

abbrev pub noted : List ℕ → ValueId → ℕ
noted steps v = slice_index steps (9 * v.instruction + v.result)

-- n instructions have numbers, which say of each value when it is read last
pub record AreNoted (n : ℕ) (last : ValueId → ℕ) (steps : List ℕ) : Type 0 where
  pub count : length steps ≡ 9 * n
  pub exact : (v : ValueId) → v.instruction < n → v.result < 9 → noted steps v ≡ last v

-- the numbers after are those before, but that each value is read at this step besides
abbrev pub Adds : (ValueId → ℕ) → List ℕ → List ℕ → Type 0
Adds more before after =
    (n : ℕ) (last : ValueId → ℕ) → AreNoted n last before → AreNoted n (λ v. max (last v) (more v)) after

-- values of this test are read at this step besides
abbrev pub Raises : (ValueId → Bool) → ℕ → List ℕ → List ℕ → Type 0
Raises test step = Adds (λ v. step_if (test v) step)

-- values that have a number there
abbrev pub IsInside : ℕ → Written → Type 0
IsInside n w = (w.value.instruction < n) × (w.value.result < 9)

abbrev pub AreInside : ℕ → List Written → Type 0
AreInside n had = Each (IsInside n) had

-- what the spans of a pass of n instructions ask of it
pub record CanBePlanned (tables : List Table) (handed : List Crossing) (pass : PassCode) (n : ℕ) : Type 0 where
  pub stages : GoesByStages (written_in tables handed pass) pass
  pub inside : AreInside n (written_in tables handed pass)
  pub numbers : AreNumbered (2 ^ 32) (written_in tables handed pass)
  pub few : length (written_in tables handed pass) < 2 ^ 32
  pub parents : HasLowParents pass.blocks
  pub rest : Each (λ b. b ≤ length pass.blocks) pass.rest
  pub instructions : n < 2 ^ 32
  pub highest : pass.highest + 1 < 2 ^ 32

-- no object has values of more than 8 numbers
abbrev pub HaveFewValues : List ObjectDecl → Type 0
HaveFewValues objects = All (λ d. length d.values ≤ 8) objects
