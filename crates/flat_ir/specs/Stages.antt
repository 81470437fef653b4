-- Stages of a pass, and depths.
use Rattle.std.specs.Prelude.{◌≡◌, ℕ, suc, ◌<◌, Bool, true, false, List, [], ◌∷◌, max, slice_index_or, slice_index}
use Rattle.std.specs.Prelude.{length, if◌then◌else◌}
use Rattle.flat_ir.specs.declared.program.ValueId.{ValueId}
use Rattle.flat_ir.specs.Program.{Program, Step, operands}
use Rattle.flat_ir.specs.Kinds.{is_input}
use Rattle.flat_ir.specs.Sets.{IsMarked, IsAt, Reads}

-- the greatest depth among these values, of those that the pass computes; 0 where there are none
abbrev pub deepest : List Bool → List ℕ → List ValueId → ℕ
deepest members depths [] = 0
deepest members depths (v ∷ vs) =
    max (if slice_index_or members v.instruction false then slice_index depths v.instruction else 0)
    (deepest members depths vs)

-- the depth of an instruction of the pass: 0 of a const or a field, and else 1 more than that of its deepest operand
abbrev pub depth_of : List Bool → List ℕ → Step → ℕ
depth_of members depths one = if is_input one.work then 0 else suc (deepest members depths (operands one.work))

-- a depth for each instruction: 0 where the pass doesn't compute it
pub record IsDepths (f : Program) (members : List Bool) (depths : List ℕ) : Type 0 where
  pub count : length depths ≡ length f.code
  pub others : (i : ℕ) → slice_index_or members i false ≡ false → slice_index depths i ≡ 0
  pub depth : (i : ℕ) (one : Step) → IsMarked members i → IsAt f i one
      → slice_index depths i ≡ depth_of members depths one

-- stages that a pass may have: 0 for a const or a field, and else more than 0 and than those of the operands that it
-- computes
pub record IsStaged (f : Program) (members : List Bool) (stages : List ℕ) : Type 0 where
  pub given : (i : ℕ) (one : Step) → IsMarked members i → IsAt f i one → is_input one.work ≡ true
      → slice_index stages i ≡ 0
  pub later : (i : ℕ) (one : Step) → IsMarked members i → IsAt f i one → is_input one.work ≡ false
      → 0 < slice_index stages i
  pub rising : (i j : ℕ) (one : Step) → IsMarked members i → IsAt f i one → Reads (operands one.work) j
      → IsMarked members j
      → slice_index stages j < slice_index stages i
