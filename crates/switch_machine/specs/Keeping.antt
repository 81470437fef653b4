-- What is kept of a pass until its end, and what it begins with.
use Rattle.std.specs.Prelude.{ℕ, zero, suc, List, [], ◌∷◌, ◌++◌, map}
use Rattle.flat_ir.specs.declared.program.ValueId.{ValueId}
use Rattle.flat_ir.specs.declared.program.Block.{Block}
use Rattle.flat_ir.specs.declared.program.FieldValue.{FieldValue}
use Rattle.flat_ir.specs.Blocks.{block_at, line}
use Rattle.split_model.specs.declared.layout.Crossing.{Crossing}
use Rattle.switch_ir.specs.Code.{PassCode}
use Rattle.switch_ir.specs.Staged.{Staging}
use Rattle.switch_machine.specs.declared.numbering.ValueRange.{ValueRange}
use Rattle.switch_machine.specs.Numbers.{stage_writes}
use Rattle.switch_machine.specs.Staged.{of_stage}

-- the conditions of some blocks
abbrev pub conditions : List Block → List ℕ → List ValueId
conditions blocks [] = []
conditions blocks (zero ∷ ks) = conditions blocks ks
conditions blocks (suc k ∷ ks) = (block_at blocks k).cond ∷ conditions blocks ks

-- those of some blocks and of all above them
abbrev pub lines_of : List Block → List ℕ → List ValueId
lines_of blocks [] = []
lines_of blocks (b ∷ bs) = conditions blocks (line blocks b) ++ lines_of blocks bs

-- what decides on the packet
abbrev pub left_with : PassCode → List ValueId
left_with pass = pass.send ∷ pass.port ∷ map (λ (w : FieldValue). w.value) pass.fields

abbrev pub values_in : List Crossing → List ValueId
values_in layout = map (λ (c : Crossing). c.value) layout

-- of a pass: what goes up, what decides whether the packet does, and what decides on it
abbrev pub kept : Staging → List ValueId
kept p = values_in p.layout ++ (lines_of p.code.blocks p.code.rest ++ left_with p.code)

abbrev pub numbers_in : List Crossing → List ℕ
numbers_in layout = map (λ (c : Crossing). c.number) layout

-- what a pass begins with: what is handed to it, and the consts and fields that it is given
abbrev pub begins : List ValueRange → Staging → List ℕ
begins ranges p = numbers_in p.handed ++ stage_writes ranges (of_stage 0 p.code.given)
