-- Instructions with the places of their operands and results among registers.
use Rattle.std.specs.Prelude.{ℕ, zero, suc, List, [], ◌∷◌, ◌++◌, length, slice_index}
use Rattle.flat_ir.specs.declared.program.ValueId.{ValueId}
use Rattle.flat_ir.specs.Blocks.{Reading}
use Rattle.flat_ir.specs.Program.{Work, work_of}
use Rattle.flat_ir.specs.Program.Work.{apply}
use Rattle.transfer_header.specs.declared.ready.PlacedOp.{PlacedOp}
use Rattle.transfer_header.specs.declared.ready.PlacedOp.TheVariants.{Unary, Binary, Ternary}
use Rattle.transfer_header.specs.declared.ready.Places.{Places}
use Rattle.transfer_header.specs.declared.ready.Places.TheVariants.{One, Many}
use Rattle.transfer_header.specs.declared.ready.ReadyKind.{ReadyKind}
use Rattle.transfer_header.specs.declared.ready.ReadyKind.TheVariants.{Operator, Other}
use Rattle.transfer_header.specs.Registers.{Registers, placed}

-- a value that is named by a place
abbrev pub named : ℕ → ValueId
named place = record { instruction = place; result = 0 }

abbrev pub operator_work : PlacedOp → Work
operator_work (Unary op width x) = apply op width (named x ∷ [])
operator_work (Binary op width x y) = apply op width (named x ∷ named y ∷ [])
operator_work (Ternary op width x y z) = apply op width (named x ∷ named y ∷ named z ∷ [])

-- the work of an instruction whose operands are named by places
abbrev pub ready_work : ReadyKind → Work
ready_work (Operator operator) = operator_work operator
ready_work (Other kind) = work_of kind

-- numbers that are read by place
abbrev pub reads_at : List ℕ → Reading
reads_at numbers v = slice_index numbers v.instruction

abbrev pub places_of : Places → List ℕ
places_of (One place) = place ∷ []
places_of (Many places) = places.items

-- the first results, so many of them, each with its place
abbrev pub first_placed : List ℕ → List ℕ → ℕ → List (ℕ × ℕ)
first_placed places given zero = []
first_placed places given (suc k) = first_placed places given k ++ (slice_index places k, slice_index given k) ∷ []

-- the results of an instruction, each with its place
abbrev pub placed_gives : List ℕ → List ℕ → List (ℕ × ℕ)
placed_gives places given = first_placed places given (length places)

-- the registers once numbers are put at places, one after the other
abbrev pub all_placed : Registers → List (ℕ × ℕ) → Registers
all_placed registers [] = registers
all_placed registers (p ∷ ps) = all_placed (placed registers p.0 p.1) ps
