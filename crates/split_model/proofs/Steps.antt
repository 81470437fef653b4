-- Instructions, by their place.
use Rattle.std.proofs.Common.{◌≡◌, ℕ, zero, suc, ◌<◌, List, [], ◌∷◌, ap, sym, arith, length, get_or, map}
use Rattle.std.specs.Prelude.{slice_index_or}
use Rattle.flat_ir.specs.declared.program.Instr.{Instr}
use Rattle.flat_ir.specs.declared.program.Flat.{Flat}
use Rattle.flat_ir.specs.Program.{Step, program_of, step_at, step_of}

pub step_in : (code : List Instr) (i : ℕ) (d : Step) (one : Instr) → i < length code → one ≡ get_or code i one → slice_index_or (map step_of code) i d ≡ step_of one
step_in [] i d one h e = absurd (omega arith)
step_in (x ∷ xs) zero d one h e = ap step_of (sym e)
step_in (x ∷ xs) (suc i) d one h e = step_in xs i d one (omega arith) e

-- the instruction at a place in the code
pub step_is : (f : Flat) (code : List Instr) (i : ℕ) (one : Instr) → code ≡ f.code → i < length code → one ≡ get_or code i one → step_at (program_of f) i ≡ step_of one
step_is f code i one same h e = step_in f.code i _ one (rw same at h) (rw same at e)
