-- What holds of the defined flat program holds of one that equals it.
use Rattle.std.proofs.Common.{◌≡◌, Ok, Err, sym, subst}
use Rattle.std.specs.Prelude.{Result, IfOk}
use Rattle.element_lang.specs.Tree.{Tree}
use Rattle.flat_ir.specs.declared.program.Flat.{Flat}
use Rattle.flat_ir.specs.Program.{Program, program_of}
use Rattle.flatten.specs.declared.error.FlatError.{FlatError}
use Rattle.flatten.specs.Flatten.{flat_of}

pub handed : (m : Tree) (P : Program → Type 0) (r : Result Flat FlatError) → P (flat_of m) → IfOk r (λ f. program_of f ≡ flat_of m) → IfOk r (λ f. P (program_of f))
handed m P (Ok f) holds is = subst P (sym is) holds
handed m P (Err e) holds is = tt
