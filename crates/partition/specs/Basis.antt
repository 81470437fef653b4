-- Only proofs need this. What all splits of a program go by.
use Rattle.std.specs.Prelude.{length}
use Rattle.flat_ir.specs.declared.program.Flat.{Flat}
use Rattle.flat_ir.specs.Program.{program_of}
use Rattle.dependence.specs.Uses.{AreUses}
use Rattle.dependence.specs.Guards.{AreGuards}
use Rattle.split_model.specs.Crossing.{guards_write}
use Rattle.split_model.specs.Marked.{AreMarked}
use Rattle.partition.specs.declared.basis.Basis.{Basis}

-- who reads what, and what decides whether a write takes effect: the instructions, and the values
pub record IsBasis (f : Flat) (basis : Basis) : Type 0 where
  pub uses : AreUses (program_of f) basis.uses
  pub guards : AreGuards (program_of f) basis.guards
  pub values : AreMarked (length f.code) (guards_write (program_of f)) basis.guard_values
