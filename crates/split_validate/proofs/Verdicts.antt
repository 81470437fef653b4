-- Rules that are kept, one after the other, and what is told of a split then.
use Rattle.std.proofs.Common.{◌≡◌, ℕ, ◌+◌, ◌<◌, inl, inr, false, List, length, refl, subst, arith}
use Rattle.std.proofs.lemmas.Bool.{cases_lt}
use Rattle.flat_ir.specs.declared.program.Flat.{Flat}
use Rattle.flat_ir.specs.Program.{Program, program_of}
use Rattle.split_model.specs.declared.split.Part.{Part}
use Rattle.split_model.specs.Legal.{breaks}
use Rattle.split_validate.specs.Flaws.{KeepsRule}
use Rattle.split_validate.proofs.Instructions.{same_count}

pub none_lower : (f : Program) (split : List Part) (n : ℕ) → (lower : ℕ) → lower < 1 → KeepsRule f split lower n
none_lower f split n lower less j inside = let zero_it_is : 0 ≡ lower = omega (arith, less) in subst (λ r. breaks r f split j ≡ false) zero_it_is refl

pub one_more_kept : (f : Flat) (split : List Part) (rule : ℕ) → ((lower : ℕ) → lower < rule → KeepsRule (program_of f) split lower (length (program_of f).code)) → KeepsRule (program_of f) split rule (length f.code)
    → (lower : ℕ) → lower < rule + 1 → KeepsRule (program_of f) split lower (length (program_of f).code)
one_more_kept f split rule before here lower less j inside = elim (cases_lt lower rule) [
  | inl lt ↦ before lower lt j inside
  | inr ge ↦
      let same : rule ≡ lower = omega (arith, ge, less) in
      subst (λ r. breaks r (program_of f) split j ≡ false) same (here j (omega (arith, inside, same_count f)))
]
