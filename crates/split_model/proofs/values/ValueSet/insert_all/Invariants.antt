use Rattle.std.proofs.Common.{ℕ, Bool, ◌||◌, take}
use Rattle.flat_ir.specs.declared.program.ValueId.{ValueId}
use Rattle.split_model.specs.Crossing.{is_among}
use Rattle.split_model.specs.Marked.{AreMarked}
use Rattle.split_model.proofs.values.ValueSet.insert_all.Given as goal

abbrev pub invariant-loop-value : goal.invariant-loop-value
invariant-loop-value l =
    (n : ℕ) (test : ValueId → Bool) → AreMarked n test l.initial.self → AreMarked n (λ v. test v || is_among v (take l.value-index l.values)) l.self
