use Rattle.std.proofs.Common.{ℕ, Bool, ◌||◌, take}
use Rattle.flat_ir.specs.declared.program.ValueId.{ValueId}
use Rattle.flat_ir.specs.Program.{work_of, operands}
use Rattle.split_model.specs.Crossing.{is_among}
use Rattle.split_model.specs.Marked.{AreMarked}
use Rattle.split_model.proofs.values.ValueSet.insert_operands.Given as goal

abbrev pub invariant-loop-place : goal.invariant-loop-place
invariant-loop-place l =
    (n : ℕ) (test : ValueId → Bool) → AreMarked n test l.initial.self → AreMarked n (λ v. test v || is_among v (take l.place (operands (work_of l.kind)))) l.self
