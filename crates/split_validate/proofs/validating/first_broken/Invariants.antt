use Rattle.std.proofs.Common.{ℕ, ◌<◌, length}
use Rattle.flat_ir.specs.Program.{program_of}
use Rattle.split_validate.specs.Flaws.{KeepsRule}
use Rattle.split_validate.proofs.validating.first_broken.Given as goal

-- no lower rule is broken
abbrev pub invariant-loop-rule : goal.invariant-loop-rule
invariant-loop-rule l = (lower : ℕ) → lower < l.rule → KeepsRule (program_of l.f) l.s lower (length (program_of l.f).code)
