use Rattle.std.proofs.Common.{◌≡◌, drop}
use Rattle.flat_ir.specs.Program.{work_of, operands}
use Rattle.dependence.specs.Marked.{are_marked}
use Rattle.dependence.proofs.operand.has_operands.Given as goal

-- what is ahead is marked just where all is
abbrev pub invariant-loop-place : goal.invariant-loop-place
invariant-loop-place l = are_marked l.marks (drop l.place (operands (work_of l.kind))) ≡ are_marked l.marks (operands (work_of l.kind))
