use Rattle.std.proofs.Common.{◌≡◌, drop, max}
use Rattle.flat_ir.specs.Program.{work_of, operands}
use Rattle.flat_ir.specs.Stages.{deepest}
use Rattle.dependence.proofs.depth.deepest_operand.Given as goal

abbrev pub invariant-loop-place : goal.invariant-loop-place
invariant-loop-place l =
    max l.found (deepest l.members l.depths (drop l.place (operands (work_of l.kind)))) ≡ deepest l.members l.depths (operands (work_of l.kind))
