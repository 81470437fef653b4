use Rattle.std.proofs.Common.{◌≡◌, drop}
use Rattle.flat_ir.specs.Program.{work_of, operands}
use Rattle.dependence.specs.Noted.{noted_all}
use Rattle.dependence.proofs.uses.Uses.note_operands.Given as goal

-- to note what is ahead is to note all
abbrev pub invariant-loop-place : goal.invariant-loop-place
invariant-loop-place l = noted_all l.self l.user (drop l.place (operands (work_of l.kind))) ≡ noted_all l.fn.self l.user (operands (work_of l.kind))
