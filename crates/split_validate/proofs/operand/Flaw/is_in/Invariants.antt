use Rattle.std.proofs.Common.{◌≡◌, drop}
use Rattle.flat_ir.specs.Program.{work_of, operands}
use Rattle.split_validate.specs.Flaws.{any_flawed}
use Rattle.split_validate.proofs.operand.Flaw.is_in.Given as goal

-- what is ahead has the flaw just where some operand has it
abbrev pub invariant-loop-place : goal.invariant-loop-place
invariant-loop-place l = any_flawed l.self l.s (drop l.place (operands (work_of l.kind))) ≡ any_flawed l.self l.s (operands (work_of l.kind))
