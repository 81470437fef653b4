use Rattle.std.proofs.Common.{◌≡◌, ◌++◌, take, drop}
use Rattle.switch_machine.proofs.active_pass.copy_numbers.Given as goal

abbrev pub invariant-loop-place : goal.invariant-loop-place
invariant-loop-place l = l.to ≡ record { plan = l.fn.to.plan; numbers = take l.place l.numbers ++ drop l.place l.fn.to.numbers }
