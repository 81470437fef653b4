use Rattle.std.proofs.Common.{◌≡◌, None}
use Rattle.switch_tests.proofs.transfer_header_tests.registers.Given as goal

abbrev pub invariant-loop-at : goal.invariant-loop-at
invariant-loop-at l = l.values.plan ≡ None
