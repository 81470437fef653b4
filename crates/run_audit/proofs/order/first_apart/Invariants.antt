use Rattle.run_audit.proofs.Lists.{AlikeTo}
use Rattle.run_audit.proofs.order.first_apart.Given as goal

-- the numbers so far are those that are wanted
abbrev pub invariant-loop-place : goal.invariant-loop-place
invariant-loop-place l = AlikeTo l.told l.wanted l.place
