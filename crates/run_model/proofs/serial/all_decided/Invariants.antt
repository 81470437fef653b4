use Rattle.std.proofs.Common.{◌≡◌, ◌++◌, drop}
use Rattle.run_model.specs.Order.{decided_from}
use Rattle.run_model.proofs.serial.all_decided.Given as goal

-- those found, and those among the fates ahead, are all of them
abbrev pub invariant-loop-number : goal.invariant-loop-number
invariant-loop-number l = l.decided.items ++ decided_from l.number (drop l.number l.fates) ≡ decided_from 0 l.fates
