use Rattle.std.proofs.Common.{◌≤◌}
use Rattle.replayer_tests.proofs.translator_tests.all_step_so.Given as goal

abbrev pub invariant-loop-planned : goal.invariant-loop-planned
invariant-loop-planned g l = l.replayer.steps ≤ l.planned-index
