use Rattle.std.proofs.Common.{◌≡◌, ℕ, [], length, get_or}
use Rattle.switch_machine.proofs.stages.empty_stages.Given as goal

abbrev pub invariant-loop : goal.invariant-loop
invariant-loop l = record {
  count : length l.stages.items ≡ l.counter;
  empty : (t : ℕ) → get_or l.stages.items t [] ≡ [];
}
