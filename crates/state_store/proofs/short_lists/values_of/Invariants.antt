use Rattle.std.proofs.Common.{◌≡◌, take}
use Rattle.state_store.proofs.short_lists.values_of.Given as goal

abbrev pub invariant-loop-number : goal.invariant-loop-number
invariant-loop-number l = l.values ≡ take l.number-index l.numbers
