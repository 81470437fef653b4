use Rattle.std.proofs.Common.{◌≡◌, false, map}
use Rattle.element_lang.specs.View.{tree}
use Rattle.chain_compose.specs.Reach.{is_shown, some_below, sends_to}
use Rattle.chain_compose.proofs.refusals.stands_within.Given as goal

abbrev pub invariant-loop-from : goal.invariant-loop-from
invariant-loop-from l = some_below l.from (sends_to (map tree l.classes) (is_shown l.reach) l.element) ≡ false
