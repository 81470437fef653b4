use Rattle.std.proofs.Common.{◌≡◌, ◌<◌, ℕ, false, map}
use Rattle.element_lang.specs.View.{tree}
use Rattle.chain_compose.specs.Reach.{is_shown, repeats_within}
use Rattle.chain_compose.proofs.refusals.first_repeater.Given as goal

abbrev pub invariant-loop-element : goal.invariant-loop-element
invariant-loop-element l = (k : ℕ) → k < l.element → repeats_within (map tree l.classes) (is_shown l.reach) k ≡ false
