use Rattle.std.proofs.Common.{◌≡◌, ◌<◌, ℕ, false}
use Rattle.chain_text.specs.Reached.{entry}
use Rattle.chain_text.proofs.reach.Reach.leads_back.Given as goal

abbrev pub invariant-loop-element : goal.invariant-loop-element
invariant-loop-element l = (e : ℕ) → e < l.element → entry l.self e e ≡ false
