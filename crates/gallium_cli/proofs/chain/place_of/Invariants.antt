use Rattle.std.proofs.Common.{ℕ, ◌<◌}
use Rattle.gallium_cli.specs.Chains.{IsPlaceOf}
use Rattle.gallium_cli.proofs.chain.place_of.Given as goal

-- none of those before is of this class
abbrev pub invariant-loop-place : goal.invariant-loop-place
invariant-loop-place l = (e : ℕ) → e < l.place → IsPlaceOf l.elements l.class e → ⊥
