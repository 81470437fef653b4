use Rattle.std.proofs.Common.{◌≡◌, ◌<◌, ℕ, length, slice_index_or}
use Rattle.chain_compose.specs.Parts.{chain_of}
use Rattle.chain_compose.specs.SendLevels.{IsOwn, nothing_own}
use Rattle.chain_compose.proofs.parts.Parts.owns.Given as goal

abbrev pub invariant-loop-element : goal.invariant-loop-element
invariant-loop-element l = record {
  count : length l.made.items ≡ l.element;
  each : (e : ℕ) → e < l.element → IsOwn (chain_of l.self) e (slice_index_or l.made.items e nothing_own);
}
