use Rattle.std.proofs.Common.{◌≡◌, ◌<◌, ℕ, length, slice_index_or}
use Rattle.chain_compose.specs.Parts.{chain_of}
use Rattle.chain_compose.specs.Tallies.{IsNext, no_figures, no_ending}
use Rattle.chain_compose.proofs.parts.Parts.more_endings.Given as goal

abbrev pub invariant-loop-element : goal.invariant-loop-element
invariant-loop-element l = record {
  count : length l.made.items ≡ l.element;
  each : (e : ℕ) → e < l.element
      → IsNext l.gauge (chain_of l.self) l.endings e (slice_index_or l.figures e no_figures) (slice_index_or l.made.items e no_ending);
}
