use Rattle.std.proofs.Common.{◌≡◌, ◌<◌, ℕ, length, slice_index_or}
use Rattle.chain_compose.specs.Parts.{chain_of}
use Rattle.chain_compose.specs.Tallies.{AreFigures, no_figures}
use Rattle.chain_compose.proofs.parts.Parts.figures.Given as goal

abbrev pub invariant-loop-element : goal.invariant-loop-element
invariant-loop-element l = record {
  count : length l.figures.items ≡ l.element;
  each : (e : ℕ) → e < l.element → AreFigures l.gauge (chain_of l.self) e (slice_index_or l.figures.items e no_figures);
}
