use Rattle.std.proofs.Common.{◌≡◌, ◌<◌, ℕ, max, length, slice_index}
use Rattle.element_print.specs.Lengths.{capped}
use Rattle.chain_compose.specs.Depths.{clearing_depth, element_depth}
use Rattle.chain_compose.specs.Parts.{chain_of}
use Rattle.chain_compose.specs.SendLevels.{told_depth}
use Rattle.chain_compose.proofs.parts.Parts.more_depths.Given as goal

abbrev pub invariant-loop-element : goal.invariant-loop-element
invariant-loop-element l = record {
  count : length l.made.items ≡ l.element;
  each : (e : ℕ) → e < l.element → slice_index l.made.items e ≡ capped (max (clearing_depth (chain_of l.self)) (element_depth (chain_of l.self) (told_depth l.depths) e));
}
