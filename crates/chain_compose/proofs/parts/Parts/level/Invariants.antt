use Rattle.std.proofs.Common.{◌≡◌, ◌<◌, ℕ, length, slice_index}
use Rattle.element_chain.specs.declared.chain.Target.TheVariants.{Element}
use Rattle.element_print.specs.Lengths.{capped}
use Rattle.chain_compose.specs.Tallies.{told_end}
use Rattle.chain_compose.proofs.parts.Parts.level.Given as goal

abbrev pub invariant-loop-element : goal.invariant-loop-element
invariant-loop-element l = record {
  count : length l.level.items ≡ l.element;
  each : (e : ℕ) → e < l.element → slice_index l.level.items e ≡ capped (told_end l.gauge l.endings (Element e) 0);
}
