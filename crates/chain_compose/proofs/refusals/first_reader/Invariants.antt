use Rattle.std.proofs.Common.{◌<◌, ℕ, map}
use Rattle.element_lang.specs.View.{tree}
use Rattle.chain_compose.specs.Refusals.{ReadsBehind}
use Rattle.chain_compose.proofs.refusals.first_reader.Given as goal

abbrev pub invariant-loop-element : goal.invariant-loop-element
invariant-loop-element l = (e : ℕ) → e < l.element → ReadsBehind (map tree l.classes) e → ⊥
