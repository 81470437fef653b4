-- What an answer says of a chain.
use Rattle.std.proofs.Common.{◌≡◌, ◌≢◌, ◌⊎◌, Result, Ok, Err, IfOk, IfErr, MatchResult, List, sym, ap, ◌∙◌, subst}
use Rattle.element_lang.specs.declared.tree.Middlebox.{Middlebox}
use Rattle.element_lang.specs.Tree.{Tree}
use Rattle.element_lang.specs.View.{tree}
use Rattle.element_chain.specs.declared.chain.Wire.{Wire}
use Rattle.element_chain.specs.Chain.{Connected}
use Rattle.element_chain.specs.Compose.{composed}
use Rattle.element_chain.specs.Laws.{IsFit}
use Rattle.chain_compose.specs.declared.error.ComposeError.{ComposeError}
use Rattle.chain_compose.specs.declared.error.ComposeError.TheVariants.{NoMemory}
use Rattle.chain_compose.specs.Parts.{connected}
use Rattle.chain_compose.specs.Refusals.{IsRefused, IsUnrefused}
use Rattle.chain_compose.proofs.OneReason.{one_reason, no_reason}

module _ (c : Connected) where
  pub exact : (r : Result Middlebox ComposeError) → IfOk r (λ (_ : Middlebox). IsUnrefused c) → IfErr r (IsRefused c) → (e : ComposeError) → e ≢ NoMemory → IsRefused c e
      → MatchResult r (λ (_ : Middlebox). ⊥) (λ (found : ComposeError). (found ≡ e) ⊎ (found ≡ NoMemory))
  exact (Ok m) none refused e some is = some (no_reason c e none is)
  exact (Err found) none refused e some is = one_reason c e found some is refused

  pub found : (r : Result Middlebox ComposeError) → IfOk r (λ (m : Middlebox). tree m ≡ composed c) → IfErr r (IsRefused c) → IsUnrefused c
      → MatchResult r (λ (m : Middlebox). tree m ≡ composed c) (λ (e : ComposeError). e ≡ NoMemory)
  found (Ok m) made refused none = made
  found (Err e) made refused none = no_reason c e none refused

-- what holds of the whole of some elements holds of what was made of the same ones
pub of_made : (P : Tree → Type 0) (es ms : List Middlebox) (wires : List Wire) (r : Result Middlebox ComposeError) → es ≡ ms
    → IfOk r (λ (m : Middlebox). tree m ≡ composed (connected es wires)) → IfOk r (λ (_ : Middlebox). IsFit (connected es wires))
    → (IsFit (connected ms wires) → P (composed (connected ms wires))) → IfOk r (λ (m : Middlebox). P (tree m))
of_made P es ms wires (Ok m) same made fit law =
    subst P (sym (made ∙ ap (λ (ks : List Middlebox). composed (connected ks wires)) same))
    (law (subst (λ (ks : List Middlebox). IsFit (connected ks wires)) same fit))
of_made P es ms wires (Err e) same made fit law = tt
