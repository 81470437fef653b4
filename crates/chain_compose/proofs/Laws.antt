-- What holds of every chain, as the definitions give it.
use Rattle.std.proofs.Common.{inl, inr, ◌≡◌, ◌≢◌, ◌⊎◌}
use Rattle.element_chain.specs.Chain.{Connected}
use Rattle.chain_compose.proofs.OneReason.{no_reason, one_reason}
use Rattle.chain_compose.specs.Refusals.{IsRefused, IsUnrefused}
use Rattle.chain_compose.specs.declared.error.ComposeError.{ComposeError}
use Rattle.chain_compose.specs.declared.error.ComposeError.TheVariants.{NoMemory}

not_memory : (d e : ComposeError) → d ≢ NoMemory → (d ≡ e) ⊎ (d ≡ NoMemory) → d ≡ e
not_memory d e some (inl same) = same
not_memory d e some (inr none) = absurd (some none)

-- A chain is composed, or it is refused for one reason but want of memory, and not both.
pub one_composition_or_one_reason-reason : (c : Connected) (d e : ComposeError) → d ≢ ComposeError.NoMemory → e ≢ ComposeError.NoMemory
    → IsRefused c d → IsRefused c e → d ≡ e
one_composition_or_one_reason-reason = λ c d e first second one two. not_memory d e first (one_reason c e d second two one)

pub one_composition_or_one_reason-apart : (c : Connected) (e : ComposeError) → e ≢ ComposeError.NoMemory
    → IsUnrefused c → IsRefused c e → ⊥
one_composition_or_one_reason-apart = λ c e some none refused. some (no_reason c e none refused)
