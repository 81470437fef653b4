-- What holds of every text, as the definitions give it.
use Rattle.std.proofs.Common.{List, ℕ}
use Rattle.std.specs.Prelude.{◌≡◌, ◌≢◌}
use Rattle.element_chain.specs.declared.chain.Chain.{Chain}
use Rattle.chain_text.proofs.ComposableChains.{can_be_composed}
use Rattle.chain_text.proofs.OneAnswer.{accepted, one_chain, one_reason}
use Rattle.chain_text.specs.Reads.{IsChainText, IsComposable, IsRefused}
use Rattle.chain_text.specs.declared.error.ChainTextError.{ChainTextError}

-- A text is that of one chain, which can be composed, or it is refused for one reason but want of memory, and not both.
pub one_chain_or_one_reason-chain : (text : List ℕ) (a b : Chain) → IsChainText text a → IsChainText text b → a ≡ b
one_chain_or_one_reason-chain = one_chain

pub one_chain_or_one_reason-composable : (text : List ℕ) (chain : Chain) → IsChainText text chain → IsComposable chain
one_chain_or_one_reason-composable = can_be_composed

pub one_chain_or_one_reason-reason : (text : List ℕ) (d e : ChainTextError) → d ≢ ChainTextError.NoMemory → e ≢ ChainTextError.NoMemory
    → IsRefused text d → IsRefused text e → d ≡ e
one_chain_or_one_reason-reason = one_reason

pub one_chain_or_one_reason-apart : (text : List ℕ) (chain : Chain) (e : ChainTextError) → e ≢ ChainTextError.NoMemory
    → IsChainText text chain → IsRefused text e → ⊥
one_chain_or_one_reason-apart = accepted
