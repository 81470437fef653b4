-- What is taken of statements, and which of them is refused.
use Rattle.std.specs.Prelude.{◌≡◌, ℕ, suc, List, length}
use Rattle.element_chain.specs.declared.chain.Chain.{Chain}
use Rattle.element_chain.specs.Wiring.{AreWithin}
use Rattle.chain_text.specs.Grammar.{Statement}
use Rattle.chain_text.specs.Reads.{elements_of, wires_of, told, IsRefusedAt, IsFirstRefused, AreWiredOnce}
use Rattle.chain_text.specs.declared.error.ChainTextError.{ChainTextError}
use Rattle.chain_text.specs.declared.error.ChainTextError.TheVariants as errors

-- none of the statements is refused, and these are their elements and wires
pub record IsTaken (ss : List Statement) (chain : Chain) : Type 0 where
  pub none : (place : ℕ) → IsRefusedAt ss place → ⊥
  pub elements : chain.elements ≡ elements_of ss
  pub wires : chain.wires ≡ wires_of (elements_of ss) ss
  pub within : AreWithin (length chain.elements) chain.wires
  pub once : AreWiredOnce chain.wires

-- the statement of this number is the first that is refused
pub record IsFirstNumber (ss : List Statement) (number : ℕ) : Type 0 where
  pub place : ℕ
  pub first : IsFirstRefused ss place
  pub count : number ≡ told (suc place)

abbrev pub IsTakeError : List Statement → ChainTextError → Type 0
IsTakeError ss (errors.Statement number) = IsFirstNumber ss number
IsTakeError ss errors.NoMemory = Unit {0}
IsTakeError ss _ = ⊥
