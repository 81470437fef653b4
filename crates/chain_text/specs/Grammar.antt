-- The statements of a chain's text.
use Rattle.std.specs.Prelude.{◌≡◌, ℕ, suc, ◌<◌, ◌≤◌, List, [], ◌∷◌, ◌++◌, length, take}
use Rattle.chain_text.specs.declared.mark.Mark.TheVariants.{Declares, Arrow, Opens, Closes, Ends}
use Rattle.chain_text.specs.Token.{Token, name, number, fixed}

pub data Statement : Type 0 where
  -- `NAME :: CLASS ;`: an element of a class
  declares : (element class : List ℕ) → Statement
  -- `NAME [ K ] -> [ J ] NAME ;`: a wire from an output of an element to an input of another, or out
  wires : (from : List ℕ) (output input : ℕ) (to : List ℕ) → Statement

abbrev pub statement_tokens : Statement → List Token
statement_tokens (declares element class) = name element ∷ fixed Declares ∷ name class ∷ fixed Ends ∷ []
statement_tokens (wires from output input to) =
    name from ∷ fixed Opens ∷ number output ∷ fixed Closes ∷ fixed Arrow
    ∷ fixed Opens ∷ number input ∷ fixed Closes ∷ name to ∷ fixed Ends ∷ []

-- the tokens of statements, one behind the other
abbrev pub spelled : List Statement → List Token
spelled [] = []
spelled (s ∷ ss) = statement_tokens s ++ spelled ss

-- the tokens of some statements begin with these
abbrev pub Begins : List Token → Type 0
Begins front = (more : List Token) × (ss : List Statement) × (front ++ more ≡ spelled ss)

-- The first wrong token stands at this place: those before it begin some statements, and together with it they begin
-- none. Where the place is behind the last one, the tokens end too early.
pub record IsFirstWrong (ts : List Token) (place : ℕ) : Type 0 where
  pub within : place ≤ length ts
  pub begins : Begins (take place ts)
  pub wrong : place < length ts → Begins (take (suc place) ts) → ⊥
  pub too_short : place ≡ length ts → (ss : List Statement) → ts ≡ spelled ss → ⊥
