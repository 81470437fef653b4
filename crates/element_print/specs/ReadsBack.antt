-- What a printed text is read back as.
use Rattle.std.specs.Prelude.{◌≡◌, ◌≤◌, ℕ, List, length}
use Rattle.element_lang.specs.declared.sizes.What.TheVariants.{Depth, Objects, Entries, Writes}
use Rattle.element_lang.specs.Bounds.{limit_of}
use Rattle.element_lang.specs.Token.{Token, Placed, AreTokens}
use Rattle.element_lang.specs.Tree.{Tree}
use Rattle.element_lang.specs.Surface.{Surface, unplaced, named}
use Rattle.element_lang.specs.Grammar.{Spells}
use Rattle.element_lang.specs.Sizes.{entries, writes}
use Rattle.element_lang.specs.Accepted.{plain, deepest}
use Rattle.element_print.specs.Printed.{print_tokens}

-- the text has exactly these tokens
pub record HasExactly (text : List ℕ) (ts : List Token) : Type 0 where
  pub placed : List Placed
  pub tokens : AreTokens text placed
  pub plain : plain placed ≡ ts

-- the tokens spell the middlebox with its names put back
pub record IsSpelled (ts : List Token) (m : Tree) : Type 0 where
  pub surface : Surface
  pub spells : Spells ts surface
  pub named : unplaced surface ≡ named m

-- the middlebox keeps the sizes of a source, and so does its text as to open brackets
pub record IsWithinSizes (m : Tree) : Type 0 where
  pub depth : deepest 0 (print_tokens (named m)) ≤ limit_of Depth
  pub objects : length m.objects ≤ limit_of Objects
  pub entries : entries m ≤ limit_of Entries
  pub writes : writes m ≤ limit_of Writes
