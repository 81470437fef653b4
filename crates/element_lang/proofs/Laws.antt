-- What holds of the first broken rule of every source, as the definitions give it.
use Rattle.std.specs.Prelude.{List, None, Some, ◌≡◌}
use Rattle.element_lang.proofs.FirstBroken.{none, told}
use Rattle.element_lang.specs.Broken.{first_broken}
use Rattle.element_lang.specs.First.{BreakNone, IsFirstBroken, surface_sites}
use Rattle.element_lang.specs.Grammar.{Spells}
use Rattle.element_lang.specs.Surface.{Surface}
use Rattle.element_lang.specs.Token.{Token}
use Rattle.element_lang.specs.declared.broken.Broken.{Broken}

-- Of the declarations and statements of a source that break a rule, the told one stands first in the text; where none
-- is told, there is none.
pub the_first_is_told-told : (ts : List Token) (surface : Surface) (b : Broken)
    → Spells ts surface → first_broken surface ≡ Some b → IsFirstBroken (surface_sites surface) b
the_first_is_told-told = told

pub the_first_is_told-none : (ts : List Token) (surface : Surface)
    → Spells ts surface → first_broken surface ≡ None → BreakNone (surface_sites surface)
the_first_is_told-none = none
