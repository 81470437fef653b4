-- A text that is written token by token.
use Rattle.std.specs.Prelude.{ℕ, Bool, true, false, List, [], ◌∷◌, ◌++◌}
use Rattle.element_lang.specs.declared.mark.Mark.{Mark}
use Rattle.element_lang.specs.Token.{Token, fixed}
use Rattle.element_print.specs.Printed.{token_text, behind_each, joined}

-- the tokens with a space behind each
unfoldable pub spaced : List Token → List ℕ
spaced [] = []
spaced (t ∷ ts) = token_text t ++ 32 ∷ spaced ts

-- a mark, where it is asked for
abbrev pub mark_if : Bool → Mark → List Token
mark_if true m = fixed m ∷ []
mark_if false m = []

-- parts with a mark between two, and one before the first where that is asked for
abbrev pub separated : Bool → Mark → List (List Token) → List Token
separated true m ps = behind_each m ps
separated false m ps = joined m ps
