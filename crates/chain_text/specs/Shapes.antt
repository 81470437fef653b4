-- What the tokens of each kind of statement are, and how many of the first tokens are so.
use Rattle.std.specs.Prelude.{ℕ, suc, Bool, true, false, List, [], ◌∷◌, nat_eq, if◌then◌else◌}
use Rattle.chain_text.specs.Token.{Token, name, number, fixed}
use Rattle.chain_text.specs.declared.mark.Mark.{Mark}
use Rattle.chain_text.specs.declared.mark.Mark.TheVariants.{Declares, Arrow, Opens, Closes, Ends}
use Rattle.chain_text.specs.declared.shape.Kind.{Kind}
use Rattle.chain_text.specs.declared.shape.Kind.TheVariants.{Name, Number, Fixed}

-- a number for each mark
abbrev pub code : Mark → ℕ
code Declares = 0
code Arrow = 1
code Opens = 2
code Closes = 3
code Ends = 4

-- a token is what it has to be
abbrev pub fits : Kind → Token → Bool
fits Name (name word) = true
fits Number (number n) = true
fits (Fixed m) (fixed k) = nat_eq (code m) (code k)
fits _ _ = false

abbrev pub fit_of : List Kind → List Token → ℕ
fit_of [] ts = 0
fit_of (k ∷ ks) [] = 0
fit_of (k ∷ ks) (t ∷ ts) = if fits k t then suc (fit_of ks ts) else 0
