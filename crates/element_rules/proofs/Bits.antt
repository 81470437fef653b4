-- A value of some bits, as a shift tests it.
use Rattle.std.proofs.Common.{◌≡◌, ℕ, ◌&&◌, nat_eq, List, [], ◌∷◌, refl, ap}
use Rattle.std.specs.Cmp.Lexicographic.{pointwise}
use Rattle.element_lang.specs.Rules.{same_widths}

-- lists of widths are compared one by one
pub compared : (xs ys : List ℕ) → pointwise nat_eq xs ys ≡ same_widths xs ys
compared [] [] = refl
compared [] (y ∷ ys) = refl
compared (x ∷ xs) [] = refl
compared (x ∷ xs) (y ∷ ys) = ap (λ b. nat_eq x y && b) (compared xs ys)
