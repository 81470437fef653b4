-- What is ahead at a place of a list of operands, and tests of all of them.
use Rattle.std.proofs.Common.{◌≡◌, ℕ, ◌+◌, Bool, true, false, not, ◌&&◌, ◌||◌, List, [], ◌∷◌, Some, slice_get, drop, refl, add-one}
use Rattle.std.specs.List.{list_all, list_any}
use Rattle.lemmas.proofs.Lists.{drop_got}

-- the element at the place, and what is behind it
pub ahead : {X : Type 0} (xs : List X) (i : ℕ) (x : X) → slice_get xs i ≡ Some x → drop i xs ≡ x ∷ drop (i + 1) xs
ahead xs i x e = rw add-one (drop_got xs i x e)

-- not all pass where some one doesn't
pub not_all : {X : Type 0} (test : X → Bool) (xs : List X) → not (list_all test xs) ≡ list_any (λ x. not (test x)) xs
not_all test [] = refl
not_all test (x ∷ xs) =
    let rest = not_all test xs in
    elim (test x) as (λ b. not (b && list_all test xs) ≡ (not b || list_any (λ y. not (test y)) xs)) [ true ↦ rest | false ↦ refl ]
