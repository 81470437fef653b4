-- What is ahead at a place of a list.
use Rattle.std.proofs.Common.{◌≡◌, ℕ, ◌+◌, List, ◌∷◌, Some, slice_get, drop, add-one}
use Rattle.lemmas.proofs.Lists.{drop_got}

-- the element at the place, and what is behind it
pub ahead : {X : Type 0} (xs : List X) (i : ℕ) (x : X) → slice_get xs i ≡ Some x → drop i xs ≡ x ∷ drop (i + 1) xs
ahead xs i x e = rw add-one (drop_got xs i x e)
