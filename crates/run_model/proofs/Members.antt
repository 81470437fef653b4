-- Members of a list, and their places.
use Rattle.std.proofs.Common.{◌≡◌, ℕ, zero, suc, List, [], ◌∷◌, Some, inl, inr, ap}
use Rattle.std.specs.Prelude.{slice_get}
use Rattle.std.proofs.lemmas.Option.{same_Some}
use Rattle.run_model.specs.Members.{Member}

pub get_member : {X : Type 0} (xs : List X) (j : ℕ) (x : X) → slice_get xs j ≡ Some x → Member x xs
get_member [] j x h = cc
get_member (y ∷ ys) zero x h = inl (same_Some _ _ h)
get_member (y ∷ ys) (suc j) x h = inr (get_member ys j x h)

pub member_get : {X : Type 0} (x : X) (xs : List X) → Member x xs → (i : ℕ) × (slice_get xs i ≡ Some x)
member_get x [] m = absurd m
member_get x (y ∷ ys) (inl e) = (0, ap Some e)
member_get x (y ∷ ys) (inr m) = let r = member_get x ys m in (suc (r.0), r.1)
