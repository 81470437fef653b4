-- Lists after an edit.
use Rattle.std.proofs.Common.{◌≡◌, ◌≤◌, ℕ, zero, suc, List, [], ◌∷◌, Some, None, inl, inr, refl, sym, ap, arith, length}
use Rattle.std.specs.Prelude.{slice_get, remove}
use Rattle.std.specs.List.{AllByRecursion as Each}
use Rattle.std.proofs.lemmas.Option.{same_Some, none-some}
use Rattle.replay_state.specs.Carried.{Member}

-- where none stands, the list has ended
pub past_all : {X : Type 0} (xs : List X) (j : ℕ) → slice_get xs j ≡ None → length xs ≤ j
past_all [] j e = omega arith
past_all (x ∷ xs) zero e = absurd (none-some x (sym e))
past_all (x ∷ xs) (suc j) e = let past = past_all xs j e in omega arith

-- nothing goes from behind the end
pub remove_past : {X : Type 0} (xs : List X) (j : ℕ) → slice_get xs j ≡ None → remove xs j ≡ xs
remove_past [] zero e = refl
remove_past [] (suc j) e = refl
remove_past (x ∷ xs) zero e = absurd (none-some x (sym e))
remove_past (x ∷ xs) (suc j) e = ap (λ l. x ∷ l) (remove_past xs j e)

pub each_remove : {X : Type 0} (P : X → Type 0) (xs : List X) (j : ℕ) → Each P xs → Each P (remove xs j)
each_remove P [] zero e = tt
each_remove P [] (suc j) e = tt
each_remove P (y ∷ xs) zero e = e.1
each_remove P (y ∷ xs) (suc j) e = (e.0, each_remove P xs j e.1)

pub get_removed : {X : Type 0} (xs : List X) (j k : ℕ) (x : X) → slice_get (remove xs j) k ≡ Some x → (i : ℕ) × (slice_get xs i ≡ Some x)
get_removed [] zero k x h = (k, h)
get_removed [] (suc j) k x h = (k, h)
get_removed (y ∷ xs) zero k x h = (suc k, h)
get_removed (y ∷ xs) (suc j) zero x h = (zero, h)
get_removed (y ∷ xs) (suc j) (suc k) x h = let r = get_removed xs j k x h in (suc r.0, r.1)

pub get_member : {X : Type 0} (xs : List X) (j : ℕ) (x : X) → slice_get xs j ≡ Some x → Member x xs
get_member [] j x h = absurd (none-some x h)
get_member (y ∷ ys) zero x h = inl (same_Some _ _ h)
get_member (y ∷ ys) (suc j) x h = inr (get_member ys j x h)

pub member_kept : {X : Type 0} (xs : List X) (j : ℕ) (x : X) → Member x (remove xs j) → Member x xs
member_kept [] zero x h = h
member_kept [] (suc j) x h = h
member_kept (y ∷ ys) zero x h = inr h
member_kept (y ∷ ys) (suc j) x h = elim h [ inl e ↦ inl e | inr r ↦ inr (member_kept ys j x r) ]
