-- lists: what is at a place, members and weights, after an edit
use Rattle.std.proofs.Common.{◌≡◌, ℕ, ◌+◌, ◌*◌, cond, eqb, List, [], ◌∷◌, ◌++◌, ◌≤◌, Option, Some, None, ◌⊎◌, inl, inr, refl, sym, ◌∙◌, ap, subst, arith, zero, suc, length, map, set}
use Rattle.std.specs.Prelude.{slice_get, remove}
use Rattle.std.proofs.lemmas.Bool.{cases_eq, eq-eqb, ne_eqb}
use Rattle.std.proofs.lemmas.Option.{same_Some}
use Rattle.replay_state.specs.State.{Progress}
pub use Rattle.replay_state.specs.Drain.{weight}
use Rattle.run_model.specs.Members.{Member}
use Rattle.lemmas.proofs.Lists.{get_past, get_pushed, get_set_other, get_set_same}

pub get_push_other : {X : Type 0} (xs : List X) (y : X) (n : ℕ) → (n ≡ length xs → ⊥) → slice_get (xs ++ y ∷ []) n ≡ slice_get xs n
get_push_other [] y zero h = absurd (h refl)
get_push_other [] y (suc n) h = refl
get_push_other (z ∷ xs) y zero h = refl
get_push_other (z ∷ xs) y (suc n) h = get_push_other xs y n (λ e. h (ap suc e))

-- what is at a place after an edit is new or was there
pub set_cases : {X : Type 0} (xs : List X) (k p : ℕ) (x y z : X) → slice_get xs k ≡ Some x → slice_get (set xs k y) p ≡ Some z → ((p ≡ k) × (y ≡ z)) ⊎ (slice_get xs p ≡ Some z)
set_cases xs k p x y z there h = elim (cases_eq p k) [
  | inl e ↦ inl (e, same_Some _ _ (sym (get_set_same xs k x y there) ∙ subst (λ n. slice_get (set xs k y) n ≡ Some z) e h))
  | inr d ↦ inr (sym (get_set_other xs k p y d) ∙ h)
]

pub member_remove : {X : Type 0} (xs : List X) (j : ℕ) (x : X) → Member x (remove xs j) → Member x xs
member_remove [] zero x h = h
member_remove [] (suc j) x h = h
member_remove (y ∷ ys) zero x h = inr h
member_remove (y ∷ ys) (suc j) x (inl p) = inl p
member_remove (y ∷ ys) (suc j) x (inr m) = inr (member_remove ys j x m)

pub member_push : {X : Type 0} (xs : List X) (y x : X) → Member x (xs ++ y ∷ []) → (y ≡ x) ⊎ Member x xs
member_push [] y x (inl p) = inl p
member_push [] y x (inr m) = inr m
member_push (z ∷ xs) y x (inl p) = inr (inl p)
member_push (z ∷ xs) y x (inr m) = elim (member_push xs y x m) [ inl p ↦ inl p | inr n ↦ inr (inr n) ]

pub member_set : {X : Type 0} (xs : List X) (j : ℕ) (y x : X) → Member x (set xs j y) → (y ≡ x) ⊎ Member x xs
member_set [] j y x m = absurd m
member_set (z ∷ xs) zero y x (inl p) = inl p
member_set (z ∷ xs) zero y x (inr m) = inr (inr m)
member_set (z ∷ xs) (suc j) y x (inl p) = inr (inl p)
member_set (z ∷ xs) (suc j) y x (inr m) = elim (member_set xs j y x m) [ inl p ↦ inl p | inr n ↦ inr (inr n) ]

pub weight_push : {X : Type 0} (f : X → ℕ) (xs : List X) (y : X) → weight f (xs ++ y ∷ []) ≡ weight f xs + f y
weight_push f [] y = omega arith
weight_push f (x ∷ xs) y = let r = weight_push f xs y in omega arith

pub weight_remove : {X : Type 0} (f : X → ℕ) (xs : List X) (j : ℕ) (x : X) → slice_get xs j ≡ Some x → weight f (remove xs j) + f x ≡ weight f xs
weight_remove f [] j x g = cc
weight_remove f (y ∷ xs) zero x g = let e = ap f (same_Some _ _ g) in omega arith
weight_remove f (y ∷ xs) (suc j) x g = let r = weight_remove f xs j x g in omega arith

pub weight_change : {X : Type 0} (f : X → ℕ) (xs : List X) (j : ℕ) (x y : X) → slice_get xs j ≡ Some x → weight f (set xs j y) + f x ≡ weight f xs + f y
weight_change f [] j x y g = cc
weight_change f (z ∷ xs) zero x y g = let d = ap f (same_Some _ _ g) in omega arith
weight_change f (z ∷ xs) (suc j) x y g = let r = weight_change f xs j x y g in omega arith

-- two places weigh what both have
pub weight_two : {X : Type 0} (f : X → ℕ) (xs : List X) (i j : ℕ) (x y : X) → slice_get xs i ≡ Some x → slice_get xs j ≡ Some y → (i ≡ j → ⊥) → f x + f y ≤ weight f xs
weight_two f [] i j x y g h d = cc
weight_two f (z ∷ xs) zero zero x y g h d = absurd (d refl)
weight_two f (z ∷ xs) zero (suc j) x y g h d = let e = ap f (same_Some _ _ g) in let r = weight_remove f xs j y h in omega arith
weight_two f (z ∷ xs) (suc i) zero x y g h d = let e = ap f (same_Some _ _ h) in let r = weight_remove f xs i x g in omega arith
weight_two f (z ∷ xs) (suc i) (suc j) x y g h d = let r = weight_two f xs i j x y g h (λ e. d (ap suc e)) in omega arith

-- 1 where the numbers are equal
abbrev pub is : ℕ → ℕ → ℕ
is q p = cond (eqb q p) 1 0

pub is_self : (p : ℕ) → is p p ≡ 1
is_self p = let e = eq-eqb p p refl in rw e refl

pub is_other : (q p : ℕ) → (p ≡ q → ⊥) → is q p ≡ 0
is_other q p h = let e = ne_eqb q p (λ e. h (sym e)) in rw e refl

-- a number that each fate has, after an edit of the fates
pub mark_set : (M : Option Progress → ℕ) (fates : List Progress) (k p : ℕ) (o f : Progress) → slice_get fates k ≡ Some o
    → M (slice_get (set fates k f) p) + M (Some o) * is k p ≡ M (slice_get fates p) + M (Some f) * is k p
mark_set M fates k p o f there = elim (cases_eq p k) [
  | inl e ↦ rw (e, get_set_same fates k o f there, there, is_self k) (omega arith)
  | inr d ↦ rw (get_set_other fates k p f d, is_other k p d) (omega arith)
]

pub mark_push : (M : Option Progress → ℕ) (fates : List Progress) (p : ℕ) (f : Progress) → M None ≡ 0 → M (slice_get (fates ++ f ∷ []) p) ≡ M (slice_get fates p) + M (Some f) * is (length fates) p
mark_push M fates p f none = elim (cases_eq p (length fates)) [
  | inl e ↦ rw (e, get_pushed fates f, get_past fates, is_self (length fates), none) (omega arith)
  | inr d ↦ rw (get_push_other fates f p d, is_other (length fates) p d) (omega arith)
]

pub remove_push : {X : Type 0} (xs : List X) (y : X) → remove (xs ++ y ∷ []) (length xs) ≡ xs
remove_push [] y = refl
remove_push (x ∷ xs) y = ap (λ l. x ∷ l) (remove_push xs y)

pub map_agree : {X Y : Type 0} (f g : X → Y) (xs : List X) → ((x : X) → Member x xs → f x ≡ g x) → map f xs ≡ map g xs
map_agree f g [] h = refl
map_agree f g (x ∷ xs) h = let a = h x (inl refl) in let r = map_agree f g xs (λ y m. h y (inr m)) in cc

-- a fact about each place that an edit keeps
pub kept_push : {X Y : Type 0} (what : Option X → Y) (xs : List X) (x : X) → what (Some x) ≡ what None → (n : ℕ) → what (slice_get (xs ++ x ∷ []) n) ≡ what (slice_get xs n)
kept_push what xs x same n = elim (cases_eq n (length xs)) [
  | inl e ↦ rw e (ap what (get_pushed xs x) ∙ same ∙ sym (ap what (get_past xs)))
  | inr d ↦ ap what (get_push_other xs x n d)
]

pub kept_set : {X Y : Type 0} (what : Option X → Y) (xs : List X) (k : ℕ) (old x : X) → slice_get xs k ≡ Some old
    → (n : ℕ) → (n ≡ k → what (Some x) ≡ what (Some old)) → what (slice_get (set xs k x) n) ≡ what (slice_get xs n)
kept_set what xs k old x there n same = elim (cases_eq n k) [
  | inl e ↦ rw e (ap what (get_set_same xs k old x there) ∙ same e ∙ sym (ap what there))
  | inr d ↦ ap what (get_set_other xs k n x d)
]
