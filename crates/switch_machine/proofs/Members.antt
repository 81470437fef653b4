-- Members of lists.
use Rattle.std.proofs.Common.{◌≡◌, ◌⊎◌, ℕ, suc, ◌==◌, Bool, true, List, [], ◌∷◌, ◌++◌, map, refl, sym, ap, ◌∙◌, subst, inl, inr, arith}
use Rattle.std.specs.Prelude.{Contains}
use Rattle.std.specs.List.{AllPairs, list_any, AllByRecursion as Each}
use Rattle.std.proofs.lemmas.Bool.{or_cases, or_left, or_right, eqb-true, eq-eqb, true≢false}
use Rattle.std.proofs.lemmas.List.Elements.{All-contains, All-from_recursion}
use Rattle.switch_machine.specs.Numbers.{Pairs}

-- it is one of them
abbrev pub Has : {X : Type 0} → List X → X → Type 0
Has [] x = ⊥
Has (y ∷ ys) x = (y ≡ x) ⊎ Has ys x

pub to_contains : {X : Type 0} (xs : List X) (x : X) → Has xs x → Contains xs x
to_contains [] x h = absurd h
to_contains (y ∷ ys) x (inl same) = (0, omega arith, same)
to_contains (y ∷ ys) x (inr later) =
    let c = to_contains ys x later in
    (suc c.0, omega (arith, c.1), c.2)

pub has_left : {X : Type 0} (xs ys : List X) (x : X) → Has xs x → Has (xs ++ ys) x
has_left [] ys x h = absurd h
has_left (y ∷ xs) ys x (inl same) = inl same
has_left (y ∷ xs) ys x (inr later) = inr (has_left xs ys x later)

pub has_right : {X : Type 0} (xs ys : List X) (x : X) → Has ys x → Has (xs ++ ys) x
has_right [] ys x h = h
has_right (y ∷ xs) ys x h = inr (has_right xs ys x h)

pub has_parts : {X : Type 0} (xs ys : List X) (x : X) → Has (xs ++ ys) x → Has xs x ⊎ Has ys x
has_parts [] ys x h = inr h
has_parts (y ∷ xs) ys x (inl same) = inl (inl same)
has_parts (y ∷ xs) ys x (inr later) = elim (has_parts xs ys x later) [
  | inl h ↦ inl (inr h)
  | inr h ↦ inr h
]

pub each_has : {X : Type 0} (P : X → Type 0) (xs : List X) → Each P xs → (x : X) → Has xs x → P x
each_has P [] all x h = absurd h
each_has P (y ∷ ys) all x (inl same) = subst P same all.0
each_has P (y ∷ ys) all x (inr later) = each_has P ys all.1 x later

pub has_each : {X : Type 0} (P : X → Type 0) (xs : List X) → ((x : X) → Has xs x → P x) → Each P xs
has_each P [] all = tt
has_each P (x ∷ xs) all = (all x (inl refl), has_each P xs (λ y h. all y (inr h)))

pub of_contains : {X : Type 0} (xs : List X) (x : X) → Contains xs x → Has xs x
of_contains xs x c = All-contains (Has xs) xs x (All-from_recursion (Has xs) xs (has_each (Has xs) xs (λ y h. h))) c

-- what a list that is made of another has
pub record IsMade {X Y : Type 0} (f : X → Y) (xs : List X) (y : Y) : Type 0 where
  pub from : X
  pub there : Has xs from
  pub is : f from ≡ y

pub has_made : {X Y : Type 0} (f : X → Y) (xs : List X) (y : Y) → Has (map f xs) y → IsMade f xs y
has_made f [] y h = absurd h
has_made f (x ∷ xs) y (inl same) = record { from = x; there = inl refl; is = same }
has_made f (x ∷ xs) y (inr later) = let m = has_made f xs y later in record { from = m.from; there = inr m.there; is = m.is }

pub made_has : {X Y : Type 0} (f : X → Y) (xs : List X) (x : X) → Has xs x → Has (map f xs) (f x)
made_has f [] x h = absurd h
made_has f (y ∷ ys) x (inl same) = inl (ap f same)
made_has f (y ∷ ys) x (inr later) = inr (made_has f ys x later)

-- one of a list passes a test
pub record Passes {X : Type 0} (p : X → Bool) (xs : List X) : Type 0 where
  pub one : X
  pub there : Has xs one
  pub is : p one ≡ true

pub any_has : {X : Type 0} (p : X → Bool) (xs : List X) → list_any p xs ≡ true → Passes p xs
any_has p [] e = absurd (true≢false (sym e))
any_has p (x ∷ xs) e = elim (or_cases (p x) (list_any p xs) e) [
  | inl here ↦ record { one = x; there = inl refl; is = here }
  | inr later ↦ (
      let h = any_has p xs later in
      record { one = h.one; there = inr h.there; is = h.is }
      )
]

pub has_any : {X : Type 0} (p : X → Bool) (xs : List X) (x : X) → Has xs x → p x ≡ true → list_any p xs ≡ true
has_any p [] x h is = absurd h
has_any p (y ∷ ys) x (inl same) is = or_left (p y) (list_any p ys) (ap p same ∙ is)
has_any p (y ∷ ys) x (inr later) is = or_right (p y) (list_any p ys) (has_any p ys x later is)

-- by the numbers
pub among_has : (n : ℕ) (xs : List ℕ) → list_any (λ x. x == n) xs ≡ true → Has xs n
among_has n xs e = let p = any_has (λ x. x == n) xs e in subst (Has xs) (eqb-true p.one n p.is) p.there

pub has_among : (n : ℕ) (xs : List ℕ) → Has xs n → list_any (λ x. x == n) xs ≡ true
has_among n xs h = has_any (λ x. x == n) xs n h (eq-eqb n n refl)

-- ## Pairs

pub to_pairs : {X : Type 0} (P : X → X → Type 0) (xs : List X) → AllPairs P xs → Pairs P xs
to_pairs P [] all = tt
to_pairs P (x ∷ xs) all = (
  has_each (P x) xs (λ y h. let c = to_contains xs y h in subst (P x) c.2 (all 0 (suc c.0) y (omega arith) (omega (arith, c.1)))),
  to_pairs P xs (λ k n d lt within. all (suc k) (suc n) d (omega (arith, lt)) (omega (arith, within))),
)

pub pairs_between : {X : Type 0} (P : X → X → Type 0) (xs ys : List X) → Pairs P (xs ++ ys) → (x y : X) → Has xs x → Has ys y → P x y
pairs_between P [] ys all x y here there = absurd here
pairs_between P (z ∷ xs) ys all x y (inl same) there =
    subst (λ u. P u y) same (each_has (P z) (xs ++ ys) all.0 y (has_right xs ys y there))
pairs_between P (z ∷ xs) ys all x y (inr later) there = pairs_between P xs ys all.1 x y later there

pub pairs_left : {X : Type 0} (P : X → X → Type 0) (xs ys : List X) → Pairs P (xs ++ ys) → Pairs P xs
pairs_left P [] ys all = tt
pairs_left P (x ∷ xs) ys all = (has_each (P x) xs (λ y h. each_has (P x) (xs ++ ys) all.0 y (has_left xs ys y h)), pairs_left P xs ys all.1)

pub pairs_right : {X : Type 0} (P : X → X → Type 0) (xs ys : List X) → Pairs P (xs ++ ys) → Pairs P ys
pairs_right P [] ys all = all
pairs_right P (x ∷ xs) ys all = pairs_right P xs ys all.1
