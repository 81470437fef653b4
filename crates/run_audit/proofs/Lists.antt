-- Lists that are alike up to a place.
use Rattle.std.proofs.Common.{◌≡◌, ◌<◌, ◌≤◌, ℕ, suc, List, [], ◌∷◌, length, Some, inl, inr, refl, sym, ap, ◌∙◌, arith}
use Rattle.std.specs.Prelude.{slice_get}
use Rattle.std.proofs.lemmas.Bool.{cases_lt}
use Rattle.std.proofs.lemmas.Option.{slice_get_past}
use Rattle.run_audit.specs.Order.{DifferFirst}

-- two lists have the same elements before a place
abbrev pub AlikeTo : {X : Type 0} → List X → List X → ℕ → Type 0
AlikeTo xs ys n = (i : ℕ) → i < n → slice_get xs i ≡ slice_get ys i

pub same_lists : {X : Type 0} (xs ys : List X) → ((i : ℕ) → slice_get xs i ≡ slice_get ys i) → xs ≡ ys
same_lists [] [] h = refl
same_lists (x ∷ xs) (y ∷ ys) h =
    let e : Some x ≡ Some y = h 0 in let rest : xs ≡ ys = same_lists xs ys (λ i. h (suc i)) in cc
same_lists xs ys h = let e : slice_get xs 0 ≡ slice_get ys 0 = h 0 in cc

pub alike_whole : {X : Type 0} (xs ys : List X) (n : ℕ) → AlikeTo xs ys n → length xs ≤ n → length ys ≤ n → xs ≡ ys
alike_whole xs ys n alike xs_end ys_end = same_lists xs ys (λ i. elim (cases_lt i n) [
  | inl low ↦ alike i low
  | inr high ↦ slice_get_past xs i (omega arith) ∙ sym (slice_get_past ys i (omega arith))
])

-- two places at which two lists first differ are one
pub one_place : {X : Type 0} (xs ys : List X) (i j : ℕ) → DifferFirst xs ys i → DifferFirst xs ys j → i ≡ j
one_place xs ys i j at_i at_j = elim (cases_lt i j) [
  | inl low ↦ absurd (at_i.there (at_j.alike i low))
  | inr high ↦ elim (cases_lt j i) [
    | inl low ↦ absurd (at_j.there (at_i.alike j low))
    | inr same ↦ omega arith
  ]
]

pub differ_apart : {X : Type 0} (xs ys : List X) (i : ℕ) → DifferFirst xs ys i → xs ≡ ys → ⊥
differ_apart xs ys i differ same = differ.there (ap (λ zs. slice_get zs i) same)
