-- The shrinking list, one step on and at its end.
use Rattle.std.proofs.Common.{◌≡◌, ℕ, zero, suc, ◌+◌, ◌-◌, ◌<◌, ◌≤◌, Bool, true, false, List, [], ◌∷◌, inl, inr, refl, sym, subst, arith}
use Rattle.flat_ir.specs.Program.{Program}
use Rattle.split_model.specs.declared.split.Part.{Part}
use Rattle.split_model.specs.Greatest.{IsGreatestSplit}
use Rattle.resource_limits.specs.declared.limits.Limits.{Limits}
use Rattle.partition.specs.Choice.{IsKept, IsFirstKept, shrinking}

pub shrinking_at : (k : ℕ) → 0 < k → shrinking k ≡ (k, true) ∷ ((k, false) ∷ shrinking (k - 1))
shrinking_at zero l = absurd (omega (arith, l))
shrinking_at (suc k) l = let e : suc k - 1 ≡ k = omega arith in rw e refl

pub first_with : (f : Program) (limits : Limits) (k : ℕ) (split : List Part) → 0 < k → IsKept f limits k true split → IsFirstKept f limits (shrinking k) split
first_with f limits k split l h = subst (λ cs. IsFirstKept f limits cs split) (sym (shrinking_at k l)) (inl h)

pub first_without : (f : Program) (limits : Limits) (k : ℕ) (split : List Part) → 0 < k → ((other : List Part) → IsKept f limits k true other → ⊥)
    → IsKept f limits k false split → IsFirstKept f limits (shrinking k) split
first_without f limits k split l none h = subst (λ cs. IsFirstKept f limits cs split) (sym (shrinking_at k l)) (inr (none, inl h))

pub found_last : (f : Program) (limits : Limits) (split : List Part) → ((other : List Part) → IsKept f limits 0 true other → ⊥) → IsKept f limits 0 false split
    → IsFirstKept f limits (shrinking 0) split
found_last f limits split e k = inr (e, inl k)

-- where the greatest splits on k and on k + 1 instructions are the same, so is what is first
module _ (f : Program) (limits : Limits) (k : ℕ)
    (up : (all : Bool) (split : List Part) → IsGreatestSplit f k all split → IsGreatestSplit f (suc k) all split)
    (down : (all : Bool) (split : List Part) → IsGreatestSplit f (suc k) all split → IsGreatestSplit f k all split) where
  kept_up : (all : Bool) (split : List Part) → IsKept f limits k all split → IsKept f limits (suc k) all split
  kept_up all split kept = record { greatest = up all split kept.greatest; keeps = kept.keeps }

  not_up : (all : Bool) → ((other : List Part) → IsKept f limits k all other → ⊥) → (other : List Part) → IsKept f limits (suc k) all other → ⊥
  not_up all none other kept = none other (record { greatest = down all other kept.greatest; keeps = kept.keeps })

  -- of a list that begins with both kinds on k instructions
  from_two : (rest : List (ℕ × Bool)) (split : List Part) → IsFirstKept f limits ((k, true) ∷ ((k, false) ∷ rest)) split
      → IsFirstKept f limits ((suc k, true) ∷ ((suc k, false) ∷ ((k, true) ∷ ((k, false) ∷ rest)))) split
  from_two rest split h = elim h [
    | inl p ↦ inl (kept_up true split p)
    | inr q ↦ inr (
      not_up true q.0,
      elim q.1 [
        | inl p ↦ inl (kept_up false split p)
        | inr r ↦ inr (not_up false r.0, inr (q.0, inr (r.0, r.1)))
      ],
    )
  ]

  pub same_first : (split : List Part) → IsFirstKept f limits (shrinking k) split → IsFirstKept f limits (shrinking (suc k)) split
  same_first split h =
      let b = begins k in
      subst (λ cs. IsFirstKept f limits ((suc k, true) ∷ ((suc k, false) ∷ cs)) split) (sym b.1)
      (from_two b.0 split (subst (λ cs. IsFirstKept f limits cs split) b.1 h))
    where
      begins : (n : ℕ) → (rest : List (ℕ × Bool)) × (shrinking n ≡ (n, true) ∷ ((n, false) ∷ rest))
      begins zero = ([], refl)
      begins (suc n) = (shrinking n, refl)

-- where none on more than these keeps the limits, what is first of the splits on these or fewer is first of all
pub first_of_more : (f : Program) (limits : Limits) (k left : ℕ) → ((n : ℕ) → left < n → n ≤ k → (all : Bool) (other : List Part) → IsKept f limits n all other → ⊥)
    → (more : ℕ) → more + left ≤ k → (split : List Part) → IsFirstKept f limits (shrinking left) split → IsFirstKept f limits (shrinking (more + left)) split
first_of_more f limits k left none zero le split first =
    let same : left ≡ zero + left = omega arith in
    subst (λ n. IsFirstKept f limits (shrinking n) split) same first
first_of_more f limits k left none (suc more) le split first =
    let n : ℕ = more + left in
    let same : suc n ≡ suc more + left = omega arith in
    let none_here = none (suc n) (omega arith) (omega (arith, le)) in
    let rest : IsFirstKept f limits (shrinking n) split = first_of_more f limits k left none more (omega (arith, le)) split first in
    let here : IsFirstKept f limits (shrinking (suc n)) split = inr (none_here true, inr (none_here false, rest)) in
    subst (λ m. IsFirstKept f limits (shrinking m) split) same here
