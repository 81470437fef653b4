-- Lists that are made one after the other.
use Rattle.std.proofs.Common.{◌≡◌, ℕ, zero, suc, ◌+◌, ◌-◌, ◌<◌, ◌⊎◌, inl, inr, List, [], ◌∷◌, ◌++◌, length, slice_index_or, refl, sym, ap, subst, ◌∙◌, arith, length-append}
use Rattle.std.proofs.Math.Nat.{eq-or-lt_of_le}

pub old_pushed : (A : Type 0) (xs : List A) (x d : A) (i : ℕ) → i < length xs → slice_index_or (xs ++ x ∷ []) i d ≡ slice_index_or xs i d
old_pushed A [] x d i within = absurd (omega (arith, within))
old_pushed A (y ∷ xs) x d zero within = refl
old_pushed A (y ∷ xs) x d (suc i) within = old_pushed A xs x d i (omega (arith, within))

pub last_pushed : (A : Type 0) (xs : List A) (x d : A) → slice_index_or (xs ++ x ∷ []) (length xs) d ≡ x
last_pushed A [] x d = refl
last_pushed A (y ∷ xs) x d = last_pushed A xs x d

pub one_longer : (A : Type 0) (xs xs' : List A) (x : A) (n : ℕ) → xs' ≡ xs ++ x ∷ [] → length xs ≡ n → length xs' ≡ n + 1
one_longer A xs xs' x n is many = ap length is ∙ length-append xs (x ∷ []) ∙ ap (λ (k : ℕ). k + 1) many

-- what holds of each holds of one more
pub each_pushed : (A : Type 0) (P : ℕ → A → Type 0) (xs xs' : List A) (x d : A) (n : ℕ) → xs' ≡ xs ++ x ∷ [] → length xs ≡ n
    → ((i : ℕ) → i < n → P i (slice_index_or xs i d)) → P n x → (i : ℕ) → i < n + 1 → P i (slice_index_or xs' i d)
each_pushed A P xs xs' x d n is many each here i within =
    subst (λ (ys : List A). P i (slice_index_or ys i d)) (sym is) (by_place (eq-or-lt_of_le (omega (arith, within))))
  where
    by_place : (i ≡ n) ⊎ (i < n) → P i (slice_index_or (xs ++ x ∷ []) i d)
    by_place (inl last) =
        let place : i ≡ length xs = omega (arith, last, many) in
        let found : slice_index_or (xs ++ x ∷ []) i d ≡ x = ap (λ (k : ℕ). slice_index_or (xs ++ x ∷ []) k d) place ∙ last_pushed A xs x d in
        subst (λ (y : A). P i y) (sym found) (subst (λ (k : ℕ). P k x) (sym last) here)
    by_place (inr before) =
        subst (λ (y : A). P i y) (sym (old_pushed A xs x d i (omega (arith, before, many)))) (each i before)
