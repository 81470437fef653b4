-- Tests that some number below a bound passes.
use Rattle.std.proofs.Common.{◌≡◌, ℕ, zero, suc, ◌<◌, Bool, true, inl, inr, ap, sym, ◌∙◌, arith}
use Rattle.std.proofs.lemmas.Bool.{or_left, or_right, or_cases}
use Rattle.flat_ir.specs.Program.{any_below}
use Rattle.lemmas.proofs.Numbers.{below_suc}

pub any_passes : (n : ℕ) (test : ℕ → Bool) (i : ℕ) → i < n → test i ≡ true → any_below n test ≡ true
any_passes zero test i h t = absurd (omega arith)
any_passes (suc n) test i h t = elim (below_suc i n h) [
  | inl lt ↦ or_left _ _ (any_passes n test i lt t)
  | inr e ↦ or_right (any_below n test) (test n) (ap test (sym e) ∙ t)
]

-- a number below the bound that passes
pub passes_any : (n : ℕ) (test : ℕ → Bool) → any_below n test ≡ true → (i : ℕ) × (i < n) × (test i ≡ true)
passes_any zero test h = cc
passes_any (suc n) test h = elim (or_cases (any_below n test) (test n) h) [
  | inl p ↦ let found = passes_any n test p in (found.0, omega (arith, found.1), found.2)
  | inr q ↦ (n, omega arith, q)
]
