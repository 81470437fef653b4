-- Tests that some number below a bound passes.
use Rattle.std.proofs.Common.{◌≡◌, ℕ, ◌+◌, Bool, true, false, ◌&&◌, ◌||◌, refl, ap, sym, add-one}
use Rattle.split_model.specs.Split.{any_below}

pub any_more : (n : ℕ) (test : ℕ → Bool) → (any_below n test || test n) ≡ any_below (n + 1) test
any_more n test = ap (λ m. any_below m test) (sym (add-one n))

pub with_true : (a b : Bool) → a ≡ true → b ≡ (a && b)
with_true true b h = refl
with_true false b h = cc
