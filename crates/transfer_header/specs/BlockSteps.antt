-- A step for each block, the root first.
use Rattle.std.specs.Prelude.{ℕ, zero, suc, max, Bool, List, length, slice_index, if◌then◌else◌}

-- the step, where the test passes
abbrev pub step_if : Bool → ℕ → ℕ
step_if b step = if b then step else 0

-- the greatest step of those of the first n blocks that pass a test, 0 where none does
abbrev pub greatest_below : ℕ → (ℕ → Bool) → List ℕ → ℕ
greatest_below zero test steps = 0
greatest_below (suc n) test steps = max (greatest_below n test steps) (step_if (test n) (slice_index steps n))

-- the greatest step of the blocks that pass a test
abbrev pub greatest : (ℕ → Bool) → List ℕ → ℕ
greatest test steps = greatest_below (length steps) test steps
