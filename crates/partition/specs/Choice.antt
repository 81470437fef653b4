-- Which split is chosen, and when none is.
use Rattle.std.specs.Prelude.{◌≡◌, ◌⊎◌, ◌≤◌, ℕ, zero, suc, Bool, true, false, List, [], ◌∷◌, Some, length}
use Rattle.flat_ir.specs.Program.{Program}
use Rattle.split_model.specs.declared.split.Part.{Part}
use Rattle.split_model.specs.Greatest.{IsGreatestSplit}
use Rattle.resource_limits.specs.declared.limits.Limits.{Limits}
use Rattle.resource_limits.specs.declared.exceeding.Over.{Over}
use Rattle.resource_limits.specs.Counts.{counts_of}
use Rattle.resource_limits.specs.Kept.{KeepsLimits, first_excess}

-- the greatest split on the first k instructions, which keeps the limits
pub record IsKept (f : Program) (limits : Limits) (k : ℕ) (all : Bool) (split : List Part) : Type 0 where
  pub greatest : IsGreatestSplit f k all split
  pub keeps : KeepsLimits f split limits

-- the greatest split on the first k instructions exceeds a limit, and this one first
pub record IsExceeded (f : Program) (limits : Limits) (k : ℕ) (all : Bool) (over : Over) : Type 0 where
  pub split : List Part
  pub greatest : IsGreatestSplit f k all split
  pub exceeds : first_excess (counts_of f split limits.writeback) limits ≡ Some over

-- what shrinking tries, from n instructions down to none, each with and without postprocessing
abbrev pub shrinking : ℕ → List (ℕ × Bool)
shrinking zero = (0, true) ∷ ((0, false) ∷ [])
shrinking (suc n) = (suc n, true) ∷ ((suc n, false) ∷ shrinking n)

-- the first of these kinds whose greatest split keeps the limits: that of no kind before it does
abbrev pub IsFirstKept : Program → Limits → List (ℕ × Bool) → List Part → Type 0
IsFirstKept f limits [] split = ⊥
IsFirstKept f limits (c ∷ cs) split =
    IsKept f limits c.0 c.1 split
    ⊎ (((other : List Part) → IsKept f limits c.0 c.1 other → ⊥) × IsFirstKept f limits cs split)

-- each greatest split on the first n instructions or fewer exceeds a limit
abbrev pub AllExceeded : Program → Limits → ℕ → Type 0
AllExceeded f limits n = (k : ℕ) (all : Bool) → k ≤ n → (over : Over) × IsExceeded f limits k all over

-- what is chosen: the greatest split of all instructions, or by shrinking the first that keeps the limits
abbrev pub IsChosen : Program → Limits → Bool → List Part → Type 0
IsChosen f limits false split = IsKept f limits (length f.code) true split
IsChosen f limits true split = IsFirstKept f limits (shrinking (length f.code)) split

-- why nothing is chosen: the greatest split exceeds this limit first. By shrinking something always is.
abbrev pub IsRefused : Program → Limits → Bool → Over → Type 0
IsRefused f limits false over = IsExceeded f limits (length f.code) true over
IsRefused f limits true over = ⊥

-- nothing is refused: the greatest split exceeds no limit, or it may shrink
abbrev pub IsUnrefused : Program → Limits → Bool → Type 0
IsUnrefused f limits shrink = (over : Over) → IsRefused f limits shrink over → ⊥
