-- Only proofs need this. What a try gives, and a step down the list.
use Rattle.std.specs.Prelude.{◌≡◌, ℕ, suc, ◌<◌, Bool, false, List, Option, Some, None}
use Rattle.flat_ir.specs.Program.{Program}
use Rattle.split_model.specs.declared.split.Part.{Part}
use Rattle.resource_limits.specs.declared.limits.Limits.{Limits}
use Rattle.resource_limits.specs.declared.exceeding.Over.{Over}
use Rattle.resource_limits.specs.declared.exceeding.LimitName.TheVariants.{TransferBytes}
use Rattle.resource_limits.specs.Counts.{counts_of}
use Rattle.resource_limits.specs.Kept.{KeepsLimits, first_excess}
use Rattle.partition.specs.declared.trying.Tried.{Tried}
use Rattle.partition.specs.declared.trying.Tried.TheVariants.{Kept, Exceeding}
use Rattle.partition.specs.declared.choosing.Outcome.{Outcome}
use Rattle.partition.specs.declared.choosing.Outcome.TheVariants.{Found, Left}
use Rattle.partition.specs.Choice.{IsKept, IsExceeded, IsFirstKept, shrinking}

-- a split that keeps the limits, so that there is no first limit that it exceeds
pub record IsTriedKept (f : Program) (limits : Limits) (k : ℕ) (all : Bool) (split : List Part) : Type 0 where
  pub kept : IsKept f limits k all split
  pub none : first_excess (counts_of f split limits.writeback) limits ≡ None

-- a first limit that is exceeded, so that the split doesn't keep all of them
pub record IsTriedExceeded (f : Program) (limits : Limits) (k : ℕ) (all : Bool) (over : Over) : Type 0 where
  pub exceeded : IsExceeded f limits k all over
  pub broken : KeepsLimits f exceeded.split limits → ⊥

abbrev pub IsTried : Program → Limits → ℕ → Bool → Tried → Type 0
IsTried f limits k all (Kept split) = IsTriedKept f limits k all split
IsTried f limits k all (Exceeding over) = IsTriedExceeded f limits k all over

-- the greatest split on the first k instructions, where it keeps the limits
abbrev pub IsFound : Program → Limits → ℕ → Bool → Option (List Part) → Type 0
IsFound f limits k all (Some split) = IsKept f limits k all split
IsFound f limits k all None = (other : List Part) → IsKept f limits k all other → ⊥

-- without postprocessing, the greatest split on the first k instructions exceeds a limit, and first another one than
-- that of the headers
pub record IsTooMuch (f : Program) (limits : Limits) (k : ℕ) : Type 0 where
  pub over : Over
  pub exceeded : IsExceeded f limits k false over
  pub other : over.limit ≡ TransferBytes → ⊥

-- fewer instructions are left, and one more than these is too much
pub record IsMostLeft (f : Program) (limits : Limits) (k left : ℕ) : Type 0 where
  pub fewer : left < k
  pub much : IsTooMuch f limits (suc left)

-- fewer instructions are left, and what is first of the splits on these or fewer is first of those on k or fewer
pub record IsLeft (f : Program) (limits : Limits) (k left : ℕ) : Type 0 where
  pub fewer : left < k
  pub first : (split : List Part) → IsFirstKept f limits (shrinking left) split → IsFirstKept f limits (shrinking k) split

-- a split that is the first of those on k instructions or fewer, or what is left of these
abbrev pub IsStep : Program → Limits → ℕ → Outcome → Type 0
IsStep f limits k (Found split) = IsFirstKept f limits (shrinking k) split
IsStep f limits k (Left left) = IsLeft f limits k left
