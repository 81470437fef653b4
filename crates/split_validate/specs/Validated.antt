-- Which splits are taken, and why one isn't.
use Rattle.std.specs.Prelude.{◌≡◌, List, Some}
use Rattle.flat_ir.specs.Program.{Program}
use Rattle.split_model.specs.declared.split.Part.{Part}
use Rattle.split_model.specs.Legal.{IsLegal, IsFirstBroken}
use Rattle.resource_limits.specs.declared.limits.Limits.{Limits}
use Rattle.resource_limits.specs.declared.exceeding.Over.{Over}
use Rattle.resource_limits.specs.Counts.{counts_of}
use Rattle.resource_limits.specs.Kept.{KeepsLimits, first_excess}
use Rattle.split_validate.specs.declared.validating.Illegal.{Illegal}
use Rattle.split_validate.specs.declared.validating.Illegal.TheVariants.{Rule, Exceeds, NoMemory}

-- the split is legal and keeps the limits
pub record IsAccepted (f : Program) (split : List Part) (limits : Limits) : Type 0 where
  pub legal : IsLegal f split
  pub keeps : KeepsLimits f split limits

-- the split is legal and exceeds a limit, and this one first
pub record IsExceeding (f : Program) (split : List Part) (limits : Limits) (over : Over) : Type 0 where
  pub legal : IsLegal f split
  pub first : first_excess (counts_of f split limits.writeback) limits ≡ Some over

-- A refusal names the lowest broken rule at the first instruction that breaks it, or else the first exceeded limit;
-- want of memory is free.
abbrev pub IsCause : Program → List Part → Limits → Illegal → Type 0
IsCause f split limits (Rule rule instruction) = IsFirstBroken f split rule instruction
IsCause f split limits (Exceeds over) = IsExceeding f split limits over
IsCause f split limits NoMemory = Unit {0}
