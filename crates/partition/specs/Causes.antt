-- Why there is no split.
use Rattle.std.specs.Prelude.{Bool}
use Rattle.flat_ir.specs.Program.{Program}
use Rattle.resource_limits.specs.declared.limits.Limits.{Limits}
use Rattle.partition.specs.declared.choosing.PartitionError.{PartitionError}
use Rattle.partition.specs.declared.choosing.PartitionError.TheVariants.{Exceeds, NoMemory}
use Rattle.partition.specs.Choice.{IsRefused}

-- a refusal names the first limit that is exceeded; want of memory is free
abbrev pub IsCause : Program → Limits → Bool → PartitionError → Type 0
IsCause f limits shrink (Exceeds over) = IsRefused f limits shrink over
IsCause f limits shrink NoMemory = Unit {0}
