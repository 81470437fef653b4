-- Flat programs that have too many instructions.
use Rattle.std.specs.Prelude.{◌<◌, length}
use Rattle.flatten.specs.declared.error.FlatError.{FlatError}
use Rattle.flatten.specs.declared.error.FlatError.TheVariants.{TooLarge, NoMemory}
use Rattle.flatten.specs.Flatten.{Emitted}

-- the cause of an error: there are more instructions than may be; memory may be wanted at any time
abbrev pub IsOver : Emitted → FlatError → Type 0
IsOver g TooLarge = 4096 < length g.code
IsOver g NoMemory = Unit {0}
