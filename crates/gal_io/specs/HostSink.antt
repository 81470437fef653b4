-- What a writer of the system takes.
use Rattle.std.specs.Prelude.{ℕ, List, take, Option}
use Rattle.std.specs.Io.KnownBytes.{Appends, Keeps}
use Rattle.gal_io.specs.declared.sink.SinkEnd.{SinkEnd}
use Rattle.gal_io.specs.declared.sink.SinkEnd.TheVariants.{Done, Failed, NoMemory}

-- what a writer, whose bytes may be known, took of a piece
abbrev pub Wrote : SinkEnd → Option (List ℕ) → Option (List ℕ) → List ℕ → Type 0
Wrote Done old new piece = Appends old new piece
Wrote Failed old new piece = (count : ℕ) × Appends old new (take count piece)
Wrote NoMemory old new piece = Keeps old new
