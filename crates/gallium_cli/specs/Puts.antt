-- What a text on out leads to.
use Rattle.std.specs.Prelude.{◌≡◌, ℕ, List, take}
use Rattle.std.specs.Io.KnownBytes.{append_known}
use Rattle.gal_io.specs.Count.{Rose}
use Rattle.gal_io.specs.Sink.{SinkState}
use Rattle.gallium_cli.specs.declared.refusal.Refusal.{Refusal}
use Rattle.gallium_cli.specs.declared.refusal.Refusal.TheVariants.{WriteFault, NoMemory}

-- the text was taken whole, and no write failed
abbrev pub IsPut : List ℕ → SinkState → SinkState → Type 0
IsPut text o o' = (o'.taken ≡ append_known o.taken text) × (o'.faults ≡ o.faults)

-- some first bytes of it were taken and the count rose, or no memory was found and all is as before
abbrev pub IsNotPut : Refusal → List ℕ → SinkState → SinkState → Type 0
IsNotPut WriteFault text o o' = Rose o.faults o'.faults × (n : ℕ) × (o'.taken ≡ append_known o.taken (take n text))
IsNotPut NoMemory text o o' = o' ≡ o
IsNotPut _ text o o' = ⊥
