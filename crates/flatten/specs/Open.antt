-- Blocks that are still open because a run may have ended in front of them. Only proofs and private contracts need it.
use Rattle.std.specs.Prelude.{ℕ, List, [], ◌∷◌}
use Rattle.flatten.specs.declared.stretch.Pending.{Pending}
use Rattle.flatten.specs.Flatten.{View, At, join}
use Rattle.flatten.specs.Journal.{before}

-- the state from which on the outermost journal is kept, from the one of the innermost
abbrev pub outermost : List Pending → View → View
outermost [] start = start
outermost (p ∷ ps) start = before p.outer (outermost ps start)

-- A state behind the innermost block, joined with those in front of each, of which the innermost is `start`.
abbrev pub closed : List ℕ → List Pending → View → At → At
closed widths [] start r = r
closed widths (p ∷ ps) start r = join widths p.place p.ended (outermost ps start) (closed widths ps start r)
