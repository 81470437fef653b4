-- States from which those before are had again. Only proofs and private contracts need it.
use Rattle.flatten.specs.declared.journal.Tracked.{Tracked}
use Rattle.flatten.specs.Flatten.{View}
use Rattle.flatten.specs.Journal.{before}

-- the state from which on the journal is kept
abbrev pub started : Tracked → View
started w = before w.journal w.state
