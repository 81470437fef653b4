-- What becomes of the fate of a packet. Where there is no packet, what is said doesn't matter: nothing is written there.
use Rattle.std.specs.Prelude.{ℕ, Option, Some, None}
use Rattle.packet_fields.specs.declared.verdict.Verdict.{Verdict}
use Rattle.run_model.specs.declared.fate.Fate.{Fate}
use Rattle.run_model.specs.declared.fate.Fate.TheVariants.{Pass, Up, Held, Slow, Fast}

-- the switch finished it, over this version
abbrev pub finished : ℕ → ℕ → Verdict → Option Fate → Fate
finished event version verdict (Some (Pass a)) = Fast a event version event verdict
finished event version verdict (Some (Up a)) = Up a
finished event version verdict (Some (Held a d v)) = Held a d v
finished event version verdict (Some (Slow a d v r y)) = Slow a d v r y
finished event version verdict (Some (Fast a d v r y)) = Fast a d v r y
finished event version verdict None = Up 0

-- it goes up to the server
abbrev pub went_up : Option Fate → Fate
went_up (Some (Pass a)) = Up a
went_up (Some (Up a)) = Up a
went_up (Some (Held a d v)) = Held a d v
went_up (Some (Slow a d v r y)) = Slow a d v r y
went_up (Some (Fast a d v r y)) = Fast a d v r y
went_up None = Up 0

-- the server ran it
abbrev pub decided : ℕ → ℕ → Option Fate → Fate
decided event version (Some (Up a)) = Held a event version
decided event version (Some (Pass a)) = Pass a
decided event version (Some (Held a d v)) = Held a d v
decided event version (Some (Slow a d v r y)) = Slow a d v r y
decided event version (Some (Fast a d v r y)) = Fast a d v r y
decided event version None = Up 0

-- it was released
abbrev pub released : ℕ → Verdict → Option Fate → Fate
released event verdict (Some (Held a d v)) = Slow a d v event verdict
released event verdict (Some (Pass a)) = Pass a
released event verdict (Some (Up a)) = Up a
released event verdict (Some (Slow a d v r y)) = Slow a d v r y
released event verdict (Some (Fast a d v r y)) = Fast a d v r y
released event verdict None = Up 0
