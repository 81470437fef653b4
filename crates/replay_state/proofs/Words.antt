-- The list of decided packets, and what a packet's progress says.
use Rattle.std.specs.Prelude.{ℕ, Bool, List, Option, Some, None, filter, is_some, nat_le, nat_lt}
use Rattle.packet_fields.specs.declared.verdict.Verdict.{Verdict}
use Rattle.std.specs.Option.{option_map}
use Rattle.run_model.proofs.SerialSort as fates
use Rattle.run_model.specs.Serialises as run
use Rattle.replay_state.specs.Answers.{Answers}
use Rattle.replay_state.specs.State.{Progress, Entered, Held, Slow, Fast, fate_of}
use Rattle.run_model.specs.declared.serial.Decided.{Decided}

-- the entries of versions up to v, and the later ones
abbrev pub upto : ℕ → List Decided → List Decided
upto v es = filter (λ e. nat_le e.version v) es

abbrev pub beyond : ℕ → List Decided → List Decided
beyond v es = filter (λ e. nat_lt v e.version) es

-- the version over which a packet entered, or was decided
abbrev pub version_at : Option Progress → Option ℕ
version_at (Some (Entered a v)) = Some v
version_at (Some (Held a d v y)) = Some v
version_at (Some (Slow a d v y r)) = Some v
version_at (Some (Fast a d v y)) = Some v
version_at o = None

-- where a packet of this number stands, if it is decided
abbrev pub entry_of : ℕ → Option Progress → Option Decided
entry_of n o = fates.entry_of n (option_map fate_of o)

abbrev pub is_decided : Option Progress → Bool
is_decided o = is_some (run.decided_at (option_map fate_of o))

-- the events that admitted and released it
abbrev pub admitted_at : Option Progress → Option ℕ
admitted_at o = run.admitted_at (option_map fate_of o)

abbrev pub released_at : Option Progress → Option ℕ
released_at (Some (Slow a d v y r)) = Some r
released_at (Some (Fast a d v y)) = Some d
released_at o = None

-- the verdict of a decided packet: of one that is held it is that of the run that decided it
abbrev pub verdict_at : Answers → ℕ → Option Progress → Option Verdict
verdict_at a n (Some (Held e d v over)) = Some (a.post over n)
verdict_at a n (Some (Slow e d v y r)) = Some y
verdict_at a n (Some (Fast e d v y)) = Some y
verdict_at a n o = None
