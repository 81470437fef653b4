-- What is told of a replay of made packets.
use Rattle.std.specs.Prelude.{ℕ, Bool, true, false, not, ◌&&◌, List, ◌++◌, Option, Some, None, if◌then◌else◌}
use Rattle.std.specs.Prelude.{codes, decimal, count_by}
use Rattle.packet_fields.specs.declared.verdict.Verdict.{Verdict}
use Rattle.packet_fields.specs.declared.verdict.Verdict.TheVariants.{Drop, Send}
use Rattle.run_model.specs.declared.fate.Fate.{Fate}
use Rattle.run_model.specs.declared.run.Run.{Run}
use Rattle.run_model.specs.Fate.{is_decided}
use Rattle.run_model.specs.Serialises.{is_fast, released_at}

-- the switch decided it alone
abbrev pub went_fast : Fate → Bool
went_fast fate = is_fast (Some fate)

-- the server decided it, and it was released or not
abbrev pub went_slow : Fate → Bool
went_slow fate = is_decided fate && not (went_fast fate)

abbrev pub is_drop : Option (ℕ × Verdict) → Bool
is_drop None = false
is_drop (Some (event, Drop)) = true
is_drop (Some (event, Send port bytes)) = false

-- it was released as a packet that goes no further
abbrev pub was_dropped : Fate → Bool
was_dropped fate = is_drop (released_at (Some fate))

-- ## The text

-- a name and a number
abbrev pub number_line : List ℕ → ℕ → List ℕ
number_line name number = name ++ (codes " " ++ (decimal number ++ codes "\n"))

abbrev pub heading_line : ℕ → ℕ → List ℕ
heading_line seed count = codes "gen " ++ (decimal seed ++ (codes " " ++ (decimal count ++ codes "\n")))

abbrev pub drained_line : Bool → List ℕ
drained_line drained = if drained then codes "drained yes\n" else codes "drained no\n"

-- how many packets there were, how many of them were decided by the switch alone and by the server, and how many were
-- dropped
abbrev pub packets_text : Run → List ℕ
packets_text run =
    number_line (codes "packets") run.total ++ (number_line (codes "fast") (count_by went_fast run.fates)
    ++ (number_line (codes "slow") (count_by went_slow run.fates)
    ++ number_line (codes "dropped") (count_by was_dropped run.fates)))

-- the version of the server's store, how many commands there were for the switch, and how many events
abbrev pub events_text : Run → ℕ → List ℕ
events_text run commands =
    number_line (codes "version") run.version ++ (number_line (codes "commands") commands
    ++ (number_line (codes "events") run.events ++ number_line (codes "idle") run.idle))

abbrev pub summary_of : ℕ → ℕ → Run → ℕ → List ℕ
summary_of seed count run commands =
    heading_line seed count ++ (packets_text run ++ (events_text run commands
    ++ (drained_line run.drained ++ codes "end\n")))
