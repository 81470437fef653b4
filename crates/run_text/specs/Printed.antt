-- The texts of a trace and of a schedule as they are printed.
use Rattle.std.specs.Prelude.{◌≡◌, ℕ, Bool, true, false, List, [], ◌∷◌, ◌++◌, codes, decimal, map, nat_le, Result, Ok}
use Rattle.std.specs.List.{list_all}
use Rattle.gal_io.specs.Lines.{is_skipped, lined}
use Rattle.packet_fields.specs.declared.packet.Packet.{Packet}
use Rattle.run_model.specs.declared.event.Event.{Event}
use Rattle.run_model.specs.declared.event.Event.TheVariants.{Admit, Stage, Serve, Send, Apply, Ack, Hold, Down}
use Rattle.run_text.specs.declared.plan.Plan.{Plan}
use Rattle.run_text.specs.declared.refusal.LineKind.{LineKind}
use Rattle.run_text.specs.Report.{body_text}

-- lines, each with its end

-- A line that is read as this value: no byte of it ends a line, and it isn't skipped.
pub record IsLineOf {X : Type 0} (value : List ℕ → Result X LineKind) (line : List ℕ) (x : X) : Type 0 where
  pub whole : list_all (λ byte. nat_le 32 byte) line ≡ true
  pub told : is_skipped line ≡ false
  pub says : value line ≡ Ok x

abbrev pub packet_text : Packet → List ℕ
packet_text packet = decimal packet.port ++ (codes " " ++ body_text packet.bytes)

-- a line for each packet
abbrev pub trace_text : List Packet → List ℕ
trace_text packets = lined (map packet_text packets)

abbrev pub event_text : Event → List ℕ
event_text Admit = codes "a"
event_text (Stage j) = codes "s " ++ decimal j
event_text (Serve j) = codes "u " ++ decimal j
event_text Send = codes "c"
event_text Apply = codes "w"
event_text Ack = codes "k"
event_text (Hold j) = codes "h " ++ decimal j
event_text (Down j) = codes "d " ++ decimal j

abbrev pub drain_lines : Bool → List (List ℕ)
drain_lines true = codes "drain" ∷ []
drain_lines false = []

abbrev pub fine_lines : Bool → List (List ℕ)
fine_lines true = codes "fine" ∷ []
fine_lines false = []

-- a line for each event, with `fine` before them and `drain` behind them where these are asked for
abbrev pub schedule_text : Plan → List ℕ
schedule_text plan =
    lined (fine_lines plan.fine) ++ (lined (map event_text plan.events) ++ lined (drain_lines plan.drain))
