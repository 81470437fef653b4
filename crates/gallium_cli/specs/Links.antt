-- What a replay over links is told.
use Rattle.std.specs.Prelude.{◌≡◌, ◌≤◌, ℕ, List, ◌++◌, ◌∷◌, length, Option, IfSome, IsSome, IsSomeAnd, Ok, true, IsTrue}
use Rattle.std.specs.Prelude.{codes, decimal}
use Rattle.gal_io.specs.Lines.{line_end}
use Rattle.packet_fields.specs.declared.packet.Packet.{Packet}
use Rattle.element_lang.specs.Tree.{Tree}
use Rattle.run_model.specs.declared.event.Event.{Event}
use Rattle.run_model.specs.declared.event.Event.TheVariants.{Admit}
use Rattle.run_model.specs.declared.link_event.LinkEvent.{LinkEvent}
use Rattle.run_model.specs.declared.run.Run.{Run as RunTold}
use Rattle.run_model.specs.Serialises.{Serialises, AllReleased, IsDrained}
use Rattle.run_text.specs.LinkSchedule.{link_schedule_of}
use Rattle.run_text.specs.Report.{report_of}
use Rattle.run_text.specs.Trace.{trace_of}
use Rattle.switch_ir.specs.Port.{PortState}
use Rattle.replay_state.specs.Drain.{is_quiet}
use Rattle.replay_state.specs.Run.{job_run}
use Rattle.replay_state.specs.State.{State}
use Rattle.replay_state.specs.Step.{applies}
use Rattle.split_answers.specs.Through.{HasTables}
use Rattle.replay_contracts.specs.Inputs.{Inputs, setup_for, whole_runs}
use Rattle.replay_contracts.specs.Promise.{state_for}
use Rattle.lossy_replay.specs.Linked.{linked_of}
use Rattle.lossy_replay.specs.Replay.{HasEnds, IsLinkedReplay, events_through, world_of}
use Rattle.lossy_replay.specs.declared.run.LossyRun.{LossyRun}
use Rattle.lossy_replay.specs.declared.run.Tally4.{Tally4}
use Rattle.run_audit.specs.Source.{source_of}
use Rattle.gallium_cli.specs.Roles.{trace, link_schedule, size_of}
use Rattle.gallium_cli.specs.Seen.{IsFastAsSeen}

-- ## The lines of links

-- a word and a number
abbrev pub count_text : List ℕ → ℕ → List ℕ
count_text word count = word ++ decimal count

-- how many items were given to a link, how many datagrams were sent on it, and how many items were delivered and are
-- known to be
abbrev pub link_line : List ℕ → Tally4 → List ℕ
link_line name tally =
    codes "link " ++ (name ++ (count_text (codes " items ") tally.items ++ (count_text (codes " sent ") tally.sent
    ++ (count_text (codes " delivered ") tally.delivered ++ (count_text (codes " known ") tally.known ++ line_end)))))

abbrev pub link_lines : LossyRun → List ℕ
link_lines run =
    link_line (codes "up") run.up.tally ++ (link_line (codes "down") run.down.tally
    ++ (link_line (codes "ctl") run.ctl.tally ++ link_line (codes "ack") run.ack.tally))

-- ## Replays over links

-- the told contents spell these packets, and these events
pub record IsLinkTraffic (told : List ℕ → Option (List ℕ)) (t c : List ℕ) (packets : List Packet)
    (events : List LinkEvent) : Type 0 where
  pub trace_is : IfSome (told t) (λ text. (length text ≤ size_of trace) × (trace_of text ≡ Ok packets))
  pub schedule_is : IfSome (told c) (λ text. (length text ≤ size_of link_schedule) × (link_schedule_of text ≡ Ok events))

-- the state of whole packets behind the events that come through
abbrev pub end_through : Inputs → List LinkEvent → State
end_through x events = state_for x (events_through x events)

-- What a switch that tells its tables makes of a schedule over links: a serial run of the source.
pub record IsSerialOverLinks (m : Tree) (x : Inputs) (events : List LinkEvent) (run : RunTold) (port : PortState)
    : Type 0 where
  -- it is the run of whole packets by the events that come through
  pub run_is : run ≡ job_run (setup_for x) (whole_runs x) (events_through x events)
  -- what it releases, and what it leaves, is what the source does to the decided packets in the reported order
  pub serialises : Serialises (source_of m x.packets) run
  -- each packet that such an event admits is fast just where lookups saw it so
  pub fast : (before behind : List Event) → events_through x events ≡ before ++ Admit ∷ behind
      → applies (setup_for x) (state_for x before) Admit ≡ true → IsFastAsSeen x before run
  -- where nothing is left on its way, every admitted packet was released with its verdict, and the switch has the
  -- server's tables
  pub quiet : IsTrue (is_quiet (end_through x events)) → AllReleased (source_of m x.packets) run
  pub tables : IsTrue (is_quiet (end_through x events))
      → IsSomeAnd port.told (HasTables x.program x.split x.writeback (end_through x events).store)
  -- and where it says `drained`, every packet of the trace was
  pub drained : run.drained ≡ true → IsDrained (source_of m x.packets) run

-- What comes of a replay over links. Whatever the switch answers, it tells what the calls of the switch make of the
-- schedule, and the links are those behind it; where the switch tells its tables, this very run is a serial run of the
-- source, and the links are those of whole packets.
pub record IsLinkReplayed (m : Tree) (x : Inputs) (events : List LinkEvent) (run : LossyRun) (port port_after : PortState)
    : Type 0 where
  pub linked : IsLinkedReplay x events run port_after
  pub serial : IsSome port.told → IsSerialOverLinks m x events run.run port_after
  pub ends : IsSome port.told → HasEnds (linked_of (setup_for x) (world_of x) events) run

-- a text that reports what comes of it, with a line for each link
abbrev pub IsLinkReport : List ℕ → Tree → Inputs → List LinkEvent → LossyRun → PortState → PortState → Type 0
IsLinkReport text m x events run port port_after =
    (text ≡ report_of m.objects run.run ++ link_lines run) × IsLinkReplayed m x events run port port_after
