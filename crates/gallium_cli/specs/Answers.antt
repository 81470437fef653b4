-- What a text on out says.
use Rattle.std.specs.Prelude.{◌≡◌, ◌≤◌, ◌⊎◌, ℕ, List, ◌∷◌, ◌++◌, length, slice_get, Option, IfSome, IsSome, IsSomeAnd}
use Rattle.std.specs.Prelude.{Ok, Bool, true, false, IsTrue, codes, decimal}
use Rattle.std.specs.List.{AllByRecursion as Each}
use Rattle.gal_io.specs.Lines.{line_end}
use Rattle.packet_fields.specs.declared.packet.Packet.{Packet}
use Rattle.state_store.specs.Store.{start_store}
use Rattle.element_lang.specs.Tree.{Tree}
use Rattle.element_lang.specs.Meaning.{serial_store, serial_verdicts}
use Rattle.flat_ir.specs.Arrivals.{IsArrival}
use Rattle.flat_ir.specs.Program.{Program}
use Rattle.flat_ir.specs.Listing.{listing}
use Rattle.flatten.specs.Flatten.{flat_of}
use Rattle.split_model.specs.declared.split.Part.{Part}
use Rattle.split_model.specs.Legal.{IsLegal}
use Rattle.split_model.specs.Bounds.{IsBounded}
use Rattle.split_validate.specs.SplitText.{split_text}
use Rattle.split_validate.specs.CountsText.{counts_text}
use Rattle.split_validate.specs.SplitLines.{IsSplitText}
use Rattle.split_validate.specs.Validated.{IsAccepted}
use Rattle.resource_limits.specs.declared.limits.Limits.{Limits}
use Rattle.resource_limits.specs.Counts.{counts_of}
use Rattle.resource_limits.specs.Kept.{KeepsLimits}
use Rattle.resource_limits.specs.Limits.{AreInRange}
use Rattle.partition.specs.Choice.{IsChosen}
use Rattle.run_text.specs.declared.plan.Plan.{Plan}
use Rattle.run_text.specs.Trace.{trace_of, schedule_of}
use Rattle.run_text.specs.Report.{report_of}
use Rattle.run_text.specs.Answer.{answer_of}
use Rattle.run_text.specs.Printed.{trace_text}
use Rattle.pcap_trace.specs.declared.pcap.Pcap.{Pcap}
use Rattle.pcap_trace.specs.Format.{pcap_bytes}
use Rattle.pcap_trace.specs.Packets.{packets_of, pcap_of}
use Rattle.split_model.specs.Greatest.{IsGreatestSplit}
use Rattle.run_model.specs.declared.event.Event.{Event}
use Rattle.run_model.specs.declared.event.Event.TheVariants.{Admit}
use Rattle.run_model.specs.declared.link_event.LinkEvent.{LinkEvent}
use Rattle.run_model.specs.declared.run.Run.{Run as RunTold}
use Rattle.run_model.specs.Parts.{parts_of}
use Rattle.run_model.specs.Sizes.{most_events, most_packets}
use Rattle.run_model.specs.Serialises.{Serialises, AllReleased, IsDrained, is_passing}
use Rattle.switch_ir.specs.Port.{PortState}
use Rattle.replay_state.specs.Drain.{is_quiet, plan_events}
use Rattle.replay_state.specs.Program.{manner_of}
use Rattle.replay_state.specs.Run.{job_run}
use Rattle.replay_state.specs.State.{State}
use Rattle.replay_state.specs.Step.{applies}
use Rattle.replay_state.specs.Views.{KeepViews}
use Rattle.split_answers.specs.Through.{HasTables}
use Rattle.replay_contracts.specs.declared.job.Replayed.{Replayed}
use Rattle.replay_contracts.specs.Inputs.{Inputs, setup_for, whole_runs}
use Rattle.replay_contracts.specs.Promise.{state_for}
use Rattle.replay_contracts.specs.Replayer.{IsReported}
use Rattle.lossy_replay.specs.declared.run.LossyRun.{LossyRun}
use Rattle.traffic_generator.specs.Packets.{packets_of as made_packets}
use Rattle.traffic_generator.specs.Schedule.{events_of as made_events}
use Rattle.traffic_generator.specs.Summary.{summary_of}
use Rattle.traffic_generator.specs.Translator.{translator_limits, translator_text}
use Rattle.gallium_cli.specs.Links.{IsLinkReport, IsLinkTraffic}
use Rattle.gallium_cli.specs.Seen.{IsFastAsSeen}
use Rattle.gallium_cli.specs.Words as words
use Rattle.gallium_cli.specs.Words.{Splitting, ServerAlone, Within, Spelled, Request, Run, Compile, Replay, Lossy}
use Rattle.gallium_cli.specs.Words.{Check, Audit, Gen, PcapIn, PcapOut}
use Rattle.gallium_cli.specs.Roles.{source, program, limits, legal_split, trace, schedule, capture, size_of}
use Rattle.gallium_cli.specs.Roles.{true_report, AreLimits, IsCaptured, IsOnlySource, IsShort}
use Rattle.gallium_cli.specs.Chains.{IsWired, AreClasses, IsOneSource, connected}
use Rattle.element_chain.specs.declared.chain.Chain.{Chain as ChainTold}
use Rattle.report_text.specs.Form.{are_declared}
use Rattle.report_text.specs.Lines as reports
use Rattle.run_audit.specs.Source.{source_of}
use Rattle.run_audit.specs.Told.{IsTrueReport}

-- the told contents spell this middlebox and these packets, each within its size
pub record IsInput (told : List ℕ → Option (List ℕ)) (s t : List ℕ) (m : Tree) (packets : List Packet) : Type 0 where
  pub source : IfSome (told s) (λ text. (length text ≤ size_of source) × IsOnlySource text m)
  pub trace : IfSome (told t) (λ text. (length text ≤ size_of trace) × (trace_of text ≡ Ok packets))

-- the told content spells this middlebox, whose flat program is within bounds
pub record IsProgram (told : List ℕ → Option (List ℕ)) (s : List ℕ) (m : Tree) : Type 0 where
  pub source : IfSome (told s) (λ text. (length text ≤ size_of program) × IsOnlySource text m)
  pub bounded : IsBounded (flat_of m)

-- and these limits
pub record IsPlan (told : List ℕ → Option (List ℕ)) (s l : List ℕ) (m : Tree) (allowed : Limits) : Type 0 where
  pub program : IsProgram told s m
  pub limits : IfSome (told l) (λ text. (length text ≤ size_of limits) × AreLimits text allowed)

-- the told contents spell these packets, and this plan of events
pub record IsTraffic (told : List ℕ → Option (List ℕ)) (t c : List ℕ) (packets : List Packet) (plan : Plan)
    : Type 0 where
  pub trace : IfSome (told t) (λ text. (length text ≤ size_of trace) × (trace_of text ≡ Ok packets))
  pub schedule : IfSome (told c) (λ text. (length text ≤ size_of schedule) × (schedule_of text ≡ Ok plan))

-- ## Runs alone

-- what a middlebox does to packets that come one after the other, from the store that runs start with: the verdicts,
-- and what is left
abbrev pub serial_answer : Tree → List Packet → List ℕ
serial_answer m packets =
    let start = start_store m.objects in
    answer_of m.objects (serial_verdicts m start packets) (parts_of m.objects (serial_store m start packets))

-- ## Splits

-- how many instructions a program has, and in these words what its split takes
abbrev pub heading_text : ℕ → List ℕ → List ℕ
heading_text n words = codes "# instructions " ++ (decimal n ++ (codes "\n# " ++ (words ++ line_end)))

-- the text that tells a split: this heading, the listing of the program, and the split itself
abbrev pub compiled_text : Program → List Part → ℕ → List ℕ
compiled_text f split writeback =
    heading_text (length f.code) (counts_text (counts_of f split writeback)) ++ (listing f ++ split_text split)

-- the line of a split that may be taken: what it takes
abbrev pub checked_text : Program → List Part → ℕ → List ℕ
checked_text f split writeback = codes "ok " ++ (counts_text (counts_of f split writeback) ++ line_end)

-- the split is the one that is chosen for these limits; it is legal and keeps them
pub record IsChoice (f : Program) (allowed : Limits) (shrink : Bool) (split : List Part) : Type 0 where
  pub chosen : IsChosen f allowed shrink split
  pub legal : IsLegal f split
  pub keeps : KeepsLimits f split allowed

-- the split leaves everything to the server; it is legal
pub record IsNoChoice (f : Program) (split : List Part) : Type 0 where
  pub least : IsGreatestSplit f 0 false split
  pub legal : IsLegal f split

-- the told content spells this split; it is legal and keeps these limits
pub record IsGivenSplit (told : List ℕ → Option (List ℕ)) (p : List ℕ) (f : Program) (allowed : Limits)
    (split : List Part) : Type 0 where
  pub spelled : IfSome (told p)
      (λ text. (length text ≤ size_of (legal_split f allowed)) × IsSplitText (length f.code) text split)
  pub accepted : IsAccepted f split allowed

-- The told contents spell this middlebox and this split of it, with so many rows in each write-back table: everything is
-- left to the server, and there are none; or it is the one that is chosen for these limits; or it is the one that a file
-- spells, which keeps them.
abbrev pub IsSplitBy : Splitting → (List ℕ → Option (List ℕ)) → List ℕ → Tree → List Part → ℕ → Type 0
IsSplitBy ServerAlone told s m split writeback = IsProgram told s m × IsNoChoice (flat_of m) split × (writeback ≡ 0)
IsSplitBy (Within l shrink) told s m split writeback =
    (allowed : Limits) × IsPlan told s l m allowed × IsChoice (flat_of m) allowed shrink split
    × (writeback ≡ allowed.writeback)
IsSplitBy (Spelled l p) told s m split writeback =
    (allowed : Limits) × IsPlan told s l m allowed × IsGivenSplit told p (flat_of m) allowed split
    × (writeback ≡ allowed.writeback)

-- The told contents spell a middlebox and limits, and the text tells the split that is chosen within them, which may
-- shrink to keep them or not.
abbrev pub IsCompiled : (List ℕ → Option (List ℕ)) → List ℕ → List ℕ → Bool → List ℕ → Type 0
IsCompiled told s l shrink text =
    (m : Tree) × (split : List Part) × (writeback : ℕ)
    × IsSplitBy (Within l shrink) told s m split writeback × (text ≡ compiled_text (flat_of m) split writeback)

-- ## Replays

-- a split middlebox and the packets of a trace, as a replay takes them, in a fine run or a plain one
abbrev pub given : Tree → List Part → ℕ → List Packet → Bool → Inputs
given m split writeback packets fine = record {
  program = flat_of m;
  split = split;
  writeback = writeback;
  packets = packets;
  manner = manner_of fine;
}

-- the events of a plan, with those that drain picks where whole packets run over whole stores, and the state that they
-- end in
abbrev pub events_of : Inputs → Plan → List Event
events_of x plan = plan_events (setup_for x) (whole_runs x) plan.events plan.drain

abbrev pub end_of : Inputs → Plan → State
end_of x plan = state_for x (events_of x plan)

-- where nothing is left on its way at the end of a plan
abbrev pub EndsQuiet : Inputs → Plan → Type 0
EndsQuiet x plan = IsTrue (is_quiet (end_of x plan))

-- its pass before the server has ended
abbrev pub HasPassed : Inputs → List Event → RunTold → Type 0
HasPassed x before run = is_passing (slice_get run.fates (length (state_for x before).progress)) ≡ false

-- What a switch that tells its tables makes of a plan: a serial run of the source.
pub record IsSerialRun (m : Tree) (x : Inputs) (plan : Plan) (run : RunTold) (port : PortState) : Type 0 where
  -- it is the run of whole packets by these events
  pub run_is : run ≡ job_run (setup_for x) (whole_runs x) (events_of x plan)
  -- what it releases, and what it leaves, is what the source does to the decided packets in the reported order
  pub serialises : Serialises (source_of m x.packets) run
  -- each packet that an event of the plan admits, or one of drain, and whose pass before the server has ended, is fast
  -- just where lookups saw it so; where the plan isn't fine, each of these passes has ended
  pub fast : (before behind : List Event) → events_of x plan ≡ before ++ Admit ∷ behind
      → applies (setup_for x) (state_for x before) Admit ≡ true → HasPassed x before run → IsFastAsSeen x before run
  pub passed : plan.fine ≡ false → (before behind : List Event) → events_of x plan ≡ before ++ Admit ∷ behind
      → applies (setup_for x) (state_for x before) Admit ≡ true → HasPassed x before run
  -- after each event, each pass that is under way sees the replicated objects of the version with which it entered
  pub views : (before behind : List Event) → events_of x plan ≡ before ++ behind
      → KeepViews (setup_for x) (state_for x before)
  -- where nothing is left on its way, every admitted packet was released with its verdict, and the switch has the
  -- server's tables
  pub quiet : EndsQuiet x plan → AllReleased (source_of m x.packets) run
  pub tables : EndsQuiet x plan
      → IsSomeAnd port.told (HasTables x.program x.split x.writeback (end_of x plan).store)
  -- and where it says `drained`, every packet of the trace was
  pub drained : run.drained ≡ true → IsDrained (source_of m x.packets) run

-- What comes of this replay of a split middlebox over a switch. Whatever the switch answers, it tells what the calls of
-- the switch make of the plan, each packet is released once, and a plan with `drain` ends drained; where the switch tells
-- its tables, this very run is a serial run of the source.
pub record IsReplayed (m : Tree) (x : Inputs) (plan : Plan) (replayed : Replayed) (port port_after : PortState)
    : Type 0 where
  pub reported : IsReported x plan.events plan.drain replayed port_after
  pub serial : IsSome port.told → IsSerialRun m x plan replayed.run port_after

-- a text that reports what comes of it
abbrev pub IsReport : List ℕ → Tree → Inputs → Plan → Replayed → PortState → PortState → Type 0
IsReport text m x plan replayed port port_after =
    (text ≡ report_of m.objects replayed.run) × IsReplayed m x plan replayed port port_after

-- ## Reports of replays

-- a replay may go by this split, with so many rows in each write-back table: it is legal and keeps some limits in their
-- ranges, which tell the rows; or it leaves everything to the server, and there are none
abbrev pub MayReplay : Program → List Part → ℕ → Type 0
MayReplay f split writeback =
    ((allowed : Limits) × IsAccepted f split allowed × AreInRange allowed × (writeback ≡ allowed.writeback))
    ⊎ (IsNoChoice f split × (writeback ≡ 0))

-- the text is the report of a replay of this middlebox over these packets: by a split that it may go by, and the events
-- of a schedule, fine or not, with those of drain behind them or without
pub record IsReplayOf (m : Tree) (packets : List Packet) (text : List ℕ) : Type 0 where
  pub split : List Part
  pub writeback : ℕ
  pub plan : Plan
  pub short : IsShort m
  pub by : MayReplay (flat_of m) split writeback
  pub few : length plan.events ≤ most_events
  pub report : (let x = given m split writeback packets plan.fine in
      text ≡ report_of m.objects (job_run (setup_for x) (whole_runs x) (events_of x plan)))

-- ## Made work

-- the middlebox that packets are made for, which is the one that its source spells, and the split of it that is chosen
-- within its limits
pub record IsMadeSplit (m : Tree) (split : List Part) (writeback : ℕ) : Type 0 where
  pub source : IsOnlySource translator_text m
  pub bounded : IsBounded (flat_of m)
  pub choice : IsChoice (flat_of m) translator_limits false split
  pub rows : writeback ≡ translator_limits.writeback

-- the events that are made for so many packets, with no drain behind them
abbrev pub made_plan : ℕ → Plan
made_plan count = record { fine = false; events = made_events count; drain = false }

-- a text that sums up the replay of so many packets that are made from a seed
pub record IsSummary (text : List ℕ) (seed count : ℕ) (port port_after : PortState) : Type 0 where
  pub m : Tree
  pub split : List Part
  pub writeback : ℕ
  pub replayed : Replayed
  pub made : IsMadeSplit m split writeback
  pub told : text ≡ summary_of seed count replayed.run replayed.commands
  pub replay : IsReplayed m (given m split writeback (made_packets seed count) false) (made_plan count) replayed port port_after

-- ## Audits

-- the told contents spell this middlebox, whose objects a report can tell, and these packets, which can arrive
pub record IsAuditInput (told : List ℕ → Option (List ℕ)) (s t : List ℕ) (m : Tree) (packets : List Packet)
    : Type 0 where
  pub input : IsInput told s t m packets
  pub declared : IsTrue (are_declared m.objects)
  pub arrivals : Each IsArrival packets
  pub few : length packets ≤ most_packets

-- the told content is a report of this run, which is a serial one of the middlebox over these packets
pub record IsTrueFile (told : List ℕ → Option (List ℕ)) (r : List ℕ) (m : Tree) (packets : List Packet) (run : RunTold)
    : Type 0 where
  pub report : IfSome (told r)
      (λ text. (length text ≤ size_of (true_report m packets)) × reports.IsReport m.objects text run)
  pub serial : IsTrueReport m packets run

-- the line of a report that is true: how many packets were decided, and how many released
abbrev pub audited_text : RunTold → List ℕ
audited_text run =
    codes "ok decided " ++ (decimal run.decided ++ (codes " released " ++ (decimal run.released ++ line_end)))

-- ## Captures

-- the told content is this capture
abbrev pub IsToldCapture : (List ℕ → Option (List ℕ)) → List ℕ → Pcap → Type 0
IsToldCapture told c p = IfSome (told c) (λ bytes. (length bytes ≤ size_of capture) × IsCaptured bytes p)

-- the told content spells these packets
abbrev pub IsToldTrace : (List ℕ → Option (List ℕ)) → List ℕ → List Packet → Type 0
IsToldTrace told t packets = IfSome (told t) (λ text. (length text ≤ size_of trace) × (trace_of text ≡ Ok packets))

-- ## Answers

-- A text that answers a request: for some middlebox, packets and events that the files spell, what the source does to
-- the packets one after the other; or the split that is asked for; or the report of a replay by that split, which has a
-- line for each link behind it where the replay goes over links; or what a split takes that a file spells; or one source
-- of a chain. Or the summary of a replay of made packets. Or the trace of a capture's packets by one port, or the bytes of
-- the capture of a trace's packets.
abbrev pub IsAnswer : List ℕ → Request → (List ℕ → Option (List ℕ)) → PortState → PortState → Type 0
IsAnswer text (Run s t) told port port_after =
    (m : Tree) × (packets : List Packet) × IsInput told s t m packets × (text ≡ serial_answer m packets)
IsAnswer text (Compile s l shrink) told port port_after = IsCompiled told s l shrink text
IsAnswer text (Replay s t c by) told port port_after =
    (m : Tree) × (split : List Part) × (writeback : ℕ) × (packets : List Packet) × (plan : Plan) × (replayed : Replayed)
    × IsSplitBy by told s m split writeback × IsTraffic told t c packets plan
    × IsReport text m (given m split writeback packets plan.fine) plan replayed port port_after
IsAnswer text (Lossy s t c l) told port port_after =
    (m : Tree) × (split : List Part) × (writeback : ℕ) × (packets : List Packet) × (events : List LinkEvent)
    × (run : LossyRun)
    × IsSplitBy (Within l false) told s m split writeback × IsLinkTraffic told t c packets events
    × IsLinkReport text m (given m split writeback packets false) events run port port_after
IsAnswer text (Check s l p) told port port_after =
    (m : Tree) × (split : List Part) × (writeback : ℕ)
    × IsSplitBy (Spelled l p) told s m split writeback × (text ≡ checked_text (flat_of m) split writeback)
IsAnswer text (Audit s t r) told port port_after =
    (m : Tree) × (packets : List Packet) × (run : RunTold)
    × IsAuditInput told s t m packets × IsTrueFile told r m packets run × (text ≡ audited_text run)
IsAnswer text (words.Chain w) told port port_after =
    (chain : ChainTold) × (ms : List Tree)
    × IsWired told w chain × AreClasses told chain.elements ms × IsOneSource (connected chain ms) text
IsAnswer text (Gen seed count) told port port_after = IsSummary text seed count port port_after
IsAnswer text (PcapIn c by) told port port_after =
    (p : Pcap) × IsToldCapture told c p × (text ≡ trace_text (packets_of p by))
IsAnswer text (PcapOut t big nano) told port port_after =
    (packets : List Packet) × IsToldTrace told t packets × (text ≡ pcap_bytes (pcap_of packets big nano))
