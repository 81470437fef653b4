-- What files are read as.
use Rattle.std.specs.Prelude.{◌≡◌, ◌≤◌, ◌⊎◌, ℕ, Bool, false, List, [], ◌∷◌, ◌++◌, length, Ok, None}
use Rattle.packet_fields.specs.declared.packet.Packet.{Packet}
use Rattle.element_lang.specs.Tree.{Tree}
use Rattle.element_lang.specs.Accepted.{IsSource}
use Rattle.flat_ir.specs.Program.{Program}
use Rattle.flatten.specs.Flatten.{flat_of}
use Rattle.split_model.specs.declared.split.Part.{Part}
use Rattle.split_validate.specs.SplitLines.{IsSplitText}
use Rattle.split_validate.specs.Validated.{IsAccepted}
use Rattle.run_model.specs.declared.run.Run.{Run as RunTold}
use Rattle.report_text.specs.Lines.{IsReport}
use Rattle.run_audit.specs.Told.{IsTrueReport}
use Rattle.resource_limits.specs.Limits as texts
use Rattle.resource_limits.specs.declared.limits.Limits.{Limits}
use Rattle.run_text.specs.declared.plan.Plan.{Plan}
use Rattle.run_model.specs.declared.link_event.LinkEvent.{LinkEvent}
use Rattle.run_text.specs.LinkSchedule.{link_schedule_of}
use Rattle.run_text.specs.Trace.{trace_of, schedule_of}
use Rattle.element_chain.specs.declared.chain.Chain.{Chain}
use Rattle.chain_text.specs.Reads.{IsChainText}
use Rattle.pcap_trace.specs.declared.pcap.Pcap.{Pcap}
use Rattle.pcap_trace.specs.Format.{IsPcap, pcap_bytes}
use Rattle.gallium_cli.specs.Words.{Splitting, ServerAlone, Within, Spelled, Request, Run, Compile, Replay, Lossy}
use Rattle.gallium_cli.specs.Words.{Check, Audit, Gen, PcapIn, PcapOut}
use Rattle.gallium_cli.specs.Words as words

-- what a file is read as
pub data Role : Type 0 where
  source : Role
  -- a source whose flat program has to be short enough
  program : Role
  limits : Role
  -- a split of this program, which is legal and keeps these limits
  legal_split : (f : Program) (allowed : Limits) → Role
  -- a report of a serial run of this middlebox over these packets
  true_report : (m : Tree) (packets : List Packet) → Role
  -- the elements of a chain and the wires between them
  wiring : Role
  trace : Role
  schedule : Role
  -- a schedule over links
  link_schedule : Role
  capture : Role

-- the most bytes of such a file: 256 KiB of a source, and 64 MiB of any other
abbrev pub size_of : Role → ℕ
size_of source = 262144
size_of program = 262144
size_of _ = 67108864

-- the text is a source of this middlebox, and of no other
pub record IsOnlySource (text : List ℕ) (m : Tree) : Type 0 where
  pub source : IsSource text m
  pub only : (other : Tree) → IsSource text other → other ≡ m

-- the flat program of a middlebox has at most 4,096 instructions
abbrev pub IsShort : Tree → Type 0
IsShort m = length (flat_of m).code ≤ 4096

-- the text tells these limits, and nothing else
abbrev pub AreLimits : List ℕ → Limits → Type 0
AreLimits text allowed = texts.TellsLimits text allowed × (texts.refusal_of text ≡ None)

-- the bytes are those of this capture
abbrev pub IsCaptured : List ℕ → Pcap → Type 0
IsCaptured bytes p = IsPcap p × (pcap_bytes p ≡ bytes)

-- the text of such a file spells a value
abbrev pub IsSpelled : Role → List ℕ → Type 0
IsSpelled source text = (m : Tree) × IsSource text m
IsSpelled program text = (m : Tree) × IsSource text m × IsShort m
IsSpelled limits text = (allowed : Limits) × AreLimits text allowed
IsSpelled (legal_split f allowed) text =
    (split : List Part) × IsSplitText (length f.code) text split × IsAccepted f split allowed
IsSpelled (true_report m packets) text =
    (run : RunTold) × IsReport m.objects text run × IsTrueReport m packets run
IsSpelled wiring text = (chain : Chain) × IsChainText text chain
IsSpelled trace text = (packets : List Packet) × (trace_of text ≡ Ok packets)
IsSpelled schedule text = (plan : Plan) × (schedule_of text ≡ Ok plan)
IsSpelled link_schedule text = (events : List LinkEvent) × (link_schedule_of text ≡ Ok events)
IsSpelled capture text = (p : Pcap) × IsCaptured text p

-- a text of this role is within its size and spells a value
abbrev pub IsGood : Role → List ℕ → Type 0
IsGood role text = (length text ≤ size_of role) × IsSpelled role text

-- it is within its size and spells none
abbrev pub IsBad : Role → List ℕ → Type 0
IsBad role text = (length text ≤ size_of role) × ¬ (IsSpelled role text)

-- ## What comes before an answer

-- a file is read, or a split is chosen for the source of one file within the limits of another, or a file is read as a
-- split of that source within those limits, or as a report of that source over the packets of another; or the chain of
-- a file is composed, of the middleboxes that the files of its classes spell
pub data Gate : Type 0 where
  File : (name : List ℕ) (role : Role) → Gate
  Choice : (source limits : List ℕ) (shrink : Bool) → Gate
  SplitFile : (source limits name : List ℕ) → Gate
  ReportFile : (source trace name : List ℕ) → Gate
  Composed : (chain : List ℕ) → Gate

-- the source and the limits of a split
abbrev pub plan_files : List ℕ → List ℕ → List Gate
plan_files s l = File s program ∷ (File l limits ∷ [])

abbrev pub plan_gates : List ℕ → List ℕ → Bool → List Gate
plan_gates s l shrink = File s program ∷ (File l limits ∷ (Choice s l shrink ∷ []))

abbrev pub given_gates : List ℕ → List ℕ → List ℕ → List Gate
given_gates s l p = File s program ∷ (File l limits ∷ (SplitFile s l p ∷ []))

-- what a split of a source goes through
abbrev pub split_gates : List ℕ → Splitting → List Gate
split_gates s ServerAlone = File s program ∷ []
split_gates s (Within l shrink) = plan_gates s l shrink
split_gates s (Spelled l p) = given_gates s l p

abbrev pub event_gates : List ℕ → List ℕ → List Gate
event_gates t c = File t trace ∷ (File c schedule ∷ [])

abbrev pub link_gates : List ℕ → List ℕ → List Gate
link_gates t c = File t trace ∷ (File c link_schedule ∷ [])

-- what a request goes through, in the order in which it is dealt with
abbrev pub gates_of : Request → List Gate
gates_of (Run s t) = File s source ∷ (File t trace ∷ [])
gates_of (Compile s l shrink) = plan_gates s l shrink
gates_of (Replay s t c by) = split_gates s by ++ event_gates t c
gates_of (Lossy s t c l) = plan_gates s l false ++ link_gates t c
gates_of (Check s l p) = given_gates s l p
gates_of (Audit s t r) = File s source ∷ (File t trace ∷ (ReportFile s t r ∷ []))
gates_of (words.Chain w) = File w wiring ∷ (Composed w ∷ [])
gates_of (Gen seed count) = []
gates_of (PcapIn c port) = File c capture ∷ []
gates_of (PcapOut t big nano) = File t trace ∷ []

-- the names of the files among them, without those of the classes of a chain
abbrev pub names_in : List Gate → List (List ℕ)
names_in [] = []
names_in (File name role ∷ gates) = name ∷ names_in gates
names_in (Choice s l shrink ∷ gates) = names_in gates
names_in (SplitFile s l p ∷ gates) = p ∷ names_in gates
names_in (ReportFile s t r ∷ gates) = r ∷ names_in gates
names_in (Composed w ∷ gates) = names_in gates

-- the names of the files of a request, in that order
abbrev pub names_of : Request → List (List ℕ)
names_of request = names_in (gates_of request)

-- a walk over gates, or over files: those before one have a property, and that one has another
abbrev pub IsFirst : {A : Type 0} → (A → Type 0) → (A → Type 0) → List A → Type 0
IsFirst IsBefore IsAt [] = ⊥
IsFirst IsBefore IsAt (x ∷ xs) = IsAt x ⊎ (IsBefore x × IsFirst IsBefore IsAt xs)

-- how many files a split of a source is read from
abbrev pub split_reads : List ℕ → Splitting → ℕ
split_reads s by = length (names_in (split_gates s by))
