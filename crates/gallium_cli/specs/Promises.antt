-- What the program promises of a whole call.
use Rattle.std.specs.Prelude.{◌≡◌, ◌<◌, ◌≤◌, ◌⊎◌, ◌≢◌, ℕ, Bool, true, false, List, [], ◌∷◌, length, slice_get, Option}
use Rattle.std.specs.Prelude.{Some, None, Ok, IsSome, IsSomeAnd, is_some}
use Rattle.std.specs.Io.KnownBytes.{append_known}
use Rattle.gal_io.specs.Count.{Rose}
use Rattle.packet_fields.specs.declared.packet.Packet.{Packet}
use Rattle.element_lang.specs.Tree.{Tree}
use Rattle.element_lang.specs.Accepted.{IsSource}
use Rattle.flatten.specs.Flatten.{flat_of}
use Rattle.resource_limits.specs.declared.limits.Limits.{Limits}
use Rattle.resource_limits.specs.declared.exceeding.Over.{Over}
use Rattle.partition.specs.Choice as choice
use Rattle.element_chain.specs.declared.chain.Chain.{Chain as ChainTold}
use Rattle.element_chain.specs.declared.chain.Element.{Element}
use Rattle.chain_text.specs.Reads.{IsChainText}
use Rattle.chain_compose.specs.Refusals as composing
use Rattle.chain_compose.specs.declared.error.ComposeError.{ComposeError}
use Rattle.chain_compose.specs.declared.error.ComposeError.TheVariants as composed
use Rattle.gallium_cli.specs.declared.status.Status.{Status}
use Rattle.gallium_cli.specs.declared.status.Status.TheVariants.{Done, Usage, Source, Limits as BadLimits, Exceeded}
use Rattle.gallium_cli.specs.declared.status.Status.TheVariants.{Split, Trace, Schedule, TooLong, ReadFault, WriteFault}
use Rattle.gallium_cli.specs.declared.status.Status.TheVariants.{SwitchFault, NoMemory, Pcap, Report, Audit as Untrue}
use Rattle.gallium_cli.specs.declared.status.Status.TheVariants.{Chain as BadChain}
use Rattle.gallium_cli.specs.declared.refusal.Refusal.{Refusal}
use Rattle.gallium_cli.specs.declared.refusal.Refusal.TheVariants as refusals
use Rattle.gallium_cli.specs.Call.{Call, Work}
use Rattle.gallium_cli.specs.Words.{Request, Compile, Replay, Lossy, Check, Audit, Chain, Within, Spelled, is_replay}
use Rattle.gallium_cli.specs.Words.{request_of}
use Rattle.gallium_cli.specs.Lines.{status_of, line_of}
use Rattle.gallium_cli.specs.Roles.{Role, source, program, limits, legal_split, true_report, wiring, trace, schedule}
use Rattle.gallium_cli.specs.Roles.{capture, link_schedule, Gate, File, Choice, SplitFile, ReportFile, Composed}
use Rattle.gallium_cli.specs.Roles.{IsFirst, gates_of, names_of, size_of, IsGood, IsBad, IsShort, AreLimits}
use Rattle.gallium_cli.specs.Loads.{IsCauseOf}
use Rattle.gallium_cli.specs.Splits.{SpellsLegal, excess_of}
use Rattle.gallium_cli.specs.Reports.{TellsRun}
use Rattle.gallium_cli.specs.Chains.{AreNames, class_files, file_of, connected, uncomposed_of}
use Rattle.gallium_cli.specs.Answers.{IsCompiled, IsReplayOf}
use Rattle.run_text.specs.Trace.{trace_of}
use Rattle.gallium_cli.specs.Causes.{IsDone, IsFailedReplay, CountsFaults, Ends, ReadsAll, ReadsSome}
use Rattle.gallium_cli.specs.Serial.{IsSerial}

-- an end that writing and memory may bring whatever the words are
abbrev pub IsWriteFault : Status → Type 0
IsWriteFault WriteFault = Unit {0}
IsWriteFault NoMemory = Unit {0}
IsWriteFault _ = ⊥

-- an end that files, sinks and memory may bring before the switch is called, whatever the texts are
abbrev pub IsEarlyFault : Status → Type 0
IsEarlyFault ReadFault = Unit {0}
IsEarlyFault WriteFault = Unit {0}
IsEarlyFault NoMemory = Unit {0}
IsEarlyFault _ = ⊥

-- an end that files, sinks, the switch and memory may bring whatever the texts are
abbrev pub IsFault : Status → Type 0
IsFault ReadFault = Unit {0}
IsFault WriteFault = Unit {0}
IsFault SwitchFault = Unit {0}
IsFault NoMemory = Unit {0}
IsFault _ = ⊥

-- that status, or such a fault
abbrev pub IsUnlessFault : Status → Status → Type 0
IsUnlessFault status result = (result ≡ status) ⊎ IsFault result

abbrev pub IsUnlessEarlyFault : Status → Status → Type 0
IsUnlessEarlyFault status result = (result ≡ status) ⊎ IsEarlyFault result

-- an end for which the words, a file or a limit are to blame
abbrev pub BlamesInput : Status → Type 0
BlamesInput Done = ⊥
BlamesInput WriteFault = ⊥
BlamesInput SwitchFault = ⊥
BlamesInput NoMemory = ⊥
BlamesInput _ = Unit {0}

-- ## Told contents

-- the contents are told, and spell this middlebox with a short flat program, and these limits
pub record IsToldPlan (told : List ℕ → Option (List ℕ)) (s l : List ℕ) (m : Tree) (allowed : Limits) : Type 0 where
  pub source : IsSomeAnd (told s) (λ text. (length text ≤ size_of program) × IsSource text m)
  pub short : IsShort m
  pub limits : IsSomeAnd (told l) (λ text. (length text ≤ size_of limits) × AreLimits text allowed)

-- they are told, and spell this middlebox, and these packets
pub record IsToldInput (told : List ℕ → Option (List ℕ)) (s t : List ℕ) (m : Tree) (packets : List Packet)
    : Type 0 where
  pub source : IsSomeAnd (told s) (λ text. (length text ≤ size_of source) × IsSource text m)
  pub trace : IsSomeAnd (told t) (λ text. (length text ≤ size_of trace) × (trace_of text ≡ Ok packets))

-- they are told, and the third is the report of a replay of the middlebox of the first over the packets of the second
pub record IsReplayReport (told : List ℕ → Option (List ℕ)) (s t r : List ℕ) : Type 0 where
  pub m : Tree
  pub packets : List Packet
  pub source : IsSomeAnd (told s) (λ text. IsSource text m)
  pub trace : IsSomeAnd (told t) (λ text. trace_of text ≡ Ok packets)
  pub replay : IsSomeAnd (told r) (IsReplayOf m packets)

-- they are told, and the third is the text that tells the split of the middlebox of the first that is chosen within the
-- limits of the second, which may shrink to keep them or not
pub record IsCompileText (told : List ℕ → Option (List ℕ)) (s l p : List ℕ) : Type 0 where
  pub shrink : Bool
  pub source : IsSome (told s)
  pub limits : IsSome (told l)
  pub text : IsSomeAnd (told p) (IsCompiled told s l shrink)

-- the contents are told, and spell this chain
abbrev pub IsToldWiring : (List ℕ → Option (List ℕ)) → List ℕ → ChainTold → Type 0
IsToldWiring told w chain = IsSomeAnd (told w) (λ text. (length text ≤ size_of wiring) × IsChainText text chain)

-- The contents of the files of all classes are told, and spell these middleboxes: one for all elements of a class.
pub record AreToldClasses (told : List ℕ → Option (List ℕ)) (chain : ChainTold) (ms : List Tree) : Type 0 where
  pub count : length ms ≡ length chain.elements
  pub each : (e : ℕ) (x : Element) (m : Tree) → slice_get chain.elements e ≡ Some x → slice_get ms e ≡ Some m
      → IsSomeAnd (told (file_of x.class)) (λ text. (length text ≤ size_of source) × IsSource text m)

-- what is so of the told text of the file that is read at a gate, as the role that it has for what other files tell
abbrev pub IsToldAt : (List ℕ → Option (List ℕ)) → (Role → List ℕ → Type 0) → Gate → Type 0
IsToldAt told IsSo (File name role) = IsSomeAnd (told name) (IsSo role)
IsToldAt told IsSo (SplitFile s l p) =
    (m : Tree) × (allowed : Limits)
    × IsToldPlan told s l m allowed × IsSomeAnd (told p) (IsSo (legal_split (flat_of m) allowed))
IsToldAt told IsSo (ReportFile s t r) =
    (m : Tree) × (packets : List Packet)
    × IsToldInput told s t m packets × IsSomeAnd (told r) (IsSo (true_report m packets))
IsToldAt told IsSo _ = ⊥

-- a content is told and good, and a split isn't refused, or is there to take, or a report is there, or a chain is composed
abbrev pub IsOpen : (List ℕ → Option (List ℕ)) → Gate → Type 0
IsOpen told (Choice s l shrink) =
    (m : Tree) × (allowed : Limits)
    × IsToldPlan told s l m allowed × choice.IsUnrefused (flat_of m) allowed shrink
IsOpen told (Composed w) =
    (chain : ChainTold) × (ms : List Tree)
    × IsToldWiring told w chain × AreToldClasses told chain ms × composing.IsUnrefused (connected chain ms)
IsOpen told gate = IsToldAt told IsGood gate

abbrev pub AllOpen : (List ℕ → Option (List ℕ)) → List Gate → Type 0
AllOpen told [] = Unit {0}
AllOpen told (gate ∷ gates) = IsOpen told gate × AllOpen told gates

-- the status of a text that doesn't spell what it is to; a legal split exceeds a limit, and a report that tells a run
-- isn't true
abbrev pub IsStatusOf : Status → Role → List ℕ → Type 0
IsStatusOf status source text = status ≡ Source
IsStatusOf status program text = status ≡ Source
IsStatusOf status limits text = status ≡ BadLimits
IsStatusOf status (legal_split f allowed) text =
    ((status ≡ Split) × ¬ (SpellsLegal f text)) ⊎ ((status ≡ Exceeded) × SpellsLegal f text)
IsStatusOf status (true_report m packets) text =
    ((status ≡ Report) × ¬ (TellsRun m text)) ⊎ ((status ≡ Untrue) × TellsRun m text)
IsStatusOf status wiring text = status ≡ BadChain
IsStatusOf status trace text = status ≡ Trace
IsStatusOf status schedule text = status ≡ Schedule
IsStatusOf status link_schedule text = status ≡ Schedule
IsStatusOf status capture text = status ≡ Pcap

-- a text is above its size, or doesn't spell what it is to
abbrev pub IsRefusedAs : Role → Status → List ℕ → Type 0
IsRefusedAs role status text =
    ((status ≡ TooLong) × (size_of role < length text)) ⊎ (IsStatusOf status role text × IsBad role text)

-- a chain of middleboxes that are told is refused for this
abbrev pub IsToldUncomposed : (List ℕ → Option (List ℕ)) → ChainTold → ComposeError → Type 0
IsToldUncomposed told chain error =
    (ms : List Tree)
    × AreToldClasses told chain ms × (error ≢ composed.NoMemory) × composing.IsRefused (connected chain ms) error

-- words with no form end in this status, unless the line can't be written; those with a form never do
abbrev pub IsUsage : Option Request → Status → Type 0
IsUsage None result = (result ≡ Usage) ⊎ IsWriteFault result
IsUsage (Some request) result = result ≢ Usage

-- why a text of this role is refused for what it holds, within its size
abbrev pub IsCause : Refusal → Role → List ℕ → Type 0
IsCause cause role text = (length text ≤ size_of role) × IsCauseOf cause role text

-- why the text of this file is refused as the source of a class
abbrev pub IsClassCause : Refusal → List ℕ → List ℕ → Type 0
IsClassCause (refusals.ClassSource fault file) name text = (file ≡ name) × IsCause (refusals.Source fault) source text
IsClassCause _ name text = ⊥

-- ## Shut gates

-- what a shut gate is blamed with: a status, or a whole refusal
pub data Blame : Type 0 where
  WithStatus : (status : Status) → Blame
  WithCause : (cause : Refusal) → Blame

-- a text of this role is refused so
abbrev pub IsTextBlamed : Blame → Role → List ℕ → Type 0
IsTextBlamed (WithStatus status) role text = IsRefusedAs role status text
IsTextBlamed (WithCause cause) role text = IsCause cause role text

-- the text of this file is refused so as the source of a class
abbrev pub IsClassBlamed : Blame → List ℕ → List ℕ → Type 0
IsClassBlamed (WithStatus status) name text = IsRefusedAs source status text
IsClassBlamed (WithCause cause) name text = IsClassCause cause name text

-- a split of this middlebox is refused so for this limit
abbrev pub IsLimitBlamed : Blame → Tree → Over → Type 0
IsLimitBlamed (WithStatus status) m over = status ≡ Exceeded
IsLimitBlamed (WithCause cause) m over = cause ≡ refusals.Exceeded (excess_of m.objects over)

-- the chain of these elements is refused so for this
abbrev pub IsChainBlamed : Blame → List Element → ComposeError → Type 0
IsChainBlamed (WithStatus status) es error = status ≡ BadChain
IsChainBlamed (WithCause cause) es error = cause ≡ refusals.Uncomposed (uncomposed_of es error)

-- the first class file of a chain that isn't good is told, and refused so; or the chain isn't composed
abbrev pub IsChainShut : (List ℕ → Option (List ℕ)) → ChainTold → Blame → Type 0
IsChainShut told chain blame =
    IsFirst (λ name. IsSomeAnd (told name) (IsGood source)) (λ name. IsSomeAnd (told name) (IsClassBlamed blame name))
    (class_files chain.elements)
    ⊎ ((error : ComposeError) × IsToldUncomposed told chain error × IsChainBlamed blame chain.elements error)

-- a content is told and refused so, or the greatest split exceeds a limit, this one first, and may not shrink, or a chain
-- isn't composed
abbrev pub IsShut : (List ℕ → Option (List ℕ)) → Gate → Blame → Type 0
IsShut told (Choice s l shrink) blame =
    (m : Tree) × (allowed : Limits) × (over : Over)
    × IsToldPlan told s l m allowed × choice.IsRefused (flat_of m) allowed shrink over × IsLimitBlamed blame m over
IsShut told (Composed w) blame = (chain : ChainTold) × IsToldWiring told w chain × IsChainShut told chain blame
IsShut told gate blame = IsToldAt told (IsTextBlamed blame) gate

-- the gates before one are open, and that one is shut so
abbrev pub IsFirstShut : (List ℕ → Option (List ℕ)) → List Gate → Blame → Type 0
IsFirstShut told gates blame = IsFirst (IsOpen told) (λ gate. IsShut told gate blame) gates

-- the status is that of this refusal and err received its line, unless there is a fault before the switch is called
abbrev pub IsBlamedFor : Refusal → Status → Call → Type 0
IsBlamedFor cause result call =
    ((result ≡ status_of cause) × (call.err_after.taken ≡ append_known call.err.taken (line_of cause))) ⊎ IsEarlyFault result

-- a limit is exceeded only where a split is chosen that may not shrink, or given
abbrev pub MayExceed : Option Request → Type 0
MayExceed (Some (Compile s l false)) = Unit {0}
MayExceed (Some (Replay s t c (Within l false))) = Unit {0}
MayExceed (Some (Replay s t c (Spelled l p))) = Unit {0}
MayExceed (Some (Lossy s t c l)) = Unit {0}
MayExceed (Some (Check s l p)) = Unit {0}
MayExceed _ = ⊥

-- there is at most one read for each file of a request, and where it is done, just one; with no request there is none
abbrev pub IsReadOnce : Option Request → Status → Call → Type 0
IsReadOnce None result call = call.work.files_after ≡ call.work.files
IsReadOnce (Some request) result call =
    ReadsSome request call.work.files call.work.files_after
    × (result ≡ Done → ReadsAll request call.work.files call.work.files_after)

-- the blamed name is one of these
abbrev pub IsOneOf : List (List ℕ) → Option (List ℕ) → Type 0
IsOneOf [] blamed = ⊥
IsOneOf (name ∷ names) blamed = (blamed ≡ Some name) ⊎ IsOneOf names blamed

-- the request ended with some status, and counted at most one fault
abbrev pub CountsOne : Work → Type 0
CountsOne work = (status : Status) × CountsFaults status work

-- a file is to blame that the request names, or that the class of an element of its chain does
abbrev pub BlamesOne : (List ℕ → Option (List ℕ)) → Request → Option (List ℕ) → Type 0
BlamesOne told (Chain w) blamed = (names : List (List ℕ)) × AreNames told w names × IsOneOf names blamed
BlamesOne told request blamed = IsOneOf (names_of request) blamed

-- a count of files rose, and blames one of these
abbrev pub IsBlamed : (List ℕ → Option (List ℕ)) → Option Request → ℕ → ℕ → Option (List ℕ) → Type 0
IsBlamed told None before now blamed = ⊥
IsBlamed told (Some request) before now blamed = Rose before now × BlamesOne told request blamed

-- the request is a replay
abbrev pub IsReplay : Option Request → Type 0
IsReplay None = ⊥
IsReplay (Some request) = is_replay request ≡ true

-- the request is a replay that failed on the switch, when all that it asks for was read and accepted
abbrev pub IsFailedOnSwitch : Option Request → Work → Type 0
IsFailedOnSwitch None work = ⊥
IsFailedOnSwitch (Some request) work = IsFailedReplay request work

-- What is promised of a call that ends in this status. The first part is what the project is for. The second says the whole:
-- why the call ended so, and what it left on both sinks. All others, the first too, are read off the second.
pub record Promises (status : Status) (call : Call) : Type 0 where
  -- a replay that is done, over a switch that tells its tables, told a serial run of the source, whatever the schedule
  pub serial : status ≡ Done → IsReplay (request_of call.words) → IsSome call.work.port.told
      → IsSerial (request_of call.words) call.work
  pub ends : Ends status call
  -- the answer was written: of one run, which is a serial run of the source, whatever the schedule, over links that lose,
  -- repeat and reorder too; or one split, which is the chosen one, is legal and keeps the limits, or what a given one
  -- takes that is so; or the summary of such a run; or the trace of a capture, or the capture of a trace; or how many
  -- packets a report tells that is true
  pub done : status ≡ Done → IsDone (request_of call.words) call.work
  -- err is as it was, its count too
  pub silent : status ≡ Done → call.err_after ≡ call.err
  -- out is as it was, its count too, and so is the switch
  pub untouched : BlamesInput status → call.work.out_after ≡ call.work.out
  pub uncalled : BlamesInput status → call.work.port_after ≡ call.work.port
  -- what is no replay leaves the switch as it was
  pub aside : ¬ (IsReplay (request_of call.words)) → call.work.port_after ≡ call.work.port
  -- however it ends, the switch tells its tables just where it told them before, and the files tell what they told
  pub tells : is_some call.work.port_after.told ≡ is_some call.work.port.told
  pub same_files : (name : List ℕ) → call.work.files_after.told name ≡ call.work.files.told name
  -- each file is read once
  pub once : IsReadOnce (request_of call.words) status call
  -- which status comes, by the words and the told texts
  pub usage : IsUsage (request_of call.words) status
  -- where the first gate that isn't open is shut with a status, that is answered, and where it is shut for a cause, err
  -- receives its line, unless there is a fault before the switch is called
  pub exact : (request : Request) (expected : Status) → request_of call.words ≡ Some request
      → IsFirstShut call.work.files.told (gates_of request) (WithStatus expected) → IsUnlessEarlyFault expected status
  pub cause : (request : Request) (refusal : Refusal) → request_of call.words ≡ Some request
      → IsFirstShut call.work.files.told (gates_of request) (WithCause refusal) → IsBlamedFor refusal status call
  -- where every gate of a request is open, it is done unless there is a fault
  pub complete : (request : Request) → request_of call.words ≡ Some request
      → AllOpen call.work.files.told (gates_of request) → IsUnlessFault Done status
  pub exceeded : status ≡ Exceeded → MayExceed (request_of call.words)
  -- the text that tells the chosen split of this source is never refused as a split of it within the same limits: it is
  -- read, and is legal, and keeps them; so it is accepted, unless it is too long or there is a fault
  pub compiled : (s l p : List ℕ) → request_of call.words ≡ Some (Check s l p)
      → IsCompileText call.work.files.told s l p → (status ≡ TooLong) ⊎ IsUnlessFault Done status
  -- the report of a replay of this source over this trace is never refused: each is one in form, and is true
  pub replayed : (s t r : List ℕ) → request_of call.words ≡ Some (Audit s t r)
      → IsReplayReport call.work.files.told s t r → (status ≢ Report) × (status ≢ Untrue)
  -- which faults were counted: just the one that the status names, unless the line couldn't be written
  pub counted : ¬ (IsWriteFault status)
      → CountsFaults status call.work × (call.err_after.faults ≡ call.err.faults)
  pub no_memory : status ≡ NoMemory → CountsOne call.work × (call.err_after.faults ≡ call.err.faults)
  -- which count rose, whether or not anything is told
  pub too_long : status ≡ TooLong
      → let before = call.work.files in let now = call.work.files_after in
      IsBlamed before.told (request_of call.words) before.overlong now.overlong now.overlong_name
  pub read_fault : status ≡ ReadFault
      → let before = call.work.files in let now = call.work.files_after in
      IsBlamed before.told (request_of call.words) before.faults now.faults now.fault_name
  pub write_fault : status ≡ WriteFault
      → (CountsFaults WriteFault call.work × (call.err_after.faults ≡ call.err.faults))
      ⊎ (CountsOne call.work × Rose call.err.faults call.err_after.faults)
  pub switch_fault : status ≡ SwitchFault → IsFailedOnSwitch (request_of call.words) call.work
