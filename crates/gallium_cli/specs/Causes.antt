-- How a call ends: why each refusal comes, and what it leaves on out and err.
use Rattle.std.specs.Prelude.{◌≡◌, ◌≤◌, ◌⊎◌, ℕ, Bool, true, false, List, [], ◌∷◌, length, take, Option, Some, None}
use Rattle.std.specs.Prelude.{IfSome, is_some, Result, Ok, Err}
use Rattle.std.specs.Io.KnownBytes.{append_known}
use Rattle.gal_io.specs.Count.{Rose, IsCountedIf}
use Rattle.gal_io.specs.Files.{FilesState}
use Rattle.gal_io.specs.Sink.{SinkState, Writes}
use Rattle.packet_fields.specs.declared.packet.Packet.{Packet}
use Rattle.element_lang.specs.Tree.{Tree}
use Rattle.flatten.specs.Flatten.{flat_of}
use Rattle.resource_limits.specs.declared.limits.Limits.{Limits}
use Rattle.resource_limits.specs.declared.exceeding.Over.{Over}
use Rattle.flat_ir.specs.Program.{Program}
use Rattle.partition.specs.Choice.{IsChosen, IsRefused}
use Rattle.split_model.specs.declared.split.Part.{Part}
use Rattle.switch_ir.specs.Port.{PortState}
use Rattle.gal_io.specs.declared.sink.SinkEnd.{SinkEnd}
use Rattle.gal_io.specs.declared.sink.SinkEnd.TheVariants as ends
use Rattle.gallium_cli.specs.declared.status.Status.{Status}
use Rattle.gallium_cli.specs.declared.status.Status.TheVariants as statuses
use Rattle.gallium_cli.specs.declared.refusal.Refusal.{Refusal}
use Rattle.gallium_cli.specs.declared.refusal.Refusal.TheVariants.{Usage, Exceeded, WriteFault, SwitchFault, NoMemory}
use Rattle.gallium_cli.specs.Call.{Call, Work}
use Rattle.gallium_cli.specs.Words.{Request, Chain, is_replay, request_of}
use Rattle.gallium_cli.specs.Lines.{status_of, line_of}
use Rattle.gallium_cli.specs.Roles.{Role, legal_split, true_report, Gate, File, Choice, SplitFile, ReportFile, Composed}
use Rattle.gallium_cli.specs.Roles.{IsFirst, IsGood, gates_of, names_of}
use Rattle.gallium_cli.specs.Chains.{IsChainRefused, IsChainPassed, AreAllNames, AreNames}
use Rattle.gallium_cli.specs.Splits.{excess_of}
use Rattle.gallium_cli.specs.Answers.{IsPlan, IsAuditInput, IsAnswer}
use Rattle.gallium_cli.specs.Broken.{IsBroken}
use Rattle.gallium_cli.specs.Loads.{IsFileRefused, LeavesFiles, raised_by}

-- why no split of a program is chosen: the greatest one exceeds a limit, and this one first, or no memory was found
abbrev pub IsUnchosen : Refusal → Program → Limits → Bool → Type 0
IsUnchosen (Exceeded excess) f allowed shrink =
    (over : Over) × IsRefused f allowed shrink over × (excess ≡ excess_of f.objects over)
IsUnchosen NoMemory f allowed shrink = Unit {0}
IsUnchosen _ f allowed shrink = ⊥

-- the split that is asked for isn't chosen
abbrev pub IsOverLimit : Refusal → List ℕ → List ℕ → Bool → (List ℕ → Option (List ℕ)) → Type 0
IsOverLimit refusal s l shrink told =
    (m : Tree) × (allowed : Limits) × IsPlan told s l m allowed × IsUnchosen refusal (flat_of m) allowed shrink

-- ## The first gate that isn't passed

-- what is so of the file that is read at a gate, by its name and by the role that it has for what other files hold
abbrev pub IsAtFile : (List ℕ → Option (List ℕ)) → (List ℕ → Role → Type 0) → Gate → Type 0
IsAtFile told IsSo (File name role) = IsSo name role
IsAtFile told IsSo (SplitFile s l p) =
    (m : Tree) × (allowed : Limits) × IsPlan told s l m allowed × IsSo p (legal_split (flat_of m) allowed)
IsAtFile told IsSo (ReportFile s t r) =
    (m : Tree) × (packets : List Packet) × IsAuditInput told s t m packets × IsSo r (true_report m packets)
IsAtFile told IsSo _ = ⊥

-- why a request goes no further: a file is refused, or no split is chosen, or the split or the report of a file isn't
-- taken, or a chain isn't composed
abbrev pub IsRefusedAt : Refusal → Gate → FilesState → FilesState → Type 0
IsRefusedAt refusal (Choice s l shrink) f f' = IsOverLimit refusal s l shrink f.told
IsRefusedAt refusal (Composed w) f f' = IsChainRefused refusal w f f'
IsRefusedAt refusal gate f f' = IsAtFile f.told (λ name role. IsFileRefused refusal role name f f') gate

-- a file is good, where it is told, and a split is chosen, or taken, or a report is, or a chain is composed
abbrev pub IsPassed : Gate → (List ℕ → Option (List ℕ)) → Type 0
IsPassed (Choice s l shrink) told =
    (m : Tree) × (allowed : Limits) × (split : List Part)
    × IsPlan told s l m allowed × IsChosen (flat_of m) allowed shrink split
IsPassed (Composed w) told = IsChainPassed w told
IsPassed gate told = IsAtFile told (λ name role. IfSome (told name) (IsGood role)) gate

-- each of these gates is passed
abbrev pub AllPassed : List Gate → (List ℕ → Option (List ℕ)) → Type 0
AllPassed [] told = Unit {0}
AllPassed (gate ∷ gates) told = IsPassed gate told × AllPassed gates told

-- the gates before one are passed, and that one isn't
abbrev pub IsFirstRefused : Refusal → List Gate → FilesState → FilesState → Type 0
IsFirstRefused refusal gates f f' =
    IsFirst (λ gate. IsPassed gate f.told) (λ gate. IsRefusedAt refusal gate f f') gates

-- what the reads of this many files, which go through these gates, left: no fault, where the result is there; or else the
-- first gate that isn't passed, and its fault, if it is for one
abbrev pub HasRead : {A : Type 0} → Result A Refusal → List Gate → ℕ → FilesState → FilesState → Type 0
HasRead (Ok x) gates count f f' = LeavesFiles statuses.Done f f' × (f'.reads ≡ raised_by count f.reads)
HasRead (Err refusal) gates count f f' =
    IsFirstRefused refusal gates f f' × LeavesFiles (status_of refusal) f f' × (f'.reads ≤ raised_by count f.reads)

-- ## How a request ends

-- a count of reads after one of each of these files
abbrev pub reads_after : List (List ℕ) → ℕ → ℕ
reads_after [] count = count
reads_after (name ∷ names) count = raised_by (length (name ∷ names)) count

-- there was just one read for each file of a request, those of the classes of a chain included
abbrev pub ReadsAll : Request → FilesState → FilesState → Type 0
ReadsAll (Chain w) f f' =
    (names : List (List ℕ)) × AreAllNames f.told w names × (f'.reads ≡ reads_after names f.reads)
ReadsAll request f f' = f'.reads ≡ reads_after (names_of request) f.reads

-- there was at most one read for each file that it came to
abbrev pub ReadsSome : Request → FilesState → FilesState → Type 0
ReadsSome (Chain w) f f' =
    (names : List (List ℕ)) × AreNames f.told w names × (f'.reads ≤ reads_after names f.reads)
ReadsSome request f f' = f'.reads ≤ reads_after (names_of request) f.reads

-- only a replay calls the switch, which then tells its tables just where it told them before
abbrev pub IsSwitchKept : Bool → PortState → PortState → Type 0
IsSwitchKept true port port_after = is_some port_after.told ≡ is_some port.told
IsSwitchKept false port port_after = port_after ≡ port

-- every gate of a request is passed, and there was one read for each of its files
pub record IsAllRead (request : Request) (work : Work) : Type 0 where
  pub passed : AllPassed (gates_of request) work.files.told
  pub reads : ReadsAll request work.files work.files_after

-- the answer to a request was taken whole by out, and there was one read for each of its files
abbrev pub IsDone : Option Request → Work → Type 0
IsDone None work = ⊥
IsDone (Some request) work =
    (text : List ℕ) × IsAnswer text request work.files.told work.port work.port_after
    × (work.out_after.taken ≡ append_known work.out.taken text)
    × ReadsAll request work.files work.files_after
    × IsSwitchKept (is_replay request) work.port work.port_after

-- All that a replay asks for is read and accepted, and then the switch failed, so that its count of faults rose. It is as
-- it was otherwise, or it was loaded with the code of the split that is asked for, keeps it, and may have been called more.
pub record IsFailedReplay (request : Request) (work : Work) : Type 0 where
  pub replays : is_replay request ≡ true
  pub rose : Rose work.port.faults work.port_after.faults
  pub all : IsAllRead request work
  pub broken : IsBroken request work.files.told work.port work.port_after

abbrev pub IsSwitchFaulty : Refusal → Request → Work → Type 0
IsSwitchFaulty SwitchFault request work = IsFailedReplay request work
IsSwitchFaulty _ request work = ⊥

-- Why an answer wasn't written: each file was read, only some first bytes were taken, and the count of faults of out
-- rose, or no memory was found, and out is as it was.
abbrev pub IsNotWritten : Refusal → Request → Work → Type 0
IsNotWritten WriteFault request work =
    Rose work.out.faults work.out_after.faults
    × ReadsAll request work.files work.files_after
    × (text : List ℕ) × IsAnswer text request work.files.told work.port work.port_after
    × (n : ℕ) × (work.out_after.taken ≡ append_known work.out.taken (take n text))
IsNotWritten NoMemory request work = work.out_after ≡ work.out
IsNotWritten _ request work = ⊥

-- what is as it was: out, its count too, and the switch
pub record IsIdle (work : Work) : Type 0 where
  pub out : work.out_after ≡ work.out
  pub port : work.port_after ≡ work.port

-- Why a request is refused: by its words, and then no file was read; by a file or a limit; since the switch failed, behind
-- all of these; or since its answer wasn't written. Where words, a file or a limit are to blame, out and the switch are as they were.
-- There was at most one read for each file.
abbrev pub HasCause : Refusal → Option Request → Work → Type 0
HasCause refusal None work = (refusal ≡ Usage) × (work.files_after ≡ work.files) × IsIdle work
HasCause refusal (Some request) work =
    ((IsFirstRefused refusal (gates_of request) work.files work.files_after × IsIdle work)
    ⊎ (IsSwitchFaulty refusal request work × (work.out_after ≡ work.out))
    ⊎ IsNotWritten refusal request work)
    × ReadsSome request work.files work.files_after
    × IsSwitchKept (is_replay request) work.port work.port_after

abbrev pub is_write_fault : Status → Bool
is_write_fault statuses.WriteFault = true
is_write_fault _ = false

abbrev pub is_switch_fault : Status → Bool
is_switch_fault statuses.SwitchFault = true
is_switch_fault _ = false

-- What a request that ends with this status counts: the fault that the status names, once, and no other. No call that
-- failed was made again.
pub record CountsFaults (status : Status) (work : Work) : Type 0 where
  pub files : LeavesFiles status work.files work.files_after
  pub out : IsCountedIf (is_write_fault status) work.out.faults work.out_after.faults
  pub switch : IsCountedIf (is_switch_fault status) work.port.faults work.port_after.faults

-- how a request ends whose work came to this result, and what it counts
abbrev pub HasEnded : {A : Type 0} → Result A Refusal → Option Request → Work → Type 0
HasEnded (Ok x) request work = IsDone request work × CountsFaults statuses.Done work
HasEnded (Err refusal) request work = HasCause refusal request work × CountsFaults (status_of refusal) work

-- the status that is answered where the line of a refusal ends so
abbrev pub after_line : Refusal → SinkEnd → Status
after_line refusal ends.Done = status_of refusal
after_line refusal ends.Failed = statuses.WriteFault
after_line refusal ends.NoMemory = statuses.NoMemory

-- what the line of a refusal leaves on err, and the status that is answered
abbrev pub IsTold : Refusal → Status → SinkState → SinkState → Type 0
IsTold refusal status e e' = (end : SinkEnd) × (status ≡ after_line refusal end) × Writes end (line_of refusal) e e'

-- A call for this request is done without any fault, and err is as it was, its count too; or there is a refusal with
-- its cause and its one fault, if it is for a fault, and its line goes to err.
abbrev pub EndsFor : Option Request → Status → Call → Type 0
EndsFor request status call =
    ((status ≡ statuses.Done) × IsDone request call.work × CountsFaults statuses.Done call.work
    × (call.err_after ≡ call.err))
    ⊎ ((refusal : Refusal) × HasCause refusal request call.work × CountsFaults (status_of refusal) call.work
    × IsTold refusal status call.err call.err_after)

-- how a whole call ends
abbrev pub Ends : Status → Call → Type 0
Ends status call = EndsFor (request_of call.words) status call
