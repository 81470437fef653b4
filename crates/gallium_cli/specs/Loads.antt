-- How one file is loaded.
use Rattle.std.specs.Prelude.{◌≡◌, ◌≤◌, ◌<◌, ◌≢◌, ◌+◌, ◌-◌, ◌^◌, ℕ, min, Bool, true, false, List, length, Some, Err}
use Rattle.std.specs.Prelude.{IfSome}
use Rattle.std.specs.Bool.{OnFalse}
use Rattle.gal_io.specs.Count.{Rose, IsCountedIf}
use Rattle.gal_io.specs.Files.{FilesState}
use Rattle.resource_limits.specs.Limits as texts
use Rattle.resource_limits.specs.declared.limits.LimitsError.TheVariants as faults
use Rattle.element_text.specs.Refused.{IsRefused}
use Rattle.element_text.specs.declared.error.TextError.{TextError}
use Rattle.element_text.specs.declared.error.TextError.TheVariants as errors
use Rattle.chain_text.specs.Reads as chain
use Rattle.chain_text.specs.declared.error.ChainTextError.{ChainTextError}
use Rattle.chain_text.specs.declared.error.ChainTextError.TheVariants as chains
use Rattle.pcap_trace.specs.Refused as pcap
use Rattle.pcap_trace.specs.declared.refusal.PcapError.{PcapError}
use Rattle.pcap_trace.specs.declared.refusal.PcapError.TheVariants as pcaps
use Rattle.run_text.specs.LinkSchedule.{link_schedule_of}
use Rattle.run_text.specs.Trace.{trace_of, schedule_of}
use Rattle.run_text.specs.declared.refusal.LinesError.TheVariants as lines
use Rattle.gallium_cli.specs.declared.status.Status.{Status}
use Rattle.gallium_cli.specs.declared.status.Status.TheVariants as statuses
use Rattle.gallium_cli.specs.declared.refusal.Refusal.{Refusal}
use Rattle.gallium_cli.specs.declared.refusal.Refusal.TheVariants.{Source, LongProgram, Limits, Exceeded, Split, Trace}
use Rattle.gallium_cli.specs.declared.refusal.Refusal.TheVariants.{Schedule, TooLong, ReadFault, NoMemory, Pcap, Report}
use Rattle.gallium_cli.specs.declared.refusal.Refusal.TheVariants.{Audit, Chain}
use Rattle.gallium_cli.specs.Roles.{Role, source, program, limits, legal_split, true_report, trace, schedule}
use Rattle.gallium_cli.specs.Roles.{link_schedule, wiring, capture, size_of, IsSpelled}
use Rattle.gallium_cli.specs.Splits.{IsUnkept}
use Rattle.gallium_cli.specs.Reports.{IsUntrue}

-- the refusals of what a file of this role holds: none is for want of memory
abbrev pub IsOfRole : Refusal → Role → Type 0
IsOfRole (Source fault) source = fault ≢ errors.NoMemory
IsOfRole (Source fault) program = fault ≢ errors.NoMemory
IsOfRole LongProgram program = Unit {0}
IsOfRole (Limits fault) limits = fault ≢ faults.NoMemory
IsOfRole (Split fault) (legal_split f allowed) = Unit {0}
IsOfRole (Exceeded excess) (legal_split f allowed) = Unit {0}
IsOfRole (Trace fault) trace = fault ≢ lines.NoMemory
IsOfRole (Schedule fault) schedule = fault ≢ lines.NoMemory
IsOfRole (Schedule fault) link_schedule = fault ≢ lines.NoMemory
IsOfRole (Pcap fault) capture = fault ≢ pcaps.NoMemory
IsOfRole (Report number) (true_report m packets) = Unit {0}
IsOfRole (Audit untruth) (true_report m packets) = Unit {0}
IsOfRole (Chain fault) wiring = fault ≢ chains.NoMemory
IsOfRole _ role = ⊥

-- why a text of this role is refused for what it holds
abbrev pub IsCauseOf : Refusal → Role → List ℕ → Type 0
IsCauseOf (Source fault) source text = (fault ≢ errors.NoMemory) × ¬ (IsSpelled source text) × IsRefused text fault
IsCauseOf (Source fault) program text = (fault ≢ errors.NoMemory) × ¬ (IsSpelled source text) × IsRefused text fault
IsCauseOf LongProgram program text = IsSpelled source text × ¬ (IsSpelled program text)
IsCauseOf (Limits fault) limits text = texts.refusal_of text ≡ Some fault
IsCauseOf (Split fault) (legal_split f allowed) text = (length f.code ≤ 4096) × IsUnkept (Split fault) f allowed text
IsCauseOf (Exceeded excess) (legal_split f allowed) text =
    (length f.code ≤ 4096) × IsUnkept (Exceeded excess) f allowed text
IsCauseOf (Trace fault) trace text = trace_of text ≡ Err fault
IsCauseOf (Schedule fault) schedule text = schedule_of text ≡ Err fault
IsCauseOf (Schedule fault) link_schedule text = link_schedule_of text ≡ Err fault
IsCauseOf (Pcap fault) capture text = (fault ≢ pcaps.NoMemory) × ¬ (IsSpelled capture text) × pcap.IsRefused text fault
IsCauseOf (Report number) (true_report m packets) text =
    ¬ (IsSpelled (true_report m packets) text) × IsUntrue (Report number) m packets text
IsCauseOf (Audit untruth) (true_report m packets) text =
    ¬ (IsSpelled (true_report m packets) text) × IsUntrue (Audit untruth) m packets text
IsCauseOf (Chain fault) wiring text = (fault ≢ chains.NoMemory) × ¬ (IsSpelled wiring text) × chain.IsRefused text fault
IsCauseOf _ role text = ⊥

-- it is refused for no other cause, where that isn't plain
abbrev pub IsAlone : Refusal → Role → List ℕ → Type 0
IsAlone (Source fault) role text = (other : TextError) → other ≢ errors.NoMemory → IsRefused text other → other ≡ fault
IsAlone (Pcap fault) role text = (other : PcapError) → other ≢ pcaps.NoMemory → pcap.IsRefused text other → other ≡ fault
IsAlone (Chain fault) role text =
    (other : ChainTextError) → other ≢ chains.NoMemory → chain.IsRefused text other → other ≡ fault
IsAlone (Report number) (true_report m packets) text =
    (other : Refusal) → IsUntrue other m packets text → other ≡ Report number
IsAlone (Audit untruth) (true_report m packets) text =
    (other : Refusal) → IsUntrue other m packets text → other ≡ Audit untruth
IsAlone _ role text = Unit {0}

-- it is refused for this cause, and for no other
abbrev pub IsSoleCause : Refusal → Role → List ℕ → Type 0
IsSoleCause refusal role text = IsCauseOf refusal role text × IsAlone refusal role text

-- why a text isn't read
abbrev pub IsUnread : Refusal → Role → List ℕ → Type 0
IsUnread NoMemory role text = Unit {0}
IsUnread refusal role text = IsOfRole refusal role × IsSoleCause refusal role text

-- a file of this role is too long, and is blamed for it; a file can't be read, and is blamed for that
abbrev pub IsFileTooLong : Role → List ℕ → FilesState → FilesState → Type 0
IsFileTooLong role name f f' =
    IfSome (f.told name) (λ text. size_of role < length text)
    × (f'.overlong_name ≡ Some name) × Rose f.overlong f'.overlong

abbrev pub IsFileFaulty : List ℕ → FilesState → FilesState → Type 0
IsFileFaulty name f f' = (f'.fault_name ≡ Some name) × Rose f.faults f'.faults

-- Why a file is refused. What is said of its text is said where that is told.
abbrev pub IsFileRefused : Refusal → Role → List ℕ → FilesState → FilesState → Type 0
IsFileRefused (TooLong blamed) role name f f' = (blamed.now ≡ name) × IsFileTooLong role name f f'
IsFileRefused (ReadFault blamed) role name f f' = (blamed.now ≡ name) × IsFileFaulty name f f'
IsFileRefused NoMemory role name f f' = Unit {0}
IsFileRefused refusal role name f f' =
    IsOfRole refusal role × IfSome (f.told name) (λ text. (length text ≤ size_of role) × IsSoleCause refusal role text)

-- the bytes of a file that was read: the told ones, where they are told
abbrev pub AreBytesOf : List ℕ → List ℕ → ℕ → FilesState → Type 0
AreBytesOf bytes name size f = (length bytes ≤ size) × IfSome (f.told name) (λ told. bytes ≡ told)

-- a count after so many more; it stands still at its type's end
abbrev pub raised_by : ℕ → ℕ → ℕ
raised_by n count = min (count + n) (2 ^ 64 - 1)

abbrev pub is_read_fault : Status → Bool
is_read_fault statuses.ReadFault = true
is_read_fault _ = false

abbrev pub is_too_long : Status → Bool
is_too_long statuses.TooLong = true
is_too_long _ = false

-- Files after some reads, by how these ended: what is told stays, a read fault or a file that is too long is counted
-- once, where the status is that, and all else but the number of reads is as before.
pub record LeavesFiles (status : Status) (f f' : FilesState) : Type 0 where
  pub told : (name : List ℕ) → f'.told name ≡ f.told name
  pub faults : IsCountedIf (is_read_fault status) f.faults f'.faults
  pub fault_name : OnFalse (is_read_fault status) (f'.fault_name ≡ f.fault_name)
  pub overlong : IsCountedIf (is_too_long status) f.overlong f'.overlong
  pub overlong_name : OnFalse (is_too_long status) (f'.overlong_name ≡ f.overlong_name)

-- the refusal of a source that isn't read
abbrev pub refusal_of : TextError → Refusal
refusal_of errors.NoMemory = NoMemory
refusal_of fault = Source fault
