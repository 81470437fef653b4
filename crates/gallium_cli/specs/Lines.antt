-- The status and the line of each refusal.
use Rattle.std.specs.Prelude.{ℕ, List, [], ◌++◌, Option, Some, None, codes, decimal}
use Rattle.gal_io.specs.Lines.{line_end}
use Rattle.element_lang.specs.declared.sizes.What.{What}
use Rattle.element_lang.specs.declared.sizes.What.TheVariants.{Depth, Objects, Entries, Writes}
use Rattle.chain_compose.specs.declared.error.ComposeError.{ComposeError}
use Rattle.chain_compose.specs.declared.error.ComposeError.TheVariants as composing
use Rattle.chain_compose.specs.declared.error.What.{What as Amount}
use Rattle.chain_compose.specs.declared.error.What.TheVariants as amounts
use Rattle.chain_text.specs.declared.error.ChainTextError.{ChainTextError}
use Rattle.chain_text.specs.declared.error.ChainTextError.TheVariants as chains
use Rattle.element_text.specs.declared.error.TextError.{TextError}
use Rattle.element_text.specs.declared.error.TextError.TheVariants as errors
use Rattle.resource_limits.specs.Limits.{name_of}
use Rattle.resource_limits.specs.Kept.{limit_name}
use Rattle.resource_limits.specs.declared.limits.LimitsError.{LimitsError}
use Rattle.resource_limits.specs.declared.limits.LimitsError.TheVariants as faults
use Rattle.pcap_trace.specs.declared.refusal.PcapError.{PcapError}
use Rattle.pcap_trace.specs.declared.refusal.PcapError.TheVariants as pcaps
use Rattle.run_audit.specs.declared.error.AuditError.{AuditError}
use Rattle.run_audit.specs.declared.error.AuditError.TheVariants as audits
use Rattle.run_text.specs.declared.refusal.LineKind.{LineKind}
use Rattle.run_text.specs.declared.refusal.LineKind.TheVariants as kinds
use Rattle.run_text.specs.declared.refusal.LinesError.{LinesError}
use Rattle.run_text.specs.declared.refusal.LinesError.TheVariants as lines
use Rattle.gallium_cli.specs.declared.status.Status.{Status}
use Rattle.gallium_cli.specs.declared.status.Status.TheVariants as statuses
use Rattle.gallium_cli.specs.declared.refusal.Excess.{Excess}
use Rattle.gallium_cli.specs.declared.refusal.Untruth.{Untruth}
use Rattle.gallium_cli.specs.declared.refusal.SplitFault.{SplitFault}
use Rattle.gallium_cli.specs.declared.refusal.SplitFault.TheVariants as splits
use Rattle.gallium_cli.specs.declared.refusal.Refusal.{Refusal}
use Rattle.gallium_cli.specs.declared.refusal.Refusal.TheVariants.{Usage, Source, LongProgram, Limits, Exceeded, Split}
use Rattle.gallium_cli.specs.declared.refusal.Refusal.TheVariants.{Trace, Schedule, TooLong, ReadFault, WriteFault}
use Rattle.gallium_cli.specs.declared.refusal.Refusal.TheVariants.{SwitchFault, NoMemory, Pcap, Report, Audit, Chain}
use Rattle.gallium_cli.specs.declared.refusal.Refusal.TheVariants.{ClassSource, ClassTooLong, ClassReadFault}
use Rattle.gallium_cli.specs.declared.refusal.Refusal.TheVariants as refusals
use Rattle.gallium_cli.specs.declared.refusal.Uncomposed.{Uncomposed}

-- how many there are, and how many there may be
abbrev pub numbers_text : ℕ → ℕ → List ℕ
numbers_text have allowed = decimal have ++ (codes ", allowed " ++ (decimal allowed ++ line_end))

-- what there is too much of
abbrev pub what_text : What → List ℕ
what_text Depth = codes "depth"
what_text Objects = codes "objects"
what_text Entries = codes "entries"
what_text Writes = codes "writes"

-- what is wrong with a source that is refused; offsets are bytes from the start of the text
abbrev pub source_text : TextError → List ℕ
source_text (errors.NotUtf8 offset) = codes "source: not utf-8 at " ++ decimal offset
source_text (errors.Token offset) = codes "source: token at " ++ decimal offset
source_text (errors.Syntax offset) = codes "source: syntax at " ++ decimal offset
source_text (errors.Rule rule offset) = codes "source: rule " ++ (decimal rule ++ (codes " at " ++ decimal offset))
source_text (errors.TooLarge what have allowed) =
    codes "source: " ++ (what_text what
    ++ (codes " have " ++ (decimal have ++ (codes ", allowed " ++ decimal allowed))))
source_text errors.NoMemory = codes "no memory"

-- the line of a source, and that of the source of a class, which is in the file of this name
abbrev pub source_line : TextError → List ℕ
source_line fault = source_text fault ++ line_end

abbrev pub class_line : TextError → List ℕ → List ℕ
class_line fault name = source_text fault ++ (codes " in " ++ (name ++ line_end))

-- the line of limits that are refused
abbrev pub limits_line : LimitsError → List ℕ
limits_line faults.Toml = codes "limits: not toml" ++ line_end
limits_line (faults.Missing key) = codes "limits: missing " ++ (name_of key ++ line_end)
limits_line faults.Unknown = codes "limits: unknown key" ++ line_end
limits_line (faults.Range key) = codes "limits: range " ++ (name_of key ++ line_end)
limits_line faults.NoMemory = codes "no memory" ++ line_end

-- the name of an object behind a space, where a limit is for each object
abbrev pub owner_text : Option (List ℕ) → List ℕ
owner_text None = []
owner_text (Some name) = codes " " ++ name

-- the line of a limit that is exceeded
abbrev pub excess_line : Excess → List ℕ
excess_line e =
    codes "limit " ++ (limit_name e.limit
    ++ (owner_text e.object ++ (codes ": have " ++ numbers_text e.have e.allowed)))

-- the line of a split text that is refused: where no such text goes on, or which rule its split breaks at which
-- instruction
abbrev pub split_line : SplitFault → List ℕ
split_line (splits.Line number) = codes "split: line " ++ (decimal number ++ line_end)
split_line (splits.Rule rule instruction) =
    codes "split: rule " ++ (decimal rule ++ (codes " at " ++ (decimal instruction ++ line_end)))

-- what is wrong with a line
abbrev pub kind_text : LineKind → List ℕ
kind_text kinds.Form = codes "form"
kind_text kinds.Number = codes "number"
kind_text kinds.Hex = codes "hex"
kind_text kinds.Long = codes "long"
kind_text kinds.AfterDrain = codes "after-drain"

-- the line of a text of lines that is refused: of which kind of file, and what there may be too many of
abbrev pub lines_line : List ℕ → List ℕ → LinesError → List ℕ
lines_line file values (lines.Line number kind) =
    file ++ (codes ": line " ++ (decimal number ++ (codes " " ++ (kind_text kind ++ line_end))))
lines_line file values (lines.TooMany have allowed) =
    file ++ (codes ": " ++ (values ++ (codes " have " ++ numbers_text have allowed)))
lines_line file values lines.NoMemory = codes "no memory" ++ line_end

-- the line of a capture that is refused; places are bytes from its start
abbrev pub pcap_line : PcapError → List ℕ
pcap_line pcaps.Header = codes "pcap: header at 0" ++ line_end
pcap_line pcaps.Link = codes "pcap: link at 20" ++ line_end
pcap_line (pcaps.Long at) = codes "pcap: long at " ++ (decimal at ++ line_end)
pcap_line (pcaps.Record at) = codes "pcap: record at " ++ (decimal at ++ line_end)
pcap_line (pcaps.TooMany have) = codes "pcap: packets have " ++ (decimal have ++ (codes ", allowed 16384" ++ line_end))
pcap_line pcaps.NoMemory = codes "no memory" ++ line_end

-- the line of a report that isn't true: packets go by their numbers, and an object by its name
abbrev pub audit_text : AuditError → Option (List ℕ) → List ℕ
audit_text audits.Counts object = codes "audit: counts" ++ line_end
audit_text (audits.Order number) object = codes "audit: order " ++ (decimal number ++ line_end)
audit_text (audits.Time number) object = codes "audit: time " ++ (decimal number ++ line_end)
audit_text (audits.Verdict number) object = codes "audit: verdict " ++ (decimal number ++ line_end)
audit_text (audits.Object number) object = codes "audit: object" ++ (owner_text object ++ line_end)
audit_text audits.NoMemory object = codes "no memory" ++ line_end

abbrev pub audit_line : Untruth → List ℕ
audit_line u = audit_text u.error u.object

-- the line of a text that is no report
abbrev pub report_line : ℕ → List ℕ
report_line number = codes "report: line " ++ (decimal number ++ line_end)

-- the line of a text that is no chain; offsets are bytes from its start, and statements go by their numbers from 1
abbrev pub chain_line : ChainTextError → List ℕ
chain_line (chains.Syntax offset) = codes "chain: syntax at " ++ (decimal offset ++ line_end)
chain_line (chains.Elements have) =
    codes "chain: elements have " ++ (decimal have ++ (codes ", allowed 32" ++ line_end))
chain_line (chains.Statement number) = codes "chain: statement " ++ (decimal number ++ line_end)
chain_line chains.Empty = codes "chain: empty" ++ line_end
chain_line chains.Cycle = codes "chain: cycle" ++ line_end
chain_line chains.NoMemory = codes "no memory" ++ line_end

-- what there is too much of in a composed middlebox
abbrev pub amount_text : Amount → List ℕ
amount_text amounts.Objects = codes "objects"
amount_text amounts.Entries = codes "entries"
amount_text amounts.Writes = codes "writes"
amount_text amounts.Depth = codes "depth"
amount_text amounts.Bytes = codes "bytes"

-- the line of a chain that isn't composed: an element goes by its name
abbrev pub composing_text : ComposeError → Option (List ℕ) → List ℕ
composing_text (composing.Byte number) element = codes "chain: byte" ++ (owner_text element ++ line_end)
composing_text (composing.Repeat number) element = codes "chain: repeat" ++ (owner_text element ++ line_end)
composing_text composing.Statements element = codes "chain: more than 65536 statements" ++ line_end
composing_text (composing.TooLarge what have allowed) element =
    codes "chain: " ++ (amount_text what ++ (codes " have " ++ numbers_text have allowed))
composing_text composing.NoMemory element = codes "no memory" ++ line_end

abbrev pub composing_line : Uncomposed → List ℕ
composing_line u = composing_text u.error u.element

abbrev pub status_of : Refusal → Status
status_of Usage = statuses.Usage
status_of (Source fault) = statuses.Source
status_of LongProgram = statuses.Source
status_of (Limits fault) = statuses.Limits
status_of (Exceeded excess) = statuses.Exceeded
status_of (Split fault) = statuses.Split
status_of (Trace fault) = statuses.Trace
status_of (Schedule fault) = statuses.Schedule
status_of (TooLong name) = statuses.TooLong
status_of (ReadFault name) = statuses.ReadFault
status_of WriteFault = statuses.WriteFault
status_of SwitchFault = statuses.SwitchFault
status_of NoMemory = statuses.NoMemory
status_of (Pcap fault) = statuses.Pcap
status_of (Report number) = statuses.Report
status_of (Audit untruth) = statuses.Audit
status_of (Chain fault) = statuses.Chain
status_of (ClassSource fault name) = statuses.Source
status_of (ClassTooLong name) = statuses.TooLong
status_of (ClassReadFault name) = statuses.ReadFault
status_of (refusals.Uncomposed uncomposed) = statuses.Chain

abbrev pub line_of : Refusal → List ℕ
line_of Usage = codes "usage: gallium run, compile, check, replay or gen" ++ line_end
line_of (Source fault) = source_line fault
line_of LongProgram = codes "source: more than 4096 instructions" ++ line_end
line_of (Limits fault) = limits_line fault
line_of (Exceeded excess) = excess_line excess
line_of (Split fault) = split_line fault
line_of (Trace fault) = lines_line (codes "trace") (codes "packets") fault
line_of (Schedule fault) = lines_line (codes "schedule") (codes "events") fault
line_of (TooLong name) = codes "too long: " ++ (name.now ++ line_end)
line_of (ReadFault name) = codes "read fault: " ++ (name.now ++ line_end)
line_of WriteFault = codes "write fault" ++ line_end
line_of SwitchFault = codes "switch fault" ++ line_end
line_of NoMemory = codes "no memory" ++ line_end
line_of (Pcap fault) = pcap_line fault
line_of (Report number) = report_line number
line_of (Audit untruth) = audit_line untruth
line_of (Chain fault) = chain_line fault
line_of (ClassSource fault name) = class_line fault name
line_of (ClassTooLong name) = codes "too long: " ++ (name ++ line_end)
line_of (ClassReadFault name) = codes "read fault: " ++ (name ++ line_end)
line_of (refusals.Uncomposed uncomposed) = composing_line uncomposed
