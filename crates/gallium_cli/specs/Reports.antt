-- Why the report that a file holds isn't taken.
use Rattle.std.specs.Prelude.{◌≡◌, ◌≢◌, ℕ, List, Option, Some, None}
use Rattle.std.specs.Option.{option_map}
use Rattle.packet_fields.specs.declared.packet.Packet.{Packet}
use Rattle.state_store.specs.declared.object.ObjectDecl.{ObjectDecl}
use Rattle.element_lang.specs.Tree.{Tree}
use Rattle.flat_ir.specs.Listing.{name_of}
use Rattle.run_model.specs.declared.run.Run.{Run as RunTold}
use Rattle.report_text.specs.Lines as reports
use Rattle.report_text.specs.declared.error.RunTextError.TheVariants as lines
use Rattle.run_audit.specs.Refused as audit
use Rattle.run_audit.specs.declared.error.AuditError.{AuditError}
use Rattle.run_audit.specs.declared.error.AuditError.TheVariants as audits
use Rattle.gallium_cli.specs.declared.refusal.Untruth.{Untruth}
use Rattle.gallium_cli.specs.declared.refusal.Refusal.{Refusal}
use Rattle.gallium_cli.specs.declared.refusal.Refusal.TheVariants.{Report, Audit}

-- the object that is to blame, by its number
abbrev pub blamed_object : AuditError → Option ℕ
blamed_object (audits.Object object) = Some object
blamed_object _ = None

-- what is told of a report that isn't true, of a middlebox with these objects
abbrev pub untruth_of : List ObjectDecl → AuditError → Untruth
untruth_of objects error = record { error = error; object = option_map (name_of objects) (blamed_object error) }

-- the text is a report of some run
abbrev pub TellsRun : Tree → List ℕ → Type 0
TellsRun m text = (run : RunTold) × reports.IsReport m.objects text run

-- The text is no report of a serial run of the middlebox over these packets: at this line it is no report, or the run
-- that it tells is refused for this.
abbrev pub IsUntrue : Refusal → Tree → List Packet → List ℕ → Type 0
IsUntrue (Report number) m packets text = reports.IsRefused m.objects text (lines.Line number)
IsUntrue (Audit untruth) m packets text =
    (run : RunTold) × (error : AuditError) × reports.IsReport m.objects text run × (error ≢ audits.NoMemory)
    × audit.IsRefused m packets run error × (untruth ≡ untruth_of m.objects error)
IsUntrue _ m packets text = ⊥
