-- Why a report is refused.
use Rattle.std.specs.Prelude.{List, Result, Ok, Err}
use Rattle.packet_fields.specs.declared.packet.Packet.{Packet}
use Rattle.element_lang.specs.Tree.{Tree}
use Rattle.run_model.specs.declared.run.Run.{Run}
use Rattle.run_audit.specs.declared.error.AuditError.{AuditError}
use Rattle.run_audit.specs.declared.error.AuditError.TheVariants.{Counts, Order, Time, Verdict, Object, NoMemory}
use Rattle.run_audit.specs.Source.{source_of}
use Rattle.run_audit.specs.Counts.{CountsAgree}
use Rattle.run_audit.specs.Order.{InOrder, IsMisplaced}
use Rattle.run_audit.specs.Told.{Respects, HasVerdicts, IsLate, IsFalse, IsFirst, IsUnlike, IsTrueReport}

-- the report is refused for this, and for nothing that is tested before it
abbrev pub IsRefused : Tree → List Packet → Run → AuditError → Type 0
IsRefused m packets run Counts = CountsAgree packets run → ⊥
IsRefused m packets run (Order p) = CountsAgree packets run × IsMisplaced run p
IsRefused m packets run (Time p) =
    CountsAgree packets run × InOrder run × IsFirst (IsLate run.fates run.order) run.order p
IsRefused m packets run (Verdict p) =
    CountsAgree packets run × InOrder run × Respects run × IsFirst (IsFalse (source_of m packets) run) run.order p
IsRefused m packets run (Object o) =
    CountsAgree packets run × InOrder run × Respects run × HasVerdicts (source_of m packets) run
    × IsUnlike (source_of m packets) run o
IsRefused m packets run NoMemory = Unit {0}

-- this is the right answer for the report
abbrev pub IsAnswer : {A : Type 0} → Tree → List Packet → Run → Result A AuditError → Type 0
IsAnswer m packets run (Ok done) = IsTrueReport m packets run
IsAnswer m packets run (Err e) = IsRefused m packets run e
