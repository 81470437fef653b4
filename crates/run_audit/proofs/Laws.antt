-- What holds of reports that an audit takes for right.
use Rattle.std.proofs.Common.{inl, inr, ◌⊎◌}
use Rattle.std.specs.Prelude.{List, ◌≡◌, ◌≢◌}
use Rattle.element_lang.specs.Tree.{Tree}
use Rattle.packet_fields.specs.declared.packet.Packet.{Packet}
use Rattle.run_model.specs.Meaning.{Meaning}
use Rattle.run_model.specs.Serialises.{Serialises}
use Rattle.run_model.specs.declared.run.Run.{Run}
use Rattle.run_audit.proofs.Refusals.{one_refusal, true_not_refused}
use Rattle.run_audit.proofs.True.{serial_events, serial_report, true_report}
use Rattle.run_audit.specs.Counts.{CountsAgree}
use Rattle.run_audit.specs.Order.{HaveOwnEvents}
use Rattle.run_audit.specs.Refused.{IsRefused}
use Rattle.run_audit.specs.Source.{source_of}
use Rattle.run_audit.specs.Told.{IsTrueReport}
use Rattle.run_audit.specs.declared.error.AuditError.{AuditError, AuditError as Error}
use Rattle.run_audit.specs.declared.error.AuditError.TheVariants.{NoMemory}

-- A report is true where its counts agree and it serialises; the reverse holds where no two packets are decided by one
-- event of one version, as they never are where it serialises.
pub true_reports_serialise-serial : (m : Tree) (packets : List Packet) (run : Run)
    → IsTrueReport m packets run → HaveOwnEvents run.fates → Serialises (source_of m packets) run
true_reports_serialise-serial = serial_report

pub true_reports_serialise-true_report : (m : Tree) (packets : List Packet) (run : Run)
    → CountsAgree packets run → Serialises (source_of m packets) run → IsTrueReport m packets run
true_reports_serialise-true_report = true_report

pub true_reports_serialise-own_events : (m : Meaning) (run : Run) → Serialises m run → HaveOwnEvents run.fates
true_reports_serialise-own_events = serial_events

found_real : (e other : AuditError) → (e ≡ NoMemory → ⊥) → (e ≡ other) ⊎ (e ≡ NoMemory) → e ≡ other
found_real e other real (inl same) = same
found_real e other real (inr none) = absurd (real none)

-- A report has one cause at most why it isn't true, and a true one has none.
pub reports_are_refused_for_one_cause-none : (m : Tree) (packets : List Packet) (run : Run) (e : Error) → e ≢ AuditError.NoMemory
    → IsTrueReport m packets run → IsRefused m packets run e → ⊥
reports_are_refused_for_one_cause-none = λ m packets run e real right wrong. real (true_not_refused m packets run e right wrong)

pub reports_are_refused_for_one_cause-one : (m : Tree) (packets : List Packet) (run : Run) (e other : Error) → e ≢ AuditError.NoMemory
    → other ≢ AuditError.NoMemory → IsRefused m packets run e → IsRefused m packets run other → e ≡ other
reports_are_refused_for_one_cause-one = λ m packets run e other real also one two.
    found_real e other real (one_refusal m packets run other e also two one)
