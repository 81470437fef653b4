-- What follows from the right answer.
use Rattle.std.proofs.Common.{◌≡◌, ◌≢◌, ◌⊎◌, List, Result, Ok, Err}
use Rattle.std.specs.Prelude.{OnOk, IfErr, MatchResult}
use Rattle.packet_fields.specs.declared.packet.Packet.{Packet}
use Rattle.element_lang.specs.Tree.{Tree}
use Rattle.run_model.specs.declared.run.Run.{Run}
use Rattle.run_model.specs.Serialises.{Serialises}
use Rattle.run_audit.specs.declared.error.AuditError.{AuditError}
use Rattle.run_audit.specs.declared.error.AuditError.TheVariants.{NoMemory}
use Rattle.run_audit.specs.Source.{source_of}
use Rattle.run_audit.specs.Counts.{CountsAgree}
use Rattle.run_audit.specs.Order.{HaveOwnEvents}
use Rattle.run_audit.specs.Told.{IsTrueReport}
use Rattle.run_audit.specs.Refused.{IsRefused, IsAnswer}
use Rattle.run_audit.proofs.True.{serial_report, true_report}
use Rattle.run_audit.proofs.Refusals.{one_refusal, true_not_refused}

module _ {A : Type 0} (m : Tree) (packets : List Packet) (run : Run) where
  pub answer_ok : (r : Result A AuditError) → IsAnswer m packets run r → OnOk r (IsTrueReport m packets run)
  answer_ok (Ok done) h = h
  answer_ok (Err e) h = tt

  pub answer_serial : (r : Result A AuditError) → IsAnswer m packets run r
      → OnOk r (HaveOwnEvents run.fates → Serialises (source_of m packets) run)
  answer_serial (Ok done) h = serial_report m packets run h
  answer_serial (Err e) h = tt

  pub answer_refused : (r : Result A AuditError) → IsAnswer m packets run r → IfErr r (IsRefused m packets run)
  answer_refused (Ok done) h = tt
  answer_refused (Err e) h = h

  pub answer_exact : (r : Result A AuditError) → IsAnswer m packets run r → (e : AuditError) → e ≢ NoMemory
      → IsRefused m packets run e → MatchResult r (λ done. ⊥) (λ found. (found ≡ e) ⊎ (found ≡ NoMemory))
  answer_exact (Ok done) h e real wrong = real (true_not_refused m packets run e h wrong)
  answer_exact (Err found) h e real wrong = one_refusal m packets run e found real wrong h

  pub answer_found : (r : Result A AuditError) → IsAnswer m packets run r → IsTrueReport m packets run
      → IfErr r (λ e. e ≡ NoMemory)
  answer_found (Ok done) h right = tt
  answer_found (Err e) h right = true_not_refused m packets run e right h

  pub answer_serialises : (r : Result A AuditError) → IsAnswer m packets run r → CountsAgree packets run
      → Serialises (source_of m packets) run → IfErr r (λ e. e ≡ NoMemory)
  answer_serialises r h counts serial = answer_found r h (true_report m packets run counts serial)
