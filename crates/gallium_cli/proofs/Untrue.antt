-- Why the report that a file holds isn't taken: for one cause, and not where it is.
use Rattle.std.proofs.Common.{◌≡◌, ◌≢◌, ◌⊎◌, ℕ, suc, List, Option, IsSomeAnd, refl, sym, ap, subst, ◌∙◌, inl, inr, arith}
use Rattle.std.specs.Prelude.{Ok}
use Rattle.packet_fields.specs.declared.packet.Packet.{Packet}
use Rattle.element_lang.specs.Tree.{Tree}
use Rattle.element_lang.specs.Accepted.{IsSource}
use Rattle.run_model.specs.declared.run.Run.{Run as RunTold}
use Rattle.report_text.specs.Lines.{IsReport}
use Rattle.report_text.specs.Lines as reports
use Rattle.report_text.specs.declared.error.RunTextError.{RunTextError}
use Rattle.report_text.specs.declared.error.RunTextError.TheVariants as lines
use Rattle.run_audit.specs.Refused.{IsRefused}
use Rattle.run_audit.specs.Told.{IsTrueReport}
use Rattle.run_audit.specs.declared.error.AuditError.{AuditError}
use Rattle.run_audit.specs.declared.error.AuditError.TheVariants as audits
use Rattle.report_text.proofs.Laws.{one_report_line_is_first_wrong}
use Rattle.run_audit.proofs.Laws.{reports_are_refused_for_one_cause-none, reports_are_refused_for_one_cause-one}
use Rattle.run_text.specs.Trace.{trace_of}
use Rattle.gallium_cli.specs.declared.refusal.Untruth.{Untruth}
use Rattle.gallium_cli.specs.declared.refusal.Refusal.{Refusal}
use Rattle.gallium_cli.specs.declared.refusal.Refusal.TheVariants.{Report, Audit}
use Rattle.gallium_cli.specs.Lines.{status_of}
use Rattle.gallium_cli.specs.Roles.{true_report}
use Rattle.gallium_cli.specs.Answers.{IsInput, IsAuditInput}
use Rattle.gallium_cli.specs.Loads.{IsUnread}
use Rattle.gallium_cli.specs.Reports.{IsUntrue, untruth_of}
use Rattle.gallium_cli.specs.Promises.{IsStatusOf, IsToldInput}
use Rattle.gallium_cli.proofs.Told.{meet, some_then}

-- ## What a reader answers

-- a text that is refused at a line is of no run
line_untold : (m : Tree) (text : List ℕ) (number : ℕ) (run : RunTold)
    → reports.IsRefused m.objects text (lines.Line number) → IsReport m.objects text run → ⊥
line_untold m text number run (before, is, first) told = first.none run told

lines_are : (a b before before' : ℕ) → lines.Line a ≡ lines.Line (suc before) → lines.Line b ≡ lines.Line (suc before')
    → before ≡ before' → Report b ≡ Report a
lines_are a b before before' one two same =
    let first : a ≡ suc before = cc in
    let second : b ≡ suc before' = cc in
    let numbers : b ≡ a = omega arith in
    ap Report numbers

only_line : (m : Tree) (packets : List Packet) (text : List ℕ) (number : ℕ)
    → reports.IsRefused m.objects text (lines.Line number) → (other : Refusal) → IsUntrue other m packets text
    → other ≡ Report number
only_line m packets text number (before, is, first) (Report k) (before', is', first') =
    lines_are number k before before' is is' (one_report_line_is_first_wrong m.objects _ before before' first first')
only_line m packets text number (before, is, first) (Audit untruth) (run, error, told, real, refused, same) =
    absurd (first.none run told)
only_line m packets text number refused _ other = absurd other

pub line_answered : (m : Tree) (packets : List Packet) (text : List ℕ) (number : ℕ) (e : RunTextError)
    → (e ≡ lines.NoMemory) ⊎ reports.IsRefused m.objects text e → e ≡ lines.Line number
    → IsUnread (Report number) (true_report m packets) text
line_answered m packets text number e (inl none) is = cc
line_answered m packets text number e (inr why) is =
    let refused = subst (reports.IsRefused m.objects text) is why in (
      tt,
      ((λ spelled. line_untold m text number spelled.0 refused spelled.1, refused), only_line m packets text number refused),
    )

-- a true report isn't refused, and another is for one cause
only_untruth : (m : Tree) (packets : List Packet) (text : List ℕ) (run : RunTold) (error : AuditError) (untruth : Untruth)
    → ((other : RunTold) → IsReport m.objects text other → other ≡ run) → IsReport m.objects text run
    → error ≢ audits.NoMemory → IsRefused m packets run error → untruth ≡ untruth_of m.objects error
    → (other : Refusal) → IsUntrue other m packets text → other ≡ Audit untruth
only_untruth m packets text run error untruth only told real refused is (Report number) why =
    absurd (line_untold m text number run why told)
only_untruth m packets text run error untruth only told real refused is (Audit found) (run', error', told', real', refused', is') =
    let same = only run' told' in
    let errors = reports_are_refused_for_one_cause-one m packets run error' error real' real
    (subst (λ (r : RunTold). IsRefused m packets r error') same refused') refused in
    ap Audit (is' ∙ ap (untruth_of m.objects) errors ∙ sym is)
only_untruth m packets text run error untruth only told real refused is _ why = absurd why

pub untrue_unread : (m : Tree) (packets : List Packet) (text : List ℕ) (run : RunTold) (error : AuditError)
    (untruth : Untruth) → IsReport m.objects text run → ((other : RunTold) → IsReport m.objects text other → other ≡ run)
    → error ≢ audits.NoMemory → IsRefused m packets run error → untruth ≡ untruth_of m.objects error
    → IsUnread (Audit untruth) (true_report m packets) text
untrue_unread m packets text run error untruth told only real refused is = (
  tt,
  (
    (
      λ spelled.
          reports_are_refused_for_one_cause-none m packets run error real
          (subst (λ (r : RunTold). IsTrueReport m packets r) (only spelled.0 spelled.1) spelled.2) refused,
      (run, error, told, real, refused, is),
    ),
    only_untruth m packets text run error untruth only told real refused is,
  ),
)

-- ## Its status

-- by its cause
pub cause_report : (cause : Refusal) (m : Tree) (packets : List Packet) (text : List ℕ) → IsUntrue cause m packets text
    → IsStatusOf (status_of cause) (true_report m packets) text
cause_report (Report number) m packets text why = inl (refl, λ tells. line_untold m text number tells.0 why tells.1)
cause_report (Audit untruth) m packets text (run, error, told, real, refused, is) = inr (refl, (run, told))
cause_report _ m packets text why = absurd why

-- ## One middlebox and one list of packets

pub record IsSameInput (m m' : Tree) (packets packets' : List Packet) : Type 0 where
  pub middlebox : m ≡ m'
  pub arrived : packets ≡ packets'

pub same_input : (told : List ℕ → Option (List ℕ)) (s t : List ℕ) (m m' : Tree) (packets packets' : List Packet)
    → IsSomeAnd (told s) (λ text. IsSource text m) → IsSomeAnd (told t) (λ text. trace_of text ≡ Ok packets)
    → IsInput told s t m' packets' → IsSameInput m m' packets packets'
same_input told s t m m' packets packets' one two found = record {
  middlebox = (let (text, is, other) = meet _ _ (told s) one found.source in other.1.only m is);
  arrived = (let (text, is, other) = meet _ _ (told t) two found.trace in let also = other.1 in cc);
}

-- so what a report is to tell is one thing
pub same_report : (told : List ℕ → Option (List ℕ)) (s t : List ℕ) (m m' : Tree) (packets packets' : List Packet)
    → IsToldInput told s t m packets → IsAuditInput told s t m' packets'
    → true_report m packets ≡ true_report m' packets'
same_report told s t m m' packets packets' asked found =
    let same =
    same_input told s t m m' packets packets'
    (some_then _ (λ text. IsSource text m) (told s) asked.source (λ text h. h.1))
    (some_then _ (λ text. trace_of text ≡ Ok packets) (told t) asked.trace (λ text h. h.1)) found.input in
    ap (λ (n : Tree). true_report n packets) same.middlebox
    ∙ ap (λ (ps : List Packet). true_report m' ps) same.arrived
