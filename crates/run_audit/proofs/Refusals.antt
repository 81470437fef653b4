-- A report is refused for one thing at most, and a true one for nothing.
use Rattle.std.proofs.Common.{◌≡◌, ◌<◌, ◌≤◌, ◌⊎◌, ℕ, List, Some, inl, inr, refl, sym, ◌∙◌, ap, subst, arith}
use Rattle.std.specs.Prelude.{slice_get}
use Rattle.std.proofs.lemmas.Bool.{cases_lt}
use Rattle.std.proofs.lemmas.Option.{same_Some}
use Rattle.packet_fields.specs.declared.packet.Packet.{Packet}
use Rattle.element_lang.specs.Tree.{Tree}
use Rattle.run_model.specs.Meaning.{Meaning}
use Rattle.run_model.specs.Order.{order_of}
use Rattle.run_model.specs.Parts.{parts_of}
use Rattle.run_model.specs.Serialises.{run_store}
use Rattle.run_model.specs.declared.run.Run.{Run}
use Rattle.run_model.specs.declared.run.ObjectRows.{ObjectRows}
use Rattle.run_audit.specs.declared.error.AuditError.{AuditError}
use Rattle.run_audit.specs.declared.error.AuditError.TheVariants.{Counts, Order, Time, Verdict, Object, NoMemory}
use Rattle.run_audit.specs.Source.{source_of}
use Rattle.run_audit.specs.Order.{InOrder, IsFirstApart, IsMisplaced, first_of}
use Rattle.run_audit.specs.Told.{Respects, HasVerdicts, IsLate, IsFalse, IsFirst, IsFirstUnlike, IsUnlike, IsTrueReport, object_of}
use Rattle.run_audit.specs.Refused.{IsRefused}
use Rattle.run_audit.proofs.Lists.{one_place, differ_apart}

-- ---- each cause is against what holds of a true report

misplaced_apart : (run : Run) (p : ℕ) → InOrder run → IsMisplaced run p → ⊥
misplaced_apart run p right wrong = differ_apart run.order (order_of run.fates) (wrong.place) wrong.first right

late_apart : (run : Run) (p : ℕ) → Respects run → IsFirst (IsLate run.fates run.order) run.order p → ⊥
late_apart run p right wrong =
    let late : IsLate run.fates run.order (wrong.place) = wrong.is in
    let before : late.i < wrong.place =
    right (late.i) (wrong.place) (late.p) (late.q) (late.r) (late.a) (late.y) late.other late.this late.released late.admitted late.earlier in
    let behind : wrong.place ≤ late.i = late.not_before in
    omega arith

false_apart : (m : Meaning) (run : Run) (p : ℕ) → HasVerdicts m run → IsFirst (IsFalse m run) run.order p → ⊥
false_apart m run p right wrong =
    let bad : IsFalse m run (wrong.place) = wrong.is in
    bad.differs (right (wrong.place) (bad.q) (bad.r) (bad.y) bad.this bad.released)

unlike_apart : (m : Meaning) (run : Run) (o : ℕ) → run.objects ≡ parts_of m.objects (run_store m run) → IsUnlike m run o → ⊥
unlike_apart m run o right wrong =
    differ_apart run.objects (parts_of m.objects (run_store m run)) (wrong.place) wrong.first right

-- ---- each cause names one number

first_one : (Is : ℕ → Type 0) (order : List ℕ) (p q : ℕ) → IsFirst Is order p → IsFirst Is order q → p ≡ q
first_one Is order p q one two = elim (cases_lt (one.place) (two.place)) [
  | inl low ↦ absurd (two.first (one.place) low one.is)
  | inr high ↦ elim (cases_lt (two.place) (one.place)) [
    | inl low ↦ absurd (one.first (two.place) low two.is)
    | inr near ↦
        let same : two.place ≡ one.place = omega arith in
        same_Some p q (sym one.number ∙ subst (λ z. slice_get order z ≡ Some q) same two.number)
  ]
]

apart_one : (told wanted : List ℕ) (p q : ℕ) → IsFirstApart told wanted p → IsFirstApart told wanted q → p ≡ q
apart_one told wanted p q one two =
    let same = one_place told wanted (one.place) (two.place) one.first two.first in
    same_Some p q (sym one.number
    ∙ subst (λ z. first_of (slice_get told z) (slice_get wanted z) ≡ Some q) (sym same) two.number)

unlike_one : (told wanted : List ObjectRows) (p q : ℕ) → IsFirstUnlike told wanted p → IsFirstUnlike told wanted q → p ≡ q
unlike_one told wanted p q one two =
    let same = one_place told wanted (one.place) (two.place) one.first two.first in
    same_Some p q (sym one.number
    ∙ subst (λ z. first_of (object_of (slice_get wanted z)) (object_of (slice_get told z)) ≡ Some q) (sym same) two.number)

-- ---- the laws

pub true_not_refused : (m : Tree) (packets : List Packet) (run : Run) (e : AuditError) → IsTrueReport m packets run
    → IsRefused m packets run e → e ≡ NoMemory
true_not_refused m packets run Counts right wrong = absurd (wrong right.counts)
true_not_refused m packets run (Order p) right wrong = absurd (misplaced_apart run p right.order wrong.1)
true_not_refused m packets run (Time p) right wrong = absurd (late_apart run p right.respects wrong.2)
true_not_refused m packets run (Verdict p) right wrong =
    absurd (false_apart (source_of m packets) run p right.verdicts wrong.3)
true_not_refused m packets run (Object o) right wrong =
    absurd (unlike_apart (source_of m packets) run o right.rows wrong.4)
true_not_refused m packets run NoMemory right wrong = refl

module _ (m : Tree) (packets : List Packet) (run : Run) where
  abbrev meaning : Meaning
  meaning = source_of m packets

  pub one_refusal : (e found : AuditError) → (e ≡ NoMemory → ⊥) → IsRefused m packets run e
      → IsRefused m packets run found → (found ≡ e) ⊎ (found ≡ NoMemory)
  one_refusal NoMemory found real one two = absurd (real refl)
  one_refusal e NoMemory real one two = inr refl
  one_refusal Counts Counts real one two = inl refl
  one_refusal Counts _ real one two = absurd (one two.0)
  one_refusal _ Counts real one two = absurd (two one.0)
  one_refusal (Order p) (Order q) real one two =
      inl (ap Order (apart_one run.order (order_of run.fates) q p two.1 one.1))
  one_refusal (Order p) _ real one two = absurd (misplaced_apart run p two.1 one.1)
  one_refusal _ (Order q) real one two = absurd (misplaced_apart run q one.1 two.1)
  one_refusal (Time p) (Time q) real one two =
      inl (ap Time (first_one (IsLate run.fates run.order) run.order q p two.2 one.2))
  one_refusal (Time p) _ real one two = absurd (late_apart run p two.2 one.2)
  one_refusal _ (Time q) real one two = absurd (late_apart run q one.2 two.2)
  one_refusal (Verdict p) (Verdict q) real one two =
      inl (ap Verdict (first_one (IsFalse meaning run) run.order q p two.3 one.3))
  one_refusal (Verdict p) _ real one two = absurd (false_apart meaning run p two.3 one.3)
  one_refusal _ (Verdict q) real one two = absurd (false_apart meaning run q one.3 two.3)
  one_refusal (Object p) (Object q) real one two =
      inl (ap Object (unlike_one run.objects (parts_of m.objects (run_store meaning run)) q p two.4 one.4))
