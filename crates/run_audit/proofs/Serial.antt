-- The serial run, packet by packet, against the verdicts that are told.
use Rattle.std.proofs.Common.{◌≡◌, ◌<◌, ◌≤◌, ◌+◌, ℕ, zero, suc, Bool, true, false, List, [], ◌∷◌, length, drop, get_or, Option, Some, None, ◌↔◌, inl, inr, refl, sym, ◌∙◌, ap, subst, arith}
use Rattle.std.specs.Prelude.{slice_get, MatchOption, IsTrue, All}
use Rattle.std.proofs.lemmas.Bool.{cases_lt}
use Rattle.std.proofs.lemmas.Option.{same_Some, slice_get_within, slice_get-get_or, slice_get_read, get_or_from_slice_get}
use Rattle.packet_fields.specs.declared.packet.Packet.{Packet}
use Rattle.packet_fields.specs.declared.verdict.Verdict.{Verdict}
use Rattle.state_store.specs.Store.{Store}
use Rattle.element_lang.specs.Tree.{Tree}
use Rattle.element_lang.specs.Meaning.{source_store, source_verdict}
use Rattle.run_model.specs.Meaning.{Meaning, packet_at, serial_store, serial_verdicts}
use Rattle.run_model.specs.declared.fate.Fate.{Fate}
use Rattle.run_model.specs.declared.run.Run.{Run}
use Rattle.run_model.specs.Serialises.{released_at, run_store, run_verdicts}
use Rattle.run_audit.specs.Source.{source_of}
use Rattle.run_audit.specs.Told.{HasVerdicts, IsFalse, IsFirst}
use Rattle.lemmas.proofs.Lists.{drop_got, drop_past}

-- ---- a list from a place on

first_here : {X : Type 0} (xs : List X) (n : ℕ) (x : X) (rest : List X) → drop n xs ≡ x ∷ rest
    → (slice_get xs n ≡ Some x) × (drop (suc n) xs ≡ rest)
first_here [] zero x rest h = cc
first_here [] (suc n) x rest h = cc
first_here (y ∷ ys) zero x rest h = let head : y ≡ x = cc in let tail : ys ≡ rest = cc in (ap Some head, tail)
first_here (y ∷ ys) (suc n) x rest h = first_here ys n x rest h

-- ---- how far the run has come

-- the first n packets have run, and each that was released has its verdict
pub record HasRun (m : Meaning) (run : Run) (n : ℕ) (store : Store) : Type 0 where
  pub rest : serial_store m store (drop n run.order) ≡ run_store m run
  pub verdicts : drop n (run_verdicts m run) ≡ serial_verdicts m store (drop n run.order)
  pub right : (i p r : ℕ) (y : Verdict) → i < n → slice_get run.order i ≡ Some p
      → released_at (slice_get run.fates p) ≡ Some (r, y) → slice_get (run_verdicts m run) i ≡ Some y

-- the verdict of the next packet stands at its place
next_verdict : (m : Meaning) (run : Run) (n p : ℕ) (store : Store) → HasRun m run n store → slice_get run.order n ≡ Some p
    → (slice_get (run_verdicts m run) n ≡ Some (m.verdict store p))
    × (drop (suc n) (run_verdicts m run) ≡ serial_verdicts m (m.after store p) (drop (suc n) run.order))
next_verdict m run n p store has here =
    first_here (run_verdicts m run) n (m.verdict store p) (serial_verdicts m (m.after store p) (drop (suc n) run.order))
    (has.verdicts ∙ ap (serial_verdicts m store) (drop_got run.order n p here))

pub one_more_run : (m : Meaning) (run : Run) (n p : ℕ) (store next : Store) → HasRun m run n store
    → slice_get run.order n ≡ Some p → next ≡ m.after store p
    → ((r : ℕ) (y : Verdict) → released_at (slice_get run.fates p) ≡ Some (r, y) → m.verdict store p ≡ y)
    → HasRun m run (n + 1) next
one_more_run m run n p store next has here after told =
    let now = next_verdict m run n p store has here in
    let made : HasRun m run (suc n) next = record {
      rest =
          ap (λ s. serial_store m s (drop (suc n) run.order)) after
          ∙ ap (serial_store m store) (sym (drop_got run.order n p here)) ∙ has.rest;
      verdicts = now.1 ∙ ap (λ s. serial_verdicts m s (drop (suc n) run.order)) (sym after);
      right = λ i q r y low at out. elim (cases_lt i n) [
        | inl before ↦ has.right i q r y before at out
        | inr last ↦
            let is : i ≡ n = omega arith in
            let one : p ≡ q = same_Some p q (sym here ∙ subst (λ k. slice_get run.order k ≡ Some q) is at) in
            subst (λ k. slice_get (run_verdicts m run) k ≡ Some y) (sym is)
            (now.0 ∙ ap Some (told r y (subst (λ k. released_at (slice_get run.fates k) ≡ Some (r, y)) (sym one) out)))
      ];
    } in
    let more : suc n ≡ n + 1 = omega arith in
    subst (λ k. HasRun m run k next) more made

pub all_run : (m : Meaning) (run : Run) (n : ℕ) (store : Store) → HasRun m run n store → length run.order ≤ n
    → HasVerdicts m run × (store ≡ run_store m run)
all_run m run n store has end = (
  (λ i p r y at out. let low = slice_get_within run.order i p at in has.right i p r y (omega arith) at out),
  ap (serial_store m store) (sym (drop_past run.order n end)) ∙ has.rest,
)

pub first_false : (m : Meaning) (run : Run) (n p r : ℕ) (y : Verdict) (store : Store) → HasRun m run n store
    → slice_get run.order n ≡ Some p → released_at (slice_get run.fates p) ≡ Some (r, y)
    → (m.verdict store p ≡ y → ⊥) → IsFirst (IsFalse m run) run.order p
first_false m run n p r y store has here out other =
    let now = (next_verdict m run n p store has here).0 in
    record {
      place = n;
      number = here;
      is = record {
        q = p;
        r = r;
        y = y;
        this = here;
        released = out;
        differs = λ same. other (same_Some (m.verdict store p) y (sym now ∙ same));
      };
      first = λ i low late. late.differs (has.right i (late.q) (late.r) (late.y) low late.this late.released);
    }

-- ---- what `agrees` answers

agreed : (told : Option (ℕ × Verdict)) (b : Bool) (v : Verdict)
    → MatchOption told (b ≡ true) (λ t. IsTrue b ↔ (v ≡ t.1)) → b ≡ true → (r : ℕ) (y : Verdict) → told ≡ Some (r, y) → v ≡ y
agreed None b v h said r y is = cc
agreed (Some t) b v h said r y is = h.0 said ∙ ap (λ (z : ℕ × Verdict). z.1) (same_Some t (r, y) is)

disagreed : (told : Option (ℕ × Verdict)) (b : Bool) (v : Verdict)
    → MatchOption told (b ≡ true) (λ t. IsTrue b ↔ (v ≡ t.1)) → b ≡ false
    → (r : ℕ) × (y : Verdict) × (told ≡ Some (r, y)) × (v ≡ y → ⊥)
disagreed None b v h denied = let wrong : true ≡ false = sym h ∙ denied in cc
disagreed (Some t) b v h denied =
    (t.0, t.1, refl, λ same. let wrong : true ≡ false = sym (h.1 same) ∙ denied in cc)

-- ---- one turn of the loop

abbrev packet_with : ℕ → List ℕ → Packet
packet_with port bytes = record { port = port; bytes = bytes }

-- what is read of slices is read of the lists that they hold
pub taken_from : (packets arrived : List Packet) (order numbers : List ℕ) (n : ℕ) (packet : Packet) → arrived ≡ packets
    → numbers ≡ order → packet ≡ get_or arrived (get_or numbers n 0) packet → packet ≡ get_or packets (get_or order n 0) packet
taken_from packets arrived order numbers n packet same one is =
    is ∙ ap (λ l. get_or l (get_or numbers n 0) packet) same ∙ ap (λ l. get_or packets (get_or l n 0) packet) one

pub told_from : (run : Run) (fates : List Fate) (numbers : List ℕ) (n : ℕ) (v : Verdict) (b : Bool) → fates ≡ run.fates
    → numbers ≡ run.order
    → MatchOption (released_at (slice_get fates (get_or numbers n 0))) (b ≡ true) (λ t. IsTrue b ↔ (v ≡ t.1))
    → MatchOption (released_at (slice_get run.fates (get_or run.order n 0))) (b ≡ true) (λ t. IsTrue b ↔ (v ≡ t.1))
told_from run fates numbers n v b same one told =
    subst (λ l. MatchOption (released_at (slice_get run.fates (get_or l n 0))) (b ≡ true) (λ t. IsTrue b ↔ (v ≡ t.1))) one
    (subst (λ l. MatchOption (released_at (slice_get l (get_or numbers n 0))) (b ≡ true) (λ t. IsTrue b ↔ (v ≡ t.1))) same told)

module _ (m : Tree) (packets : List Packet) (run : Run) (n : ℕ) (packet : Packet) (bytes : List ℕ)
    (within : All (λ k. k < length packets) run.order) (low : n < length run.order)
    (is : packet ≡ get_or packets (get_or run.order n 0) packet) (whole : bytes ≡ packet.bytes) where
  abbrev number : ℕ
  number = get_or run.order n 0

  abbrev arrived : Packet
  arrived = record { port = packet.port; bytes = bytes }

  here : slice_get run.order n ≡ Some number
  here = slice_get-get_or run.order n 0 low

  taken : arrived ≡ packet_at packets number
  taken =
      let few : number < length packets = within n 0 low in
      let there : slice_get packets number ≡ Some packet = slice_get_read packets (length packets) number packet refl few is in
      ap (λ b. packet_with packet.port b) whole
      ∙ sym (get_or_from_slice_get packets number packet (packet_with 0 []) there)

  pub turn_goes_on : (store next : Store) (v : Verdict) (b : Bool) → HasRun (source_of m packets) run n store
      → next ≡ source_store m store arrived → v ≡ source_verdict m store arrived
      → MatchOption (released_at (slice_get run.fates number)) (b ≡ true) (λ t. IsTrue b ↔ (v ≡ t.1)) → b ≡ true
      → HasRun (source_of m packets) run (n + 1) next
  turn_goes_on store next v b has after verdict told said =
      one_more_run (source_of m packets) run n number store next has here (after ∙ ap (source_store m store) taken)
      (λ r y out. sym (verdict ∙ ap (source_verdict m store) taken)
      ∙ agreed (released_at (slice_get run.fates number)) b v told said r y out)

  pub turn_ends : (store : Store) (v : Verdict) (b : Bool) → HasRun (source_of m packets) run n store
      → v ≡ source_verdict m store arrived
      → MatchOption (released_at (slice_get run.fates number)) (b ≡ true) (λ t. IsTrue b ↔ (v ≡ t.1)) → b ≡ false
      → IsFirst (IsFalse (source_of m packets) run) run.order number
  turn_ends store v b has verdict told denied =
      let wrong = disagreed (released_at (slice_get run.fates number)) b v told denied in
      first_false (source_of m packets) run n number (wrong.0) (wrong.1) store has here wrong.2
      (λ same. wrong.3 (verdict ∙ ap (source_verdict m store) taken ∙ same))
