-- How a place goes on by a command.
use Rattle.std.proofs.Common.{◌≡◌, ℕ, ◌+◌, ◌-◌, ◌<◌, ◌≤◌, false, ltb, List, [], ◌∷◌, Some, sym, subst, ◌∙◌, ap, arith, zero, suc, length, take, drop, get_or}
use Rattle.std.proofs.lemmas.Bool.{le-ltb, lt-ltb}
use Rattle.output_commit.specs.declared.span.Span.{Span}
use Rattle.output_commit.specs.declared.place.Place.{Place}
use Rattle.output_commit.specs.Spans.{IsIn, passed, span_len, stands, total}

-- there is a batch at the place
pub there : (spans : List Span) (i s : ℕ) → i ≤ length spans → s ≤ total (take 1 (drop i spans)) → total (take i spans) + s < total spans → i < length spans
there [] i s within step less = absurd (omega arith)
there (x ∷ xs) zero s within step less = omega arith
there (x ∷ xs) (suc i) s within step less = let r = there xs i s (omega arith) step (omega arith) in omega arith

pub one_len : (spans : List Span) (i : ℕ) (d : Span) → i < length spans → total (take 1 (drop i spans)) ≡ span_len (get_or spans i d)
one_len [] i d h = absurd (omega arith)
one_len (x ∷ xs) zero d h = omega arith
one_len (x ∷ xs) (suc i) d h = one_len xs i d (omega arith)

pub total_next : (spans : List Span) (i : ℕ) (d : Span) → i < length spans → total (take (suc i) spans) ≡ total (take i spans) + span_len (get_or spans i d)
total_next [] i d h = absurd (omega arith)
total_next (x ∷ xs) zero d h = omega arith
total_next (x ∷ xs) (suc i) d h = let r = total_next xs i d (omega arith) in omega arith

-- within its batch
pub stands_here : (spans : List Span) (i s : ℕ) (d : Span) → i < length spans → s < span_len (get_or spans i d) → stands spans (total (take i spans) + s) ≡ Some (get_or spans i d, s)
stands_here [] i s d h less = absurd (omega arith)
stands_here (x ∷ xs) zero s d h less = let t = lt-ltb (0 + s) (span_len x) (omega arith) in let e : 0 + s ≡ s = omega arith in rw t (ap (λ k. Some (x, k)) e)
stands_here (x ∷ xs) (suc i) s d h less =
    let n = span_len x + total (take i xs) + s in
    let f : ltb n (span_len x) ≡ false = le-ltb n (span_len x) (omega arith) in
    let e : n - span_len x ≡ total (take i xs) + s = omega arith in
    rw (f, e) (stands_here xs i s d (omega arith) less)

-- behind its last command the next batch begins
pub next_there : (spans : List Span) (i s : ℕ) (d : Span) → i < length spans → s ≡ span_len (get_or spans i d) → total (take i spans) + s < total spans → suc i < length spans
next_there spans i s d h is less =
    let n = total_next spans i d h in
    there spans (suc i) 0 (omega arith) (omega arith) (omega arith)

pub one_within : (spans : List Span) (i : ℕ) (d : Span) → i < length spans → span_len (get_or spans i d) ≤ total spans
one_within [] i d h = absurd (omega arith)
one_within (x ∷ xs) zero d h = omega arith
one_within (x ∷ xs) (suc i) d h = let r = one_within xs i d (omega arith) in omega arith

-- ## One command more

pub at_batch : (spans : List Span) (p : Place) → IsIn spans p → passed spans p < total spans → p.batch < length spans
at_batch spans p is less = there spans p.batch p.step is.batch is.step less

pub record Passes (spans : List Span) (p q : Place) (x : Span) (s : ℕ) : Type 0 where
  pub inside : IsIn spans q
  pub one : passed spans q ≡ passed spans p + 1
  pub there : stands spans (passed spans p) ≡ Some (x, s)

pub pass_here : (spans : List Span) (p : Place) (d : Span) → IsIn spans p → passed spans p < total spans
    → p.step < span_len (get_or spans p.batch d) → Passes spans p (record { batch = p.batch; step = p.step + 1 }) (get_or spans p.batch d) p.step
pass_here spans p d is less lt =
    let low = at_batch spans p is less in
    let len = one_len spans p.batch d low in
    record {
      inside = record { batch = is.batch; step = omega arith };
      one = omega arith;
      there = stands_here spans p.batch p.step d low lt;
    }

pub pass_there : (spans : List Span) (p : Place) (d : Span) → IsIn spans p → passed spans p < total spans
    → span_len (get_or spans p.batch d) ≤ p.step → p.batch + 1 < length spans
pass_there spans p d is less all =
    let low = at_batch spans p is less in
    let len = one_len spans p.batch d low in
    let step = is.step in
    let next = next_there spans p.batch p.step d low (omega arith) less in
    omega arith

pub pass_next : (spans : List Span) (p : Place) (d : Span) → IsIn spans p → passed spans p < total spans
    → span_len (get_or spans p.batch d) ≤ p.step → Passes spans p (record { batch = p.batch + 1; step = 1 }) (get_or spans (p.batch + 1) d) 0
pass_next spans p d is less all =
    let low = at_batch spans p is less in
    let next = pass_there spans p d is less all in
    let len = one_len spans p.batch d low in
    let step = is.step in
    let more = total_next spans p.batch d low in
    let e : suc p.batch ≡ p.batch + 1 = omega arith in
    let after : total (take (p.batch + 1) spans) ≡ total (take p.batch spans) + span_len (get_or spans p.batch d) =
    subst (λ i. total (take i spans) ≡ total (take p.batch spans) + span_len (get_or spans p.batch d)) e more in
    let first = one_len spans (p.batch + 1) d next in
    let n : total (take (p.batch + 1) spans) + 0 ≡ total (take p.batch spans) + p.step = omega arith in
    record {
      inside = record { batch = omega arith; step = omega arith };
      one = omega arith;
      there = ap (stands spans) (sym n) ∙ stands_here spans (p.batch + 1) 0 d next (omega arith);
    }
