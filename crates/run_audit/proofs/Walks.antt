-- The walk from the end finds the first packet that was admitted too late, if there is one.
use Rattle.std.proofs.Common.{◌≡◌, ◌<◌, ◌≤◌, ◌⊎◌, ℕ, zero, suc, Bool, true, false, cond, List, [], ◌∷◌, Option, Some, None, min, inl, inr, refl, sym, ap, ◌∙◌, arith}
use Rattle.std.specs.Prelude.{slice_get, option_map, MatchOption}
use Rattle.std.proofs.lemmas.Bool.{cases_lt, ltb-true, ltb-false}
use Rattle.std.proofs.lemmas.Option.{same_Some}
use Rattle.packet_fields.specs.declared.verdict.Verdict.{Verdict}
use Rattle.run_model.specs.declared.fate.Fate.{Fate}
use Rattle.run_model.specs.Serialises.{admitted_at, released_at}
use Rattle.run_model.specs.declared.run.Run.{Run}
use Rattle.run_audit.specs.Told.{Respects, IsLate, IsFirst}
use Rattle.run_audit.specs.Walk.{release_of, least_of, is_above, least_in, late_in}

-- ---- the least of the releases

least_first : (n : ℕ) (o : Option ℕ) → (k : ℕ) × (least_of (Some n) o ≡ Some k) × (k ≤ n)
least_first n None = (n, refl, omega arith)
least_first n (Some m) = (min n m, refl, omega arith)

least_rest : (o : Option ℕ) (n : ℕ) → (k : ℕ) × (least_of o (Some n) ≡ Some k) × (k ≤ n)
least_rest None n = (n, refl, omega arith)
least_rest (Some m) n = (min m n, refl, omega arith)

least_low : (fates : List Fate) (order : List ℕ) (i p r : ℕ) (y : Verdict) → slice_get order i ≡ Some p
    → released_at (slice_get fates p) ≡ Some (r, y) → (k : ℕ) × (least_in fates order ≡ Some k) × (k ≤ r)
least_low fates [] i p r y at out = cc
least_low fates (x ∷ xs) zero p r y at out =
    let is : release_of (slice_get fates x) ≡ Some r =
    ap (λ o. release_of (slice_get fates o)) (same_Some x p at) ∙ ap (option_map (λ (told : ℕ × Verdict). told.0)) out in
    let found = least_first r (least_in fates xs) in
    (found.0, ap (λ o. least_of o (least_in fates xs)) is ∙ found.1, found.2)
least_low fates (x ∷ xs) (suc i) p r y at out =
    let rest = least_low fates xs i p r y at out in
    let found = least_rest (release_of (slice_get fates x)) (rest.0) in
    (found.0, ap (least_of (release_of (slice_get fates x))) rest.1 ∙ found.1, omega arith)

least_cases : (o q : Option ℕ) (k : ℕ) → least_of o q ≡ Some k → (o ≡ Some k) ⊎ (q ≡ Some k)
least_cases None q k h = inr h
least_cases (Some n) None k h = inl h
least_cases (Some n) (Some m) k h = let e : min n m ≡ k = same_Some (min n m) k h in elim (cases_lt n m) [
  | inl low ↦ inl (ap Some (omega arith))
  | inr high ↦ inr (ap Some (omega arith))
]

first_is : (told : Option (ℕ × Verdict)) (k : ℕ) → option_map (λ (t : ℕ × Verdict). t.0) told ≡ Some k
    → (y : Verdict) × (told ≡ Some (k, y))
first_is None k h = cc
first_is (Some t) k h = (t.1, ap (λ n. Some (n, t.1)) (same_Some (t.0) k h))

least_from : (fates : List Fate) (order : List ℕ) (k : ℕ) → least_in fates order ≡ Some k
    → (i : ℕ) × (p : ℕ) × (y : Verdict) × (slice_get order i ≡ Some p) × (released_at (slice_get fates p) ≡ Some (k, y))
least_from fates [] k h = cc
least_from fates (x ∷ xs) k h = elim (least_cases (release_of (slice_get fates x)) (least_in fates xs) k h) [
  | inl here ↦ let told = first_is (released_at (slice_get fates x)) k here in (0, x, told.0, refl, told.1)
  | inr rest ↦ let found = least_from fates xs k rest in (suc (found.0), found.1, found.2, found.3, found.4)
]

-- ---- one packet against the releases from it on

abbrev is_late : List Fate → ℕ → List ℕ → Bool
is_late fates x xs = is_above (admitted_at (slice_get fates x)) (least_in fates (x ∷ xs))

above_is : (o q : Option ℕ) → is_above o q ≡ true → (n : ℕ) × (k : ℕ) × (o ≡ Some n) × (q ≡ Some k) × (k < n)
above_is (Some n) (Some k) h = (n, k, refl, refl, ltb-true k n h)
above_is _ _ h = cc

head_in_time : (fates : List Fate) (x : ℕ) (xs : List ℕ) → is_late fates x xs ≡ false
    → (i p r a : ℕ) (y : Verdict) → slice_get (x ∷ xs) i ≡ Some p → released_at (slice_get fates p) ≡ Some (r, y)
    → admitted_at (slice_get fates x) ≡ Some a → r < a → ⊥
head_in_time fates x xs h i p r a y at out came early =
    let low = least_low fates (x ∷ xs) i p r y at out in
    let k : ℕ = low.0 in
    let told : is_late fates x xs ≡ is_above (Some a) (Some k) =
    ap (λ o. is_above o (least_in fates (x ∷ xs))) came ∙ ap (is_above (Some a)) low.1 in
    let high : a ≤ k = ltb-false k a (sym told ∙ h) in
    let few : k ≤ r = low.2 in
    omega arith

-- ---- the walk

late_parts : (b : Bool) (x : ℕ) (o : Option ℕ) → cond b (Some x) o ≡ None → (b ≡ false) × (o ≡ None)
late_parts true x o h = cc
late_parts false x o h = (refl, h)

late_cases : (b : Bool) (x n : ℕ) (o : Option ℕ) → cond b (Some x) o ≡ Some n
    → ((b ≡ true) × (x ≡ n)) ⊎ ((b ≡ false) × (o ≡ Some n))
late_cases true x n o h = inl (refl, same_Some x n h)
late_cases false x n o h = inr (refl, h)

pub none_late : (fates : List Fate) (order : List ℕ) → late_in fates order ≡ None
    → (i j p q r a : ℕ) (y : Verdict) → slice_get order i ≡ Some p → slice_get order j ≡ Some q
    → released_at (slice_get fates p) ≡ Some (r, y) → admitted_at (slice_get fates q) ≡ Some a → r < a → i < j
none_late fates [] none i j p q r a y at_i at_j out came early = cc
none_late fates (x ∷ xs) none i zero p q r a y at_i at_j out came early =
    let parts = late_parts (is_late fates x xs) x (late_in fates xs) none in
    absurd (head_in_time fates x xs parts.0 i p r a y at_i out
    (ap (λ n. admitted_at (slice_get fates n)) (same_Some x q at_j) ∙ came) early)
none_late fates (x ∷ xs) none zero (suc j) p q r a y at_i at_j out came early = omega arith
none_late fates (x ∷ xs) none (suc i) (suc j) p q r a y at_i at_j out came early =
    let parts = late_parts (is_late fates x xs) x (late_in fates xs) none in
    let rest : i < j = none_late fates xs parts.1 i j p q r a y at_i at_j out came early in
    omega arith

later : (fates : List Fate) (x : ℕ) (xs : List ℕ) (j : ℕ) → IsLate fates xs j → IsLate fates (x ∷ xs) (suc j)
later fates x xs j late = record {
  i = suc late.i;
  p = late.p;
  q = late.q;
  r = late.r;
  a = late.a;
  y = late.y;
  other = late.other;
  this = late.this;
  released = late.released;
  admitted = late.admitted;
  earlier = late.earlier;
  not_before = let low = late.not_before in omega arith;
}

earlier_at : (fates : List Fate) (x : ℕ) (xs : List ℕ) (j i p q r a : ℕ) (y : Verdict) → slice_get (x ∷ xs) i ≡ Some p
    → slice_get xs j ≡ Some q → released_at (slice_get fates p) ≡ Some (r, y)
    → admitted_at (slice_get fates q) ≡ Some a → r < a → suc j ≤ i → IsLate fates xs j
earlier_at fates x xs j zero p q r a y other this out came early low = absurd (omega arith)
earlier_at fates x xs j (suc i) p q r a y other this out came early low = record {
  i = i;
  p = p;
  q = q;
  r = r;
  a = a;
  y = y;
  other = other;
  this = this;
  released = out;
  admitted = came;
  earlier = early;
  not_before = omega arith;
}

none_before : (fates : List Fate) (x : ℕ) (xs : List ℕ) (place : ℕ) → is_late fates x xs ≡ false
    → ((i : ℕ) → i < place → IsLate fates xs i → ⊥) → (i : ℕ) → i < suc place → IsLate fates (x ∷ xs) i → ⊥
none_before fates x xs place in_time first zero low late =
    head_in_time fates x xs in_time (late.i) (late.p) (late.r) (late.a) (late.y) late.other late.released
    (ap (λ n. admitted_at (slice_get fates n)) (same_Some x (late.q) late.this) ∙ late.admitted) late.earlier
none_before fates x xs place in_time first (suc i) low late =
    first i (omega arith)
    (earlier_at fates x xs i (late.i) (late.p) (late.q) (late.r) (late.a) (late.y) late.other late.this late.released
    late.admitted late.earlier late.not_before)

pub first_late_is : (fates : List Fate) (order : List ℕ) (n : ℕ) → late_in fates order ≡ Some n
    → IsFirst (IsLate fates order) order n
first_late_is fates [] n h = cc
first_late_is fates (x ∷ xs) n h = elim (late_cases (is_late fates x xs) x n (late_in fates xs) h) [
  | inl here ↦
      let above = above_is (admitted_at (slice_get fates x)) (least_in fates (x ∷ xs)) here.0 in
      let from = least_from fates (x ∷ xs) (above.1) above.3 in
      record {
        place = 0;
        number = ap Some here.1;
        is = record {
          i = from.0;
          p = from.1;
          q = x;
          r = above.1;
          a = above.0;
          y = from.2;
          other = from.3;
          this = refl;
          released = from.4;
          admitted = above.2;
          earlier = above.4;
          not_before = omega arith;
        };
        first = λ i low late. omega arith;
      }
  | inr rest ↦
      let found = first_late_is fates xs n rest.1 in
      record {
        place = suc found.place;
        number = found.number;
        is = later fates x xs (found.place) found.is;
        first = none_before fates x xs (found.place) rest.0 found.first;
      }
]

-- ---- the answer

pub late_answer : (run : Run) (found : Option ℕ) → found ≡ late_in run.fates run.order
    → MatchOption found (Respects run) (λ p. IsFirst (IsLate run.fates run.order) run.order p)
late_answer run None h = none_late run.fates run.order (sym h)
late_answer run (Some p) h = first_late_is run.fates run.order p (sym h)
