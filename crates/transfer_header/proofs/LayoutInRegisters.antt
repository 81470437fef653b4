-- Values of a layout in registers.
use Rattle.std.proofs.Common.{◌≡◌, ℕ, suc, ◌<◌, ◌≤◌, Bool, true, cond, List, [], ◌∷◌, get_or, length, map, Option, Some, None, IsSome, refl, sym, ap, subst, ◌∙◌, inl, inr, arith}
use Rattle.std.specs.Prelude.{◌==◌, ◌&&◌, Contains}
use Rattle.std.specs.List.{All, AllPairs, IsDistinct, list_any}
use Rattle.std.proofs.lemmas.Bool.{lt-ltb, or_cases, and_parts, eqb-true, true≢false}
use Rattle.std.proofs.lemmas.Bool.Decides.{Decides-eqb}
use Rattle.std.proofs.lemmas.List.{length-map}
use Rattle.std.proofs.lemmas.List.Elements.{All-map, All-head, All-tail}
use Rattle.std.proofs.lemmas.Map.Made.{IsDistinct-from_AllPairs}
use Rattle.std.proofs.lemmas.Map.Steps.{length-le_from_distinct_below}
use Rattle.std.proofs.lemmas.Option.{same_Some}
use Rattle.flat_ir.specs.declared.spans.Span.{Span}
use Rattle.flat_ir.specs.Plan.{RegisterPlan}
use Rattle.flat_ir.specs.Spans.{covers}
use Rattle.split_model.specs.declared.layout.Crossing.{Crossing}
use Rattle.transfer_header.specs.Registers.{Registers, place_by, place_of, HasRegister, ArePlaced, IsRising, FitsLayout}
use Rattle.transfer_header.specs.Steps.{IsNeeded, AreKeptApart}
use Rattle.transfer_header.proofs.Elements.{AllPairs-map}
use Rattle.lemmas.proofs.Tests.{some_is}

-- ---- a register for each value
pub own_place : (registers : Registers) → registers.plan ≡ None → (value : ℕ) → value < length registers.numbers → place_of registers value ≡ Some value
own_place registers none value below =
    ap (λ (p : Option RegisterPlan). place_by p (length registers.numbers) value) none
    ∙ ap (λ (b : Bool). cond b (Some value) None) (lt-ltb value (length registers.numbers) below)

pub fits_own : (layout : List Crossing) (registers : Registers) → registers.plan ≡ None → IsRising layout → All (λ (c : Crossing). c.number < length registers.numbers) layout → FitsLayout layout registers
fits_own layout registers none rising among = record {
  rising = rising;
  among = λ k d within. some_is (place_of registers (get_or layout k d).number) (get_or layout k d).number (own_place registers none (get_or layout k d).number (among k d within));
  apart = λ i j d order within same.
      let a = (get_or layout i d).number in
      let b = (get_or layout j d).number in
      let equal : a ≡ b = same_Some a b (sym (own_place registers none a (among i d (omega arith))) ∙ same ∙ own_place registers none b (among j d within)) in
      omega (arith, equal, rising i j d order within);
}

-- ---- registers that are kept apart
-- the span that covers a step at which a value is needed
record HasCover (spans : List Span) (step value : ℕ) : Type 0 where
  span : Span
  there : Contains spans span
  same : span.value ≡ value
  covered : covers step span ≡ true

has_cover : (spans : List Span) (step value : ℕ) → IsNeeded spans step value → HasCover spans step value
has_cover [] step value e = absurd (true≢false (sym e))
has_cover (first ∷ spans) step value e = elim (or_cases (first.value == value && covers step first) (list_any (λ (s : Span). s.value == value && covers step s) spans) e) [
  | inl here ↦ (
      let parts = and_parts (first.value == value) (covers step first) here in
      record { span = first; there = (0, omega arith, refl); same = eqb-true first.value value parts.0; covered = parts.1 }
      )
  | inr later ↦ (
      let h = has_cover spans step value later in
      record { span = h.span; there = (suc h.there.0, omega (arith, h.there.1), h.there.2); same = h.same; covered = h.covered }
      )
]

-- Registers that are kept apart serve for the values of a layout that are all needed at one step.
pub needed_values_fit : (layout : List Crossing) (spans : List Span) (registers : Registers) (step : ℕ) → AreKeptApart spans registers → IsRising layout → All (λ (c : Crossing). IsNeeded spans step c.number) layout
    → FitsLayout layout registers
needed_values_fit layout spans registers step kept rising all = record {
  rising = rising;
  among = λ k d within.
      let need = has_cover spans step (get_or layout k d).number (all k d within) in
      subst (HasRegister registers) need.same (kept.has need.span need.there);
  apart = λ i j d order within same.
      let a = has_cover spans step (get_or layout i d).number (all i d (omega arith)) in
      let b = has_cover spans step (get_or layout j d).number (all j d within) in
      let rises : (get_or layout i d).number < (get_or layout j d).number = rising i j d order within in
      kept.apart a.span b.span step a.there b.there (λ e. omega (arith, a.same, b.same, e, rises)) a.covered b.covered
      (ap (place_of registers) a.same ∙ same ∙ sym (ap (place_of registers) b.same));
}

-- ---- there are at least as many numbers as values
place_or : Option ℕ → ℕ
place_or None = 0
place_or (Some place) = place

place_is : (o : Option ℕ) → IsSome o → o ≡ Some (place_or o)
unfolding place_or
place_is None some = absurd (true≢false (sym some))
place_is (Some place) some = refl

below_all : (xs : List ℕ) (n q : ℕ) → All (λ x. x < n) xs → list_any (λ x. q == x) xs ≡ true → q < n
below_all [] n q all e = absurd (true≢false (sym e))
below_all (x ∷ xs) n q all e = elim (or_cases (q == x) (list_any (λ x. q == x) xs) e) [
  | inl here ↦ omega (arith, All-head (λ x. x < n) x xs all, eqb-true q x here)
  | inr later ↦ below_all xs n q (All-tail (λ x. x < n) x xs all) later
]

pub length_fitting : (layout : List Crossing) (registers : Registers) → ArePlaced registers → FitsLayout layout registers → length layout ≤ length registers.numbers
length_fitting layout registers placed fits =
    let place : Crossing → ℕ = λ c. place_or (place_of registers c.number) in
    let named : ℕ → Crossing = λ n. record { value = record { instruction = 0; result = 0 }; number = n; width = 0 } in
    let differ : AllPairs (λ (a b : Crossing). place a ≡ place b → ⊥) layout =
    λ i j d order within same. fits.apart i j d order within
    (place_is (place_of registers (get_or layout i d).number) (fits.among i d (omega arith))
    ∙ ap (λ p. Some p) same
    ∙ sym (place_is (place_of registers (get_or layout j d).number) (fits.among j d within))) in
    let distinct : IsDistinct (λ x y. x == y) (map place layout) = IsDistinct-from_AllPairs Decides-eqb (map place layout) (AllPairs-map (λ x y. x ≡ y → ⊥) place named layout differ) in
    let below : All (λ x. x < length registers.numbers) (map place layout) = All-map (λ x. x < length registers.numbers) place layout
    (λ k d within. placed (get_or layout k d).number (place (get_or layout k d)) (place_is (place_of registers (get_or layout k d).number) (fits.among k d within))) in
    omega (
      arith,
      length-map layout place,
      length-le_from_distinct_below (map place layout) (length registers.numbers) distinct (λ q. below_all (map place layout) (length registers.numbers) q below),
    )
