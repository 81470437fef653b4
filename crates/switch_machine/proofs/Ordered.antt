-- The numbers of values that stand in order.
use Rattle.std.proofs.Common.{◌≡◌, ◌⊎◌, ℕ, suc, ◌+◌, ◌-◌, ◌^◌, ◌==◌, ◌<◌, ◌≤◌, max, min, cond, List, [], ◌∷◌, Some, None, refl, sym, ap, ◌∙◌, subst, inl, inr, arith}
use Rattle.std.specs.Prelude.{nat_lt, Contains}
use Rattle.std.specs.List.{AllByRecursion as Each}
use Rattle.std.proofs.lemmas.Bool.{cases_eq, cases_lt, cond-true, cond_both, eq-eqb, eqb-true, lt-ltb, true≢false}
use Rattle.flat_ir.specs.declared.program.ValueId.{ValueId}
use Rattle.switch_ir.specs.Spans.{Written}
use Rattle.switch_machine.specs.declared.numbering.ValueRange.{ValueRange}
use Rattle.switch_machine.specs.Numbers.{no_values, number_in, range_at}
use Rattle.switch_machine.specs.Planned.{AreNumberedApart}
use Rattle.switch_machine.specs.Ranges.{entered, with_entry, AreInOrder, AreRanges, Entry}
use Rattle.switch_machine.proofs.Members.{each_has, Has}
use Rattle.switch_machine.proofs.Numbered.{known}

module _ (had : List Written) (order : AreInOrder had) (small : (w : Written) → Contains had w → suc w.number < 2 ^ 32) where
  -- the last value of a range is one of these
  pub record IsLast (i first count : ℕ) : Type 0 where
    pub value : Written
    pub there : Contains had value
    pub instruction : value.value.instruction ≡ i
    pub count_is : suc value.value.result ≡ count
    pub number_is : value.number ≡ first + value.value.result

  abbrev pub IsRight : ℕ → ValueRange → Type 0
  IsRight i range = (range.count ≡ 0) ⊎ IsLast i range.first range.count

  abbrev IsEntry : Entry → Type 0
  IsEntry e = IsLast e.instruction e.first e.count

  fits : (i first count : ℕ) → IsLast i first count → min count (2 ^ 32 - 1 - first) ≡ count
  fits i first count last = omega (arith, small last.value last.there, last.count_is, last.number_is)

  same_first : (i first count first' count' : ℕ) → IsLast i first count → IsLast i first' count' → first ≡ first'
  same_first i first count first' count' a b =
      omega (arith, order.same a.value b.value a.there b.there (a.instruction ∙ sym b.instruction), a.number_is, b.number_is)

  greater : (i first count first' count' : ℕ) → IsLast i first count → IsLast i first' count' → IsLast i first' (max count count')
  greater i first count first' count' a b =
      let e = same_first i first count first' count' a b in
      elim (cases_lt count count') [
        | inl lt ↦ subst (λ (n : ℕ). IsLast i first' n) (omega (arith, lt)) b
        | inr le ↦ subst (λ (n : ℕ). IsLast i first' n) (omega (arith, le)) (subst (λ (n : ℕ). IsLast i n count) e a)
      ]

  -- an entry more
  joined : (e : Entry) → IsEntry e → (range : ValueRange) → IsRight e.instruction range → IsLast e.instruction e.first (max range.count e.count)
  joined e is range (inl none) = subst (λ (n : ℕ). IsLast e.instruction e.first n) (omega (arith, none)) is
  joined e is range (inr last) = greater e.instruction range.first range.count e.first e.count last is

  -- what entries make of a range: it is right and no smaller, and has room for the values of each entry
  record IsGrown (es : List Entry) (i : ℕ) (before after : ValueRange) : Type 0 where
    right : IsRight i after
    wider : before.count ≤ after.count
    enough : Each (λ (e : Entry). e.instruction ≡ i → e.count ≤ after.count) es

  abbrev with_one : Entry → (ℕ → ValueRange) → ℕ → ValueRange
  with_one e before j = cond (j == e.instruction) (with_entry e (before j)) (before j)

  next : (e : Entry) → IsEntry e → (before : ℕ → ValueRange) → ((i : ℕ) → IsRight i (before i)) → (j : ℕ)
      → IsGrown (e ∷ []) j (before j) (with_one e before j)
  next e is before right j =
      cond_both (j == e.instruction) (with_entry e (before j)) (before j) (IsGrown (e ∷ []) j (before j))
      (λ here.
      let same = eqb-true j e.instruction here in
      let count = max (before j).count e.count in
      let last = joined e is (before j) (subst (λ k. IsRight k (before j)) same (right j)) in
      let fit = fits e.instruction e.first count last in
      record {
        right = subst (λ k. IsRight k (with_entry e (before j))) (sym same) (inr (subst (λ (n : ℕ). IsLast e.instruction e.first n) (sym fit) last));
        wider = omega (arith, fit);
        enough = (λ _. omega (arith, fit), tt);
      })
      (λ other. record { right = right j; wider = omega arith; enough = (λ same. absurd (true≢false (sym (eq-eqb j e.instruction (sym same)) ∙ other)), tt) })

  all_grown : (es : List Entry) → Each IsEntry es → (before : ℕ → ValueRange) → ((i : ℕ) → IsRight i (before i)) → (i : ℕ)
      → IsGrown es i (before i) (entered es before i)
  all_grown [] all before right i = record { right = right i; wider = omega arith; enough = tt }
  all_grown (e ∷ es) all before right i =
      let one = next e all.0 before right in
      let rest = all_grown es all.1 (with_one e before) (λ j. (one j).right) i in
      record {
        right = rest.right;
        wider = omega (arith, (one i).wider, rest.wider);
        enough = (λ same. omega (arith, (one i).enough.0 same, rest.wider), rest.enough);
      }

  module _ (es : List Entry) (all : Each IsEntry es) (ranges : List ValueRange) (are : AreRanges es ranges) where
    grown : (i : ℕ) → IsGrown es i no_values (range_at ranges i)
    grown i =
        subst (IsGrown es i no_values) (λ k. record { first = sym (are.first i) k; count = sym (are.count i) k })
        (all_grown es all (λ _. no_values) (λ j. inl refl) i)

    -- each range is right
    pub right_at : (i : ℕ) → IsRight i (range_at ranges i)
    right_at i = (grown i).right

    -- and has room for the values of each entry
    pub has_entry : (e : Entry) → Has es e → e.count ≤ (range_at ranges e.instruction).count
    has_entry e h =
        each_has (λ (x : Entry). x.instruction ≡ e.instruction → x.count ≤ (range_at ranges e.instruction).count) es (grown e.instruction).enough e h refl

    last_of : (v : ValueId) → v.result < (range_at ranges v.instruction).count
        → IsLast v.instruction (range_at ranges v.instruction).first (range_at ranges v.instruction).count
    last_of v lt = elim (right_at v.instruction) [
      | inl none ↦ absurd (omega (arith, none, lt))
      | inr last ↦ last
    ]

    -- a value that is had has its number
    pub has_number : (w : Written) → Contains had w → w.value.result < (range_at ranges w.value.instruction).count
        → number_in ranges w.value ≡ Some w.number
    has_number w there lt =
        let range = range_at ranges w.value.instruction in
        let last = last_of w.value lt in
        cond-true (nat_lt w.value.result range.count) (Some (range.first + w.value.result)) None (lt-ltb w.value.result range.count lt)
        ∙ ap (λ n. Some n) (omega (arith, order.same w last.value there last.there (sym last.instruction), last.number_is))

    -- values of two instructions have two numbers
    not_below : (v w : ValueId) (n : ℕ) → number_in ranges v ≡ Some n → number_in ranges w ≡ Some n → v.instruction < w.instruction → ⊥
    not_below v w n is there lt =
        let a = known ranges v n is in
        let b = known ranges w n there in
        let x = last_of v a.0 in
        let y = last_of w b.0 in
        omega (
          arith,
          order.lower x.value y.value x.there y.there (omega (arith, lt, x.instruction, y.instruction)),
          x.number_is,
          x.count_is,
          y.number_is,
          a.0,
          a.1,
          b.1,
        )

    pub numbered_apart : AreNumberedApart ranges
    numbered_apart v w n is there = elim (cases_lt v.instruction w.instruction) [
      | inl lt ↦ absurd (not_below v w n is there lt)
      | inr le ↦ elim (cases_eq v.instruction w.instruction) [
        | inl same ↦ same
        | inr other ↦ absurd (not_below w v n there is (omega (arith, le, other)))
      ]
    ]
