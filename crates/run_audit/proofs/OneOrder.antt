-- A list that has each decided packet once and ascends is the serial order, and then no two are decided together.
use Rattle.std.proofs.Common.{◌≡◌, ◌<◌, ℕ, zero, suc, cond, List, [], ◌∷◌, map, Option, Some, None, inl, inr, refl, sym, ◌∙◌, ap, subst, arith, eqb}
use Rattle.std.specs.Prelude.{slice_get, unwrap_or, is_some}
use Rattle.std.proofs.lemmas.Bool.{cases_Bool, cases_lt, eqb-true, eq-eqb}
use Rattle.std.proofs.lemmas.Option.{same_Some}
use Rattle.run_model.specs.declared.fate.Fate.{Fate}
use Rattle.run_model.specs.declared.serial.Decided.{Decided}
use Rattle.run_model.specs.Order.{order_of}
use Rattle.run_model.specs.Serialises.{decided_at, times, IsEarlier}
use Rattle.run_audit.specs.Order.{HaveOwnEvents}
use Rattle.run_model.specs.Members.{Member}
use Rattle.run_model.proofs.Members.{member_get}
use Rattle.run_model.proofs.RisingEntries.{Before, Rising}
use Rattle.run_model.proofs.SerialSort.{IsOrder, order_unique, entry_of}
use Rattle.run_audit.proofs.Places.{decision, decided_entry, entry_decided}
use Rattle.lemmas.proofs.Lists.{get_mapped}

-- ---- numbers that stand in a list

pub stands : (p : ℕ) (xs : List ℕ) → 0 < times p xs → (i : ℕ) × (slice_get xs i ≡ Some p)
stands p [] some = absurd (omega arith)
stands p (x ∷ xs) some = elim (cases_Bool (eqb x p)) [
  | inl same ↦ (0, ap Some (eqb-true x p same))
  | inr other ↦ let rest = stands p xs (rw other at some) in (suc (rest.0), rest.1)
]

pub stands_back : (p i : ℕ) (xs : List ℕ) → slice_get xs i ≡ Some p → 0 < times p xs
stands_back p i [] h = cc
stands_back p zero (x ∷ xs) h = let same = eq-eqb x p (same_Some x p h) in rw same (omega arith)
stands_back p (suc i) (x ∷ xs) h = let rest = stands_back p i xs h in elim (cases_Bool (eqb x p)) [
  | inl same ↦ rw same (omega arith)
  | inr other ↦ rw other rest
]

-- ---- what a list promises of its order

-- each number of it is decided, and it ascends
pub record Climbs (fates : List Fate) (order : List ℕ) : Type 0 where
  pub decided : (i p : ℕ) → slice_get order i ≡ Some p → (x : ℕ × ℕ) × (decided_at (slice_get fates p) ≡ Some x)
  pub ascends : (i j p q : ℕ) (x y : ℕ × ℕ) → slice_get order i ≡ Some p → slice_get order j ≡ Some q
      → decided_at (slice_get fates p) ≡ Some x → decided_at (slice_get fates q) ≡ Some y → i < j → IsEarlier x y

-- the entry of a number
abbrev entry : List Fate → ℕ → Decided
entry fates p = decision p (unwrap_or (decided_at (slice_get fates p)) (0, 0))

entry_is : (fates : List Fate) (p : ℕ) (x : ℕ × ℕ) → decided_at (slice_get fates p) ≡ Some x
    → entry fates p ≡ decision p x
entry_is fates p x h = ap (λ o. decision p (unwrap_or o (0, 0))) h

is_before : (p q : ℕ) (x y : ℕ × ℕ) → IsEarlier x y → Before (decision p x) (decision q y)
is_before p q x y (inl low) = record {
  version = omega arith;
  event = λ h. absurd (omega arith);
  number = λ h k. absurd (omega arith);
}
is_before p q x y (inr same) =
    let versions : x.0 ≡ y.0 = same.0 in
    let events : x.1 < y.1 = same.1 in
    record { version = omega arith; event = λ h. omega arith; number = λ h k. absurd (omega arith) }

behind : (fates : List Fate) (p : ℕ) (ps : List ℕ) → Climbs fates (p ∷ ps) → Climbs fates ps
behind fates p ps climbs = record {
  decided = λ i q h. climbs.decided (suc i) q h;
  ascends = λ i j q r x y hi hj hq hr lt. climbs.ascends (suc i) (suc j) q r x y hi hj hq hr (omega arith);
}

first_before : (fates : List Fate) (p : ℕ) (ps : List ℕ) → Climbs fates (p ∷ ps) → (y : Decided)
    → Member y (map (entry fates) ps) → Before (entry fates p) y
first_before fates p ps climbs y m =
    let place = member_get y (map (entry fates) ps) m in
    let found = get_mapped (entry fates) ps (place.0) y place.1 in
    let q : ℕ = found.0 in
    let one = climbs.decided 0 p refl in
    let two = climbs.decided (suc (place.0)) q found.1 in
    let early = climbs.ascends 0 (suc (place.0)) p q (one.0) (two.0) refl found.1 one.1 two.1 (omega arith) in
    let both = is_before p q (one.0) (two.0) early in
    subst (λ z. Before (entry fates p) z) (sym (entry_is fates q (two.0) two.1) ∙ found.2)
    (subst (λ z. Before z (decision q (two.0))) (sym (entry_is fates p (one.0) one.1)) both)

rising_entries : (fates : List Fate) (ps : List ℕ) → Climbs fates ps → Rising (map (entry fates) ps)
rising_entries fates [] climbs = tt
rising_entries fates (p ∷ ps) climbs =
    (first_before fates p ps climbs, rising_entries fates ps (behind fates p ps climbs))

numbers_back : (fates : List Fate) (ps : List ℕ) → map (λ (d : Decided). d.number) (map (entry fates) ps) ≡ ps
numbers_back fates [] = refl
numbers_back fates (p ∷ ps) = ap (λ l. p ∷ l) (numbers_back fates ps)

mapped_member : (fates : List Fate) (ps : List ℕ) (i p : ℕ) → slice_get ps i ≡ Some p
    → Member (entry fates p) (map (entry fates) ps)
mapped_member fates [] i p h = cc
mapped_member fates (q ∷ qs) zero p h = inl (ap (entry fates) (same_Some q p h))
mapped_member fates (q ∷ qs) (suc i) p h = inr (mapped_member fates qs i p h)

entries_order : (fates : List Fate) (ps : List ℕ) → Climbs fates ps
    → ((p : ℕ) (x : ℕ × ℕ) → decided_at (slice_get fates p) ≡ Some x → (i : ℕ) × (slice_get ps i ≡ Some p))
    → IsOrder fates (map (entry fates) ps)
entries_order fates ps climbs all = record {
  rising = rising_entries fates ps climbs;
  sound = λ e m.
      let place = member_get e (map (entry fates) ps) m in
      let found = get_mapped (entry fates) ps (place.0) e place.1 in
      let p : ℕ = found.0 in
      let told = climbs.decided (place.0) p found.1 in
      let is : entry_of p (slice_get fates p) ≡ Some (entry fates p) =
      decided_entry p (slice_get fates p) (told.0) told.1 ∙ ap Some (sym (entry_is fates p (told.0) told.1)) in
      subst (λ z. entry_of z.number (slice_get fates z.number) ≡ Some z) found.2 is;
  complete = λ e h.
      let told = entry_decided e.number (slice_get fates e.number) e h in
      let place = all e.number (e.version, e.event) told in
      subst (λ z. Member z (map (entry fates) ps)) (entry_is fates e.number (e.version, e.event) told)
      (mapped_member fates ps (place.0) e.number place.1);
}

pub one_order : (fates : List Fate) (ps : List ℕ) → Climbs fates ps
    → ((p : ℕ) (x : ℕ × ℕ) → decided_at (slice_get fates p) ≡ Some x → (i : ℕ) × (slice_get ps i ≡ Some p))
    → ps ≡ order_of fates
one_order fates ps climbs all =
    sym (numbers_back fates ps)
    ∙ ap (map (λ (d : Decided). d.number)) (order_unique fates (map (entry fates) ps) (entries_order fates ps climbs all))

-- ---- by the counts of numbers

counted : (o : Option (ℕ × ℕ)) (n : ℕ) → n ≡ cond (is_some o) 1 0 → 0 < n → (x : ℕ × ℕ) × (o ≡ Some x)
counted None n h some = absurd (omega arith)
counted (Some x) n h some = (x, refl)

counted_back : (o : Option (ℕ × ℕ)) (x : ℕ × ℕ) (n : ℕ) → n ≡ cond (is_some o) 1 0 → o ≡ Some x → 0 < n
counted_back None x n h is = cc
counted_back (Some y) x n h is = omega arith

abbrev pub Once : List Fate → List ℕ → Type 0
Once fates order = (p : ℕ) → times p order ≡ cond (is_some (decided_at (slice_get fates p))) 1 0

abbrev pub Ascends : List Fate → List ℕ → Type 0
Ascends fates order = (i j p q : ℕ) (x y : ℕ × ℕ) → slice_get order i ≡ Some p → slice_get order j ≡ Some q
    → decided_at (slice_get fates p) ≡ Some x → decided_at (slice_get fates q) ≡ Some y → i < j → IsEarlier x y

pub has_place : (fates : List Fate) (order : List ℕ) → Once fates order → (p : ℕ) (x : ℕ × ℕ)
    → decided_at (slice_get fates p) ≡ Some x → (i : ℕ) × (slice_get order i ≡ Some p)
has_place fates order once p x h =
    stands p order (counted_back (decided_at (slice_get fates p)) x (times p order) (once p) h)

pub placed_decided : (fates : List Fate) (order : List ℕ) → Once fates order → (i p : ℕ) → slice_get order i ≡ Some p
    → (x : ℕ × ℕ) × (decided_at (slice_get fates p) ≡ Some x)
placed_decided fates order once i p h =
    counted (decided_at (slice_get fates p)) (times p order) (once p) (stands_back p i order h)

pub serial_order : (fates : List Fate) (order : List ℕ) → Once fates order → Ascends fates order → order ≡ order_of fates
serial_order fates order once ascends =
    one_order fates order (record { decided = placed_decided fates order once; ascends = ascends })
    (has_place fates order once)

not_earlier : (x : ℕ × ℕ) → IsEarlier x x → ⊥
not_earlier x (inl low) = omega arith
not_earlier x (inr same) = let low : x.1 < x.1 = same.1 in omega arith

pub own_events : (fates : List Fate) (order : List ℕ) → Once fates order → Ascends fates order → HaveOwnEvents fates
own_events fates order once ascends p q x hp hq =
    let i = has_place fates order once p x hp in
    let j = has_place fates order once q x hq in
    elim (cases_lt (i.0) (j.0)) [
      | inl low ↦ absurd (not_earlier x (ascends (i.0) (j.0) p q x x i.1 j.1 hp hq low))
      | inr high ↦ elim (cases_lt (j.0) (i.0)) [
        | inl low ↦ absurd (not_earlier x (ascends (j.0) (i.0) q p x x j.1 i.1 hq hp low))
        | inr near ↦
            let same : i.0 ≡ j.0 = omega arith in
            same_Some p q (sym i.1 ∙ subst (λ z. slice_get order z ≡ Some q) (sym same) j.1)
      ]
    ]
