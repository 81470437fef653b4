-- Places in the serial order of fates.
use Rattle.std.proofs.Common.{◌≡◌, ◌<◌, ◌≤◌, ℕ, cond, List, map, Option, Some, None, inl, inr, refl, sym, ◌∙◌, ap, subst, arith}
use Rattle.std.specs.Prelude.{slice_get, is_some}
use Rattle.std.proofs.lemmas.Bool.{cases_lt}
use Rattle.std.proofs.lemmas.Option.{same_Some}
use Rattle.run_model.specs.declared.fate.Fate.{Fate}
use Rattle.run_model.specs.declared.fate.Fate.TheVariants.{Held, Slow, Fast}
use Rattle.run_model.specs.declared.serial.Decided.{Decided}
use Rattle.run_model.specs.Order.{sorted, decided_from, order_of}
use Rattle.run_model.specs.Serialises.{decided_at, times, IsEarlier}
use Rattle.run_audit.specs.Order.{HaveOwnEvents}
use Rattle.run_model.proofs.Members.{get_member}
use Rattle.run_model.proofs.RisingEntries.{Before, rising_places, times_none, times_once}
use Rattle.run_model.proofs.SerialSort.{IsOrder, is_order, entry_of}
use Rattle.lemmas.proofs.Lists.{get_mapped}

-- ---- what a fate says of its decision

pub entry_decided : (n : ℕ) (o : Option Fate) (e : Decided) → entry_of n o ≡ Some e → decided_at o ≡ Some (e.version, e.event)
entry_decided n (Some (Held a d v)) e h = ap (λ (z : Decided). Some (z.version, z.event)) (same_Some _ _ h)
entry_decided n (Some (Slow a d v r y)) e h = ap (λ (z : Decided). Some (z.version, z.event)) (same_Some _ _ h)
entry_decided n (Some (Fast a d v r y)) e h = ap (λ (z : Decided). Some (z.version, z.event)) (same_Some _ _ h)
entry_decided n _ e h = cc

abbrev pub decision : ℕ → ℕ × ℕ → Decided
decision n x = record { version = x.0; event = x.1; number = n }

pub decided_entry : (n : ℕ) (o : Option Fate) (x : ℕ × ℕ) → decided_at o ≡ Some x → entry_of n o ≡ Some (decision n x)
decided_entry n (Some (Held a d v)) x h = ap (λ z. Some (decision n z)) (same_Some _ _ h)
decided_entry n (Some (Slow a d v r y)) x h = ap (λ z. Some (decision n z)) (same_Some _ _ h)
decided_entry n (Some (Fast a d v r y)) x h = ap (λ z. Some (decision n z)) (same_Some _ _ h)
decided_entry n _ x h = cc

-- ---- how often a number stands there

abbrev pub numbers : List Decided → List ℕ
numbers es = map (λ d. d.number) es

times_by : (fates : List Fate) (es : List Decided) (p : ℕ) → IsOrder fates es → (o : Option (ℕ × ℕ)) → decided_at (slice_get fates p) ≡ o
    → times p (numbers es) ≡ cond (is_some o) 1 0
times_by fates es p order None none =
    times_none p es (λ e m q.
    let told = entry_decided p (slice_get fates p) e (subst (λ z. entry_of z (slice_get fates z) ≡ Some e) q (order.sound e m)) in
    let wrong : None ≡ Some (e.version, e.event) = sym none ∙ told in cc)
times_by fates es p order (Some x) told =
    let e = decision p x in
    let there = decided_entry p (slice_get fates p) x told in
    times_once p (entry_of p (slice_get fates p)) es e order.rising
    (λ y m q. subst (λ z. entry_of z (slice_get fates z) ≡ Some y) q (order.sound y m)) refl (order.complete e there)

pub once_in_order : (fates : List Fate) (p : ℕ) → times p (order_of fates) ≡ cond (is_some (decided_at (slice_get fates p))) 1 0
once_in_order fates p = times_by fates (sorted (decided_from 0 fates)) p (is_order fates) (decided_at (slice_get fates p)) refl

-- ---- the order ascends

pub at_place : (fates : List Fate) (i p : ℕ) → slice_get (order_of fates) i ≡ Some p
    → (x : Decided) × (slice_get (sorted (decided_from 0 fates)) i ≡ Some x) × (entry_of p (slice_get fates p) ≡ Some x) × (x.number ≡ p)
at_place fates i p h =
    let es = sorted (decided_from 0 fates) in
    let x = get_mapped (λ (e : Decided). e.number) es i p h in
    (x.0, x.1, subst (λ z. entry_of z (slice_get fates z) ≡ Some (x.0)) x.2 ((is_order fates).sound (x.0) (get_member es i (x.0) x.1)), x.2)

abbrev pair : ℕ → ℕ → ℕ × ℕ
pair a b = (a, b)

pub ascends_in_order : (fates : List Fate) → HaveOwnEvents fates → (i j p q : ℕ) (x y : ℕ × ℕ) → slice_get (order_of fates) i ≡ Some p
    → slice_get (order_of fates) j ≡ Some q → decided_at (slice_get fates p) ≡ Some x → decided_at (slice_get fates q) ≡ Some y
    → i < j → IsEarlier x y
ascends_in_order fates own i j p q x y hi hj hp hq lt =
    let es = sorted (decided_from 0 fates) in
    let one = at_place fates i p hi in
    let two = at_place fates j q hj in
    let c : Decided = one.0 in
    let d : Decided = two.0 in
    let xs : (c.version, c.event) ≡ x = same_Some _ _ (sym (entry_decided p (slice_get fates p) c one.2) ∙ hp) in
    let ys : (d.version, d.event) ≡ y = same_Some _ _ (sym (entry_decided q (slice_get fates q) d two.2) ∙ hq) in
    let b : Before c d = rising_places es i j c d (is_order fates).rising lt one.1 two.1 in
    let low : c.version ≤ d.version = b.version in
    let xv : c.version ≡ x.0 = ap (λ (z : ℕ × ℕ). z.0) xs in
    let xe : c.event ≡ x.1 = ap (λ (z : ℕ × ℕ). z.1) xs in
    let yv : d.version ≡ y.0 = ap (λ (z : ℕ × ℕ). z.0) ys in
    let ye : d.event ≡ y.1 = ap (λ (z : ℕ × ℕ). z.1) ys in
    elim (cases_lt (x.0) (y.0)) [
      | inl before ↦ inl before
      | inr late ↦
          let le : c.event ≤ d.event = b.event (omega arith) in
          elim (cases_lt (x.1) (y.1)) [
            | inl first ↦ inr (omega arith, first)
            | inr again ↦
                let more : c.number < d.number = b.number (omega arith) (omega arith) in
                let versions : y.0 ≡ x.0 = omega arith in
                let events : y.1 ≡ x.1 = omega arith in
                let same : y ≡ x = ap (λ v. pair v (y.1)) versions ∙ ap (λ e. pair (x.0) e) events in
                let is : p ≡ q = own p q x hp (subst (λ z. decided_at (slice_get fates q) ≡ Some z) same hq) in
                let np : c.number ≡ p = one.3 in
                let nq : d.number ≡ q = two.3 in
                absurd (omega arith)
          ]
    ]
