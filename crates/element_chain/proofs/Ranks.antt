-- Where wires lead, as a test; and ranks of elements that fall along each wire, where there is no cycle.
use Rattle.std.proofs.Common.{◌≡◌, ◌⊎◌, inl, inr, ℕ, zero, suc, ◌+◌, ◌<◌, ◌≤◌, ◌==◌, ◌&&◌, Bool, true, false, cond, List, refl, sym, ap, ◌∙◌, subst, arith, true≢false, ⊎_elim}
use Rattle.std.proofs.Math.Logic.{⊎_map}
use Rattle.std.proofs.lemmas.Bool.{and_parts, and_from, eqb-true, eq-eqb, false_from_ne_true, or_cases, or_left, or_right}
use Rattle.std.proofs.lemmas.List.Elements.{All-contains}
use Rattle.std.proofs.lemmas.List.Folds.{Any-from_list_any, list_any-from_Any}
use Rattle.lemmas.proofs.Numbers.{below_suc}
use Rattle.element_chain.specs.declared.chain.Target.{Target}
use Rattle.element_chain.specs.declared.chain.Target.TheVariants.{Element, Out}
use Rattle.element_chain.specs.declared.chain.Wire.{Wire}
use Rattle.element_chain.specs.Wiring.{IsJoined, Leads, directly, onward, HasNoCycle, IsWithin, AreWithin, is_to, is_joined, leads_by}

-- ## wires
to_element : (f : ℕ) (t : Target) → is_to f t ≡ true → t ≡ Element f
to_element f Out h = absurd (true≢false (sym h))
to_element f (Element g) h = ap (λ k. Element k) (eqb-true g f h)

element_to : (f : ℕ) (t : Target) → t ≡ Element f → is_to f t ≡ true
element_to f t h = ap (is_to f) h ∙ eq-eqb f f refl

pub joined_is : (wires : List Wire) (e f : ℕ) → is_joined wires e f ≡ true → IsJoined wires e f
joined_is wires e f h =
    let (k, w, lt, at, passes) = Any-from_list_any (λ (w : Wire). w.from == e && is_to f w.to) wires h in
    let both = and_parts (w.from == e) (is_to f w.to) passes in
    (w, (k, lt, at), eqb-true w.from e both.0, to_element f w.to both.1)

pub is_joined_so : (wires : List Wire) (e f : ℕ) → IsJoined wires e f → is_joined wires e f ≡ true
is_joined_so wires e f (w, (k, lt, at), from, to) =
    list_any-from_Any (λ (w : Wire). w.from == e && is_to f w.to) wires
    (k, w, lt, at, and_from (w.from == e) (is_to f w.to) (eq-eqb w.from e from) (element_to f w.to to))

pub joined_within : (n : ℕ) (wires : List Wire) (e f : ℕ) → AreWithin n wires → IsJoined wires e f → (e < n) × (f < n)
joined_within n wires e f within (w, there, from, to) =
    let both = All-contains (λ (w : Wire). (w.from < n) × IsWithin n w.to) wires w within there in
    (subst (λ k. k < n) from both.0, subst (IsWithin n) to both.1)

pub leads_on : {wires : List Wire} {e f g : ℕ} → Leads wires e f → Leads wires f g → Leads wires e g
leads_on (directly j) more = onward j more
leads_on (onward j rest) more = onward j (leads_on rest more)

pub leads_within : (n : ℕ) (wires : List Wire) {e f : ℕ} → AreWithin n wires → Leads wires e f → (e < n) × (f < n)
leads_within n wires within (directly {e = e} {f = f} j) = joined_within n wires e f within j
leads_within n wires within (onward {e = e} {f = f} {g = g} j rest) = ((joined_within n wires e f within j).0, (leads_within n wires within rest).1)

-- ## the test is right
-- wires lead without the next number, or by way of it
abbrev IsByIt : List Wire → ℕ → ℕ → ℕ → Type 0
IsByIt wires k e f = (leads_by wires k e f ≡ true) ⊎ ((leads_by wires k e k ≡ true) × (leads_by wires k k f ≡ true))

with_it : (wires : List Wire) (k e f : ℕ) → leads_by wires (suc k) e f ≡ true → IsByIt wires k e f
with_it wires k e f h =
    ⊎_map (λ near. near) (and_parts (leads_by wires k e k) (leads_by wires k k f)) (or_cases (leads_by wires k e f) (leads_by wires k e k && leads_by wires k k f) h)

pub leads_so : (wires : List Wire) (k e f : ℕ) → leads_by wires k e f ≡ true → Leads wires e f
leads_so wires zero e f h = directly (joined_is wires e f h)
leads_so wires (suc k) e f h =
    ⊎_elim (λ near. leads_so wires k e f near) (λ both. leads_on (leads_so wires k e k both.0) (leads_so wires k k f both.1)) (with_it wires k e f h)

up_from_zero : (wires : List Wire) (k e f : ℕ) → is_joined wires e f ≡ true → leads_by wires k e f ≡ true
up_from_zero wires zero e f h = h
up_from_zero wires (suc k) e f h = or_left (leads_by wires k e f) _ (up_from_zero wires k e f h)

by_it : (wires : List Wire) (k e f : ℕ) → leads_by wires k e k ≡ true → leads_by wires k k f ≡ true → leads_by wires (suc k) e f ≡ true
by_it wires k e f to from = or_right (leads_by wires k e f) _ (and_from (leads_by wires k e k) (leads_by wires k k f) to from)

closed_lower : (wires : List Wire) (k e m f : ℕ)
    → (leads_by wires k e m ≡ true → leads_by wires k m f ≡ true → leads_by wires k e f ≡ true)
    → (leads_by wires k e m ≡ true → leads_by wires k m k ≡ true → leads_by wires k e k ≡ true)
    → (leads_by wires k k m ≡ true → leads_by wires k m f ≡ true → leads_by wires k k f ≡ true)
    → IsByIt wires k e m → IsByIt wires k m f → leads_by wires (suc k) e f ≡ true
closed_lower wires k e m f whole front back (inl near) (inl far) = or_left (leads_by wires k e f) _ (whole near far)
closed_lower wires k e m f whole front back (inl near) (inr (to, from)) = by_it wires k e f (front near to) from
closed_lower wires k e m f whole front back (inr (to, from)) (inl far) = by_it wires k e f to (back from far)
closed_lower wires k e m f whole front back (inr (to, from)) (inr (to', from')) = by_it wires k e f to from'

-- what leads to the next number, and from it, needs no way by it
closed_at : (wires : List Wire) (k e f : ℕ) → IsByIt wires k e k → IsByIt wires k k f → leads_by wires (suc k) e f ≡ true
closed_at wires k e f to from = by_it wires k e f (⊎_elim (λ near. near) (λ both. both.0) to) (⊎_elim (λ near. near) (λ both. both.1) from)

closed : (wires : List Wire) (k e m f : ℕ) → m < k → leads_by wires k e m ≡ true → leads_by wires k m f ≡ true → leads_by wires k e f ≡ true
closed wires zero e m f lt to from = absurd (omega (arith, lt))
closed wires (suc k) e m f lt to from =
    ⊎_elim
    (λ below. closed_lower wires k e m f (λ near far. closed wires k e m f below near far) (λ near far. closed wires k e m k below near far)
    (λ near far. closed wires k k m f below near far) (with_it wires k e m to) (with_it wires k m f from))
    (λ same. closed_at wires k e f (subst (IsByIt wires k e) same (with_it wires k e m to)) (subst (λ x. IsByIt wires k x f) same (with_it wires k m f from)))
    (below_suc m k lt)

pub so_leads : (wires : List Wire) (n : ℕ) {e f : ℕ} → AreWithin n wires → Leads wires e f → leads_by wires n e f ≡ true
so_leads wires n within (directly {e = e} {f = f} j) = up_from_zero wires n e f (is_joined_so wires e f j)
so_leads wires n within (onward {e = e} {f = f} {g = g} j rest) =
    closed wires n e f g (joined_within n wires e f within j).1 (up_from_zero wires n e f (is_joined_so wires e f j)) (so_leads wires n within rest)

-- ## ranks
pub count_below : (ℕ → Bool) → ℕ → ℕ
count_below p zero = 0
count_below p (suc k) = cond (p k) 1 0 + count_below p k

one_each : (a b : Bool) → (a ≡ true → b ≡ true) → cond a 1 0 ≤ cond b 1 0
one_each true true h = omega arith
one_each true false h = absurd (true≢false (sym (h refl)))
one_each false b h = omega arith

count_le : (p q : ℕ → Bool) (n : ℕ) → ((k : ℕ) → p k ≡ true → q k ≡ true) → count_below p n ≤ count_below q n
unfolding count_below
count_le p q zero h = omega arith
count_le p q (suc k) h = omega (arith, count_le p q k h, one_each (p k) (q k) (h k))

one_more : (a b : Bool) → a ≡ false → b ≡ true → cond a 1 0 + 1 ≡ cond b 1 0
one_more a b lacks is = ap (λ x. cond {A = ℕ} x 1 0 + 1) lacks ∙ sym (ap (λ x. cond {A = ℕ} x 1 0) is)

-- one that the first lacks and the other has
pub count_lt : (p q : ℕ → Bool) (n x : ℕ) → ((k : ℕ) → p k ≡ true → q k ≡ true) → x < n → p x ≡ false → q x ≡ true → count_below p n < count_below q n
unfolding count_below
count_lt p q zero x h lt lacks is = absurd (omega (arith, lt))
count_lt p q (suc k) x h lt lacks is =
    ⊎_elim
    (λ below. omega (arith, count_lt p q k x h below lacks is, one_each (p k) (q k) (h k)))
    (λ same. omega (arith, count_le p q k h, one_more (p k) (q k) (subst (λ j. p j ≡ false) same lacks) (subst (λ j. q j ≡ true) same is)))
    (below_suc x k lt)

count_most : (n : ℕ) → count_below (λ k. true) n ≤ n
unfolding count_below
count_most zero = omega arith
count_most (suc n) = omega (arith, count_most n)

-- how many elements wires lead to from one
pub rank_by : List Wire → ℕ → ℕ → ℕ
rank_by wires n e = count_below (leads_by wires n e) n

not_back : (wires : List Wire) (n e : ℕ) → HasNoCycle wires → leads_by wires n e e ≡ false
not_back wires n e none = false_from_ne_true (leads_by wires n e e) (λ is. none e (leads_so wires n e e is))

pub rank_falls : (wires : List Wire) (n e f : ℕ) → AreWithin n wires → HasNoCycle wires → IsJoined wires e f → rank_by wires n f < rank_by wires n e
unfolding rank_by
rank_falls wires n e f within none j =
    count_lt (leads_by wires n f) (leads_by wires n e) n f
    (λ g on. so_leads wires n within (onward j (leads_so wires n f g on)))
    (joined_within n wires e f within j).1 (not_back wires n f none) (so_leads wires n within (directly j))

pub rank_few : (wires : List Wire) (n e : ℕ) → HasNoCycle wires → e < n → rank_by wires n e < n
unfolding rank_by
rank_few wires n e none lt =
    let fewer : count_below (leads_by wires n e) n < count_below (λ k. true) n = count_lt (leads_by wires n e) (λ k. true) n e (λ k h. refl) lt (not_back wires n e none) refl in
    omega (arith, fewer, count_most n)
