-- Tables of which elements wires lead to.
use Rattle.std.proofs.Common.{◌≡◌, ℕ, suc, ◌+◌, ◌*◌, ◌/◌, ◌%◌, ◌<◌, ◌≤◌, ◌&&◌, ◌||◌, ◌↔◌, Bool, true, false, MatchBool, List, [], ◌∷◌, length, take, set, get_or, ◌==◌, ⊎_elim, sym, ap, ap₂, ◌∙◌, arith}
use Rattle.std.specs.List.{list_any}
use Rattle.std.proofs.lemmas.Bool.{true≢false, eqb-true, eq-eqb, and_from, and_parts, or_right, cases_eq, false_from_ne_true}
use Rattle.std.proofs.lemmas.List.{get_or-set_same, get_or-set_other, take_more}
use Rattle.std.proofs.lemmas.List.Folds.{list_any-append}
use Rattle.std.proofs.lemmas.List.Elements.{All-get_or}
use Rattle.std.proofs.lemmas.Nat.{mul-add-lt, div-mul-add, mod-mul-add}
use Rattle.element_chain.specs.declared.chain.Wire.{Wire}
use Rattle.element_chain.specs.declared.chain.Target.{Target}
use Rattle.element_chain.specs.declared.chain.Target.TheVariants.{Element, Out}
use Rattle.element_chain.specs.Wiring.{Leads, HasNoCycle, IsWithin, AreWithin, is_to, is_joined, leads_by}
use Rattle.chain_text.specs.declared.reach.Reach.{Reach}
use Rattle.chain_text.specs.Rows.{with_target, with_wire}
use Rattle.chain_text.specs.Reached.{entry, LeadsBy}
use Rattle.element_chain.proofs.Ranks.{leads_within}
use Rattle.lemmas.proofs.Tests.{and_false, or_false}

-- a list of rows, entry by entry
entry_at : (rows : List Bool) (count end : ℕ) (f : ℕ → ℕ → Bool) → ((k : ℕ) → k < end → get_or rows k false ≡ f (k / count) (k % count))
    → count * count ≤ end → (from to : ℕ) → from < count → to < count → get_or rows (from * count + to) false ≡ f from to
entry_at rows count end f so_far all from to lt lt' =
    let place : from * count + to < count * count = mul-add-lt from count to count lt lt' in
    so_far (from * count + to) (omega arith) ∙ ap₂ f (div-mul-add from count to lt') (mod-mul-add from count to lt')

-- ## the rows behind one wire more
or_none : (x b : Bool) → b ≡ false → x ≡ (x || b)
or_none x b is = sym (ap (λ y. x || y) is ∙ or_false x)

marked : (rows : List Bool) (count from : ℕ) (t : Target) (e f : ℕ) → length rows ≡ count * count → from < count → IsWithin count t → e < count → f < count
    → get_or (with_target count rows from t) (e * count + f) false ≡ (get_or rows (e * count + f) false || (from == e && is_to f t))
marked rows count from Out e f size lt within lt_e lt_f = or_none (get_or rows (e * count + f) false) (from == e && false) (and_false (from == e))
marked rows count from (Element g) e f size lt within lt_e lt_f =
    ⊎_elim
    (λ same.
    let from_is : from ≡ e = sym (div-mul-add from count g within) ∙ ap (λ k. k / count) same ∙ div-mul-add e count f lt_f in
    let to_is : g ≡ f = sym (mod-mul-add from count g within) ∙ ap (λ k. k % count) same ∙ mod-mul-add e count f lt_f in
    let place : from * count + g < length rows = omega (arith, mul-add-lt from count g count lt within, size) in
    ap (λ k. get_or (set rows (from * count + g) true) k false) (sym same) ∙ get_or-set_same rows (from * count + g) true false place
    ∙ sym (or_right (get_or rows (e * count + f) false) (from == e && g == f)
    (and_from (from == e) (g == f) (eq-eqb from e from_is) (eq-eqb g f to_is))))
    (λ apart.
    let other : (from == e && g == f) ≡ false =
    false_from_ne_true (from == e && g == f)
    (λ both.
    let two = and_parts (from == e) (g == f) both in
    apart (ap₂ (λ x y. x * count + y) (eqb-true from e two.0) (eqb-true g f two.1))) in
    get_or-set_other rows (from * count + g) (e * count + f) true false (λ same. apart (sym same))
    ∙ or_none (get_or rows (e * count + f) false) (from == e && g == f) other)
    (cases_eq (from * count + g) (e * count + f))

-- the rows are those of wires
abbrev pub AreRowsOf : List Wire → ℕ → List Bool → Type 0
AreRowsOf wires count rows = (e f : ℕ) → e < count → f < count → get_or rows (e * count + f) false ≡ is_joined wires e f

pub joined_next : (wires : List Wire) (rows new : List Bool) (count i : ℕ) (d : Wire) → length rows ≡ count * count → i < length wires → AreWithin count wires
    → new ≡ with_wire count rows (get_or wires i d) → AreRowsOf (take i wires) count rows → AreRowsOf (take (i + 1) wires) count new
joined_next wires rows new count i d size lt within new_is so_far e f lt_e lt_f =
    let w : Wire = get_or wires i d in
    let two = All-get_or (λ (w : Wire). (w.from < count) × IsWithin count w.to) wires i d lt within in
    let test : Wire → Bool = λ w. w.from == e && is_to f w.to in
    ap (λ l. get_or l (e * count + f) false) new_is ∙ marked rows count w.from w.to e f size two.0 two.1 lt_e lt_f
    ∙ ap (λ b. b || test w) (so_far e f lt_e lt_f) ∙ ap (λ b. is_joined (take i wires) e f || b) (sym (or_false (test w)))
    ∙ sym (ap (λ l. list_any test l) (take_more wires i d lt) ∙ list_any-append test (take i wires) (w ∷ []))

pub next_table : (wires : List Wire) (count way : ℕ) (old new : Reach) (end : ℕ) → LeadsBy wires count way old → way < old.count → new.count ≡ old.count
    → ((k : ℕ) → k < end → get_or new.rows.items k false
    ≡ (entry old (k / old.count) (k % old.count) || entry old (k / old.count) way && entry old way (k % old.count)))
    → old.count * old.count ≤ end → LeadsBy wires count (suc way) new
next_table wires count way old new end h lt same so_far all = record { size = same ∙ h.size; entries = one }
  where
    one : (from to : ℕ) → from < count → to < count → entry new from to ≡ leads_by wires (suc way) from to
    one from to lt_from lt_to =
        let f : ℕ → ℕ → Bool = λ a b. entry old a b || entry old a way && entry old way b in
        let within : (n : ℕ) → n < count → n < old.count = λ n lt. omega (arith, h.size) in
        let way_in : way < count = omega (arith, h.size) in
        ap (λ n. get_or new.rows.items (from * n + to) false) same
        ∙ entry_at new.rows.items old.count end f so_far all from to (within from lt_from) (within to lt_to)
        ∙ ap₂ (λ x y. x || y) (h.entries from to lt_from lt_to) (ap₂ (λ x y. x && y) (h.entries from way lt_from way_in) (h.entries way to way_in lt_to))

-- ## cycles
-- the test whether wires lead from an element to another is right
abbrev pub IsTest : List Wire → ℕ → Type 0
IsTest wires count = (e f : ℕ) → leads_by wires count e f ≡ true ↔ Leads wires e f

pub cycle_is : (wires : List Wire) (count : ℕ) (r : Reach) (found : Bool) → AreWithin count wires → IsTest wires count → LeadsBy wires count count r
    → MatchBool found ((e : ℕ) × (e < r.count) × (entry r e e ≡ true)) ((e : ℕ) → e < r.count → entry r e e ≡ false)
    → MatchBool found ((e : ℕ) × Leads wires e e) (HasNoCycle wires)
cycle_is wires count r true within test h (e, lt, is) =
    let lt' : e < count = omega (arith, h.size) in
    (e, (test e e).0 (sym (h.entries e e lt' lt') ∙ is))
cycle_is wires count r false within test h none =
    λ e cycle.
    let lt : e < count = (leads_within count wires within cycle).0 in
    let lt' : e < r.count = omega (arith, h.size) in
    true≢false (sym ((test e e).1 cycle) ∙ sym (h.entries e e lt lt) ∙ none e lt')
