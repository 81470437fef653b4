-- The numbers of a program's values.
use Rattle.std.proofs.Common.{◌≡◌, ℕ, zero, suc, ◌+◌, ◌-◌, ◌<◌, Bool, true, cond, List, [], ◌∷◌, ◌++◌, get_or, length, map, refl, sym, ap, subst, ◌∙◌, inl, inr, arith, length-append}
use Rattle.std.specs.Prelude.{Some, None, slice_get, IsTrue, nat_lt, not, ◌&&◌}
use Rattle.std.specs.List.{All, filter}
use Rattle.std.proofs.lemmas.Bool.{cases_lt, cond_both, and_parts, ltb-true}
use Rattle.std.proofs.lemmas.List.{length-map, get_or_append_left, get_or-append_right, get_or-append-add, get_or_push, get_or-map}
use Rattle.std.proofs.lemmas.List.Elements.{All-map, All-filter, All-head, All-tail, filter_passes}
use Rattle.std.proofs.lemmas.List.Kept.{AllPairs-filter}
use Rattle.std.proofs.lemmas.Option.{slice_get-get_or}
use Rattle.flat_ir.specs.declared.program.ValueId.{ValueId}
use Rattle.flat_ir.specs.Program.{Program, step_at, result_count, is_named}
use Rattle.split_model.specs.declared.split.Part.{Part}
use Rattle.split_model.specs.declared.layout.Crossing.{Crossing}
use Rattle.split_model.specs.Layouts.{first_results, values_below, values_of, number_of, crossing}
use Rattle.split_model.specs.Split.{is_carried, is_post}
use Rattle.split_model.specs.Crossing.{crosses_up, crosses_down}
use Rattle.flat_ir.specs.Kinds.{is_input}
use Rattle.transfer_header.specs.Registers.{Registers, IsRising, FitsLayout}
use Rattle.transfer_header.proofs.Elements.{AllPairs-map}
use Rattle.transfer_header.proofs.LayoutInRegisters.{fits_own}
use Rattle.split_model.proofs.ValueLists.{count_results as length-first_results}

abbrev count_of : Program → ℕ → ℕ
count_of f n = result_count f.objects (step_at f n).work

pub get_or-first_results : (i n j : ℕ) (d : ValueId) → j < n → get_or (first_results i n) j d ≡ record { instruction = i; result = j }
get_or-first_results i zero j d below = absurd (omega arith)
get_or-first_results i (suc n) j d below =
    let last : ValueId = record { instruction = i; result = n } in
    elim (cases_lt j n) [
      | inl front ↦ get_or_append_left (first_results i n) (last ∷ []) d j (omega (arith, length-first_results i n)) ∙ get_or-first_results i n j d front
      | inr back ↦ let same : n ≡ j = omega arith in
          get_or_push (first_results i n) last d j (omega (arith, length-first_results i n)) ∙ ap (λ (k : ℕ). record { instruction = i; result = k }) same
    ]

length-values_below : (f : Program) (n : ℕ) → length (values_below f (suc n)) ≡ length (values_below f n) + count_of f n
length-values_below f n =
    length-append (values_below f n) (first_results n (count_of f n)) ∙ ap (λ k. length (values_below f n) + k) (length-first_results n (count_of f n))

-- the value at a place has that number
number-get_or : (f : Program) (n k : ℕ) (d : ValueId) → k < length (values_below f n) → number_of f (get_or (values_below f n) k d) ≡ k
number-get_or f zero k d below = absurd (omega arith)
number-get_or f (suc n) k d below =
    let front : List ValueId = values_below f n in
    let back : List ValueId = first_results n (count_of f n) in
    elim (cases_lt k (length front)) [
      | inl early ↦ ap (number_of f) (get_or_append_left front back d k early) ∙ number-get_or f n k d early
      | inr late ↦
          let here : get_or (front ++ back) k d ≡ record { instruction = n; result = k - length front } =
          get_or-append_right front back (length front) k d refl late ∙ get_or-first_results n (count_of f n) (k - length front) d (omega (arith, length-values_below f n)) in
          ap (number_of f) here ∙ omega arith
    ]

-- and each value stands at its number
stands : (f : Program) (n i r : ℕ) (d : ValueId) → i < n → r < count_of f i
    → (length (values_below f i) + r < length (values_below f n)) × (get_or (values_below f n) (length (values_below f i) + r) d ≡ record { instruction = i; result = r })
stands f zero i r d within named = absurd (omega arith)
stands f (suc n) i r d within named =
    let front : List ValueId = values_below f n in
    let back : List ValueId = first_results n (count_of f n) in
    elim (cases_lt i n) [
      | inl early ↦
          let rest = stands f n i r d early named in
          (omega (arith, rest.0, length-values_below f n), get_or_append_left front back d (length (values_below f i) + r) rest.0 ∙ rest.1)
      | inr late ↦
          let same : n ≡ i = omega arith in
          let Stands : ℕ → Type 0 = λ k. (length (values_below f k) + r < length (values_below f (suc n))) × (get_or (values_below f (suc n)) (length (values_below f k) + r) d ≡ record { instruction = k; result = r }) in
          let named' : r < count_of f n = subst (λ k. r < count_of f k) (sym same) named in
          subst Stands same (omega (arith, named', length-values_below f n), get_or-append-add front back r d ∙ get_or-first_results n (count_of f n) r d named')
    ]

-- ---- the laws
-- a value that is there has both its numbers in range
in_range : (f : Program) (v : ValueId) → IsTrue (is_named f v) → (v.instruction < length f.code) × (v.result < count_of f v.instruction)
in_range f v named =
    let both = and_parts (nat_lt v.instruction (length f.code)) (nat_lt v.result (count_of f v.instruction)) named in
    (ltb-true v.instruction (length f.code) both.0, ltb-true v.result (count_of f v.instruction) both.1)

-- Among all values of a program each stands at its number, so that no two have the same.
pub values_have_their_numbers : (f : Program) (v : ValueId) → IsTrue (is_named f v) → slice_get (values_of f) (number_of f v) ≡ Some v
values_have_their_numbers f v named =
    let range = in_range f v named in
    let there = stands f (length f.code) v.instruction v.result v range.0 range.1 in
    slice_get-get_or (values_of f) (number_of f v) v there.0 ∙ ap (λ (x : ValueId). Some x) there.1

-- the numbers of whatever values rise
pub crossings_rise : (f : Program) (test : ValueId → Bool) → IsRising (map (crossing f) (filter test (values_of f)))
crossings_rise f test =
    AllPairs-map (λ (a b : Crossing). a.number < b.number) (crossing f) (λ (c : Crossing). c.value) (filter test (values_of f))
    (AllPairs-filter (λ v w. number_of f v < number_of f w) test (values_of f)
    (λ i j d order within. omega (arith, number-get_or f (length f.code) i d (omega arith), number-get_or f (length f.code) j d within)))

-- whatever values of a program cross, registers for all its values have theirs
pub crossings_fit : (f : Program) (test : ValueId → Bool) (registers : Registers) → registers.plan ≡ None → length registers.numbers ≡ length (values_of f)
    → FitsLayout (map (crossing f) (filter test (values_of f))) registers
crossings_fit f test registers none len =
    fits_own (map (crossing f) (filter test (values_of f))) registers none (crossings_rise f test)
    (All-map (λ (c : Crossing). c.number < length registers.numbers) (crossing f) (filter test (values_of f))
    (All-filter test (λ v. number_of f v < length registers.numbers) (values_of f)
    (λ k d within. omega (arith, number-get_or f (length f.code) k d within, len))))

-- ---- what crosses, and the values of a layout
-- what holds of each element that a filter keeps holds of each element that passes
kept_by_filter : {X : Type 0} (P : X → Type 0) (test : X → Bool) (xs : List X) (k : ℕ) (d : X) → k < length xs → test (get_or xs k d) ≡ true → All P (filter test xs) → P (get_or xs k d)
kept_by_filter P test [] k d within passes all = absurd (omega arith)
kept_by_filter P test (x ∷ xs) zero d within passes all = All-head P x (filter test xs) (subst (All P) (ap (λ b. cond b (x ∷ filter test xs) (filter test xs)) passes) all)
kept_by_filter P test (x ∷ xs) (suc k) d within passes all =
    kept_by_filter P test xs k d (omega arith) passes
    (cond_both (test x) (x ∷ filter test xs) (filter test xs) (λ ys. All P ys → All P (filter test xs)) (λ _ here. All-tail P x (filter test xs) here) (λ _ here. here) all)

-- what holds of the values of a layout, and what holds of all that crosses
pub to_all : (f : Program) (test : ValueId → Bool) (P : Crossing → Type 0) → ((v : ValueId) → test v ≡ true → P (crossing f v)) → All P (map (crossing f) (filter test (values_of f)))
to_all f test P each = All-map P (crossing f) (filter test (values_of f)) (λ k d within. each (get_or (filter test (values_of f)) k d) (filter_passes test (values_of f) k d within))

pub from_all : (f : Program) (test : ValueId → Bool) (P : Crossing → Type 0) → ((v : ValueId) → test v ≡ true → IsTrue (is_named f v)) → All P (map (crossing f) (filter test (values_of f))) → (v : ValueId) → test v ≡ true → P (crossing f v)
from_all f test P named all v passes =
    let range = in_range f v (named v passes) in
    let there = stands f (length f.code) v.instruction v.result v range.0 range.1 in
    let ys : List ValueId = filter test (values_of f) in
    let each : All (λ w. P (crossing f w)) ys = λ k d within. subst P (get_or-map (crossing f) ys k d (crossing f d) within) (all k (crossing f d) (omega (arith, length-map ys (crossing f)))) in
    subst (λ w. P (crossing f w)) there.1 (kept_by_filter (λ w. P (crossing f w)) test (values_of f) (number_of f v) v there.0 (subst (λ w. test w ≡ true) (sym there.1) passes) each)

pub named_up : (f : Program) (split : List Part) (v : ValueId) → crosses_up f split v ≡ true → IsTrue (is_named f v)
named_up f split v crosses =
    let all = and_parts (is_named f v && (is_carried split v.instruction && not (is_input (step_at f v.instruction).work))) _ crosses in
    (and_parts (is_named f v) _ all.0).0

pub named_down : (f : Program) (split : List Part) (v : ValueId) → crosses_down f split v ≡ true → IsTrue (is_named f v)
named_down f split v crosses =
    let all = and_parts (is_named f v && not (is_post split v.instruction)) _ crosses in
    (and_parts (is_named f v) _ all.0).0
