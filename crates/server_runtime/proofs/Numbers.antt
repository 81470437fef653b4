-- The numbers of values.
use Rattle.std.proofs.Common.{◌≡◌, ◌+◌, ◌-◌, ◌<◌, ◌≤◌, ℕ, zero, suc, Bool, true, false, List, [], ◌∷◌, ◌++◌, length, get_or, nat_lt, refl, sym, ap, ◌∙◌, arith, add-one, length-append, ⊎_elim, Some, None, if◌then◌else◌}
use Rattle.std.specs.List.{AllByRecursion as Each}
use Rattle.std.proofs.lemmas.Bool.{and_from, and_parts, lt-ltb, ltb-true, cond-true}
use Rattle.std.proofs.lemmas.List.{get_or_push, get_or_append_left}
use Rattle.std.proofs.Math.Nat.{eq-or-lt_of_le}
use Rattle.flat_ir.specs.declared.program.ValueId.{ValueId}
use Rattle.flat_ir.specs.Program.{is_named, result_count, step_at, Program}
use Rattle.split_model.specs.Layouts.{first_results, number_of, values_below, values_of}
use Rattle.lemmas.proofs.Lists.{each_append}
use Rattle.split_model.proofs.ValueLists.{count_results}

abbrev pub count_at : Program → ℕ → ℕ
count_at f i = result_count f.objects (step_at f i).work

pub below_suc : (f : Program) (i : ℕ) → length (values_below f (suc i)) ≡ length (values_below f i) + count_at f i
below_suc f i = omega (arith, length-append (values_below f i) (first_results i (count_at f i)), count_results i (count_at f i))

pub below_more : (f : Program) (i count : ℕ) → count ≡ count_at f i → length (values_below f i) + count ≡ length (values_below f (i + 1))
below_more f i count e = rw (add-one i) (omega (arith, e, below_suc f i))

-- one number more in a list
pub each_more : (g : ℕ → ℕ) (xs : List ℕ) (y n : ℕ) → length xs ≡ n → ((k : ℕ) → k < n → get_or xs k 0 ≡ g k) → y ≡ g n
    → (k : ℕ) → k < n + 1 → get_or (xs ++ y ∷ []) k 0 ≡ g k
each_more g xs y n count each last k lt =
    ⊎_elim
    (λ e. rw e (get_or_push xs y 0 n count ∙ last))
    (λ less. get_or_append_left xs (y ∷ []) 0 k (omega (arith, less, count)) ∙ each k less)
    (eq-or-lt_of_le {n = k} {m = n} (omega (arith, lt)))

-- what holds of each of an instruction's first results
pub each_result : (P : ValueId → Type 0) (i n : ℕ) → ((r : ℕ) → r < n → P (record { instruction = i; result = r })) → Each P (first_results i n)
each_result P i zero h = tt
each_result P i (suc n) h =
    each_append P (first_results i n) (record { instruction = i; result = n } ∷ []) (each_result P i n (λ r low. h r (omega (arith, low)))) (h n (omega arith), tt)

-- ## Where they stand

pub below_mono : (f : Program) (i j : ℕ) → i ≤ j → length (values_below f i) ≤ length (values_below f j)
below_mono f i zero le = let e : i ≡ 0 = omega (arith, le) in rw e (omega arith)
below_mono f i (suc j) le =
    ⊎_elim
    (λ e. rw e (omega arith))
    (λ less. omega (arith, below_mono f i j (omega (arith, less)), below_suc f j))
    (eq-or-lt_of_le {n = i} {m = suc j} le)

pub below_all : (f : Program) (i : ℕ) → i < length f.code → length (values_below f i) + count_at f i ≤ length (values_of f)
below_all f i lt = omega (arith, below_suc f i, below_mono f (suc i) (length f.code) lt)

-- what it takes for a value to be there
pub named_parts : (f : Program) (v : ValueId) → is_named f v ≡ true → (v.instruction < length f.code) × (v.result < count_at f v.instruction)
named_parts f v h =
    let parts = and_parts (nat_lt v.instruction (length f.code)) (nat_lt v.result (count_at f v.instruction)) h in
    (ltb-true v.instruction (length f.code) parts.0, ltb-true v.result (count_at f v.instruction) parts.1)

pub is_named_by : (f : Program) (v : ValueId) → v.instruction < length f.code → v.result < count_at f v.instruction → is_named f v ≡ true
is_named_by f v lt low =
    and_from (nat_lt v.instruction (length f.code)) (nat_lt v.result (count_at f v.instruction)) (lt-ltb v.instruction (length f.code) lt) (lt-ltb v.result (count_at f v.instruction) low)

pub number_of_named : (f : Program) (v : ValueId) (first next : ℕ) → v.instruction < length f.code
    → first ≡ length (values_below f v.instruction) → next ≡ length (values_below f (v.instruction + 1)) → v.result < next - first
    → Some (first + v.result) ≡ (if is_named f v then Some (number_of f v) else None)
number_of_named f v first next lt from to low =
    let named = is_named_by f v lt (omega (arith, low, from, to, below_more f v.instruction (count_at f v.instruction) refl)) in
    ap (λ n. Some (n + v.result)) from ∙ sym (cond-true (is_named f v) (Some (number_of f v)) None named)

pub number_of_none : (f : Program) (v : ValueId) (first next : ℕ)
    → first ≡ length (values_below f v.instruction) → next ≡ length (values_below f (v.instruction + 1)) → next - first ≤ v.result
    → None ≡ (if is_named f v then Some (number_of f v) else None)
number_of_none f v first next from to high = by_test (is_named f v) refl
  where
    by_test : (b : Bool) → is_named f v ≡ b → None ≡ (if b then Some (number_of f v) else None)
    by_test true e = absurd (omega (arith, high, (named_parts f v e).1, from, to, below_more f v.instruction (count_at f v.instruction) refl))
    by_test false e = refl
