-- Lists of values, in order of instruction and result.
use Rattle.std.proofs.Common.{◌≡◌, ℕ, zero, suc, ◌+◌, ◌≤◌, Bool, true, false, List, [], ◌∷◌, ◌++◌, refl, ap, sym, ◌∙◌, arith, length, map, append_assoc, add-one, length-append, cond}
use Rattle.std.specs.List.{filter}
use Rattle.std.proofs.lemmas.List.{map-append}
use Rattle.std.proofs.lemmas.List.Elements.{filter-append}
use Rattle.flat_ir.specs.declared.program.ValueId.{ValueId}
use Rattle.flat_ir.specs.Program.{Program, step_at, result_count}
use Rattle.split_model.specs.declared.layout.Crossing.{Crossing}
use Rattle.split_model.specs.Layouts.{first_results, values_below, crossing}

-- what stands before, and the values of two lists that pass
joined : (f : Program) (test : ValueId → Bool) (before : List Crossing) (xs ys : List ValueId)
    → (before ++ map (crossing f) (filter test xs)) ++ map (crossing f) (filter test ys) ≡ before ++ map (crossing f) (filter test (xs ++ ys))
joined f test before xs ys =
    append_assoc before (map (crossing f) (filter test xs)) (map (crossing f) (filter test ys))
    ∙ ap (λ l. before ++ l) (sym (map-append (crossing f) (filter test xs) (filter test ys)) ∙ ap (map (crossing f)) (sym (filter-append test xs ys)))

-- one result more
pub results_more : (f : Program) (test : ValueId → Bool) (before : List Crossing) (i n : ℕ)
    → (before ++ map (crossing f) (filter test (first_results i n))) ++ map (crossing f) (filter test (record { instruction = i; result = n } ∷ []))
    ≡ before ++ map (crossing f) (filter test (first_results i (n + 1)))
results_more f test before i n =
    joined f test before (first_results i n) (record { instruction = i; result = n } ∷ [])
    ∙ ap (λ m. before ++ map (crossing f) (filter test (first_results i m))) (sym (add-one n))

pub count_results : (i n : ℕ) → length (first_results i n) ≡ n
count_results i zero = refl
count_results i (suc n) = simp length-append (let rest = count_results i n in omega arith)

-- one instruction more
pub values_more : (f : Program) (i count : ℕ) → count ≡ result_count f.objects (step_at f i).work → length (values_below f i) + count ≡ length (values_below f (i + 1))
values_more f i count e =
    rw add-one (let counted = count_results i (result_count f.objects (step_at f i).work) in
    let both = length-append (values_below f i) (first_results i (result_count f.objects (step_at f i).work)) in omega arith)

pub layout_more : (f : Program) (test : ValueId → Bool) (i count : ℕ) → count ≡ result_count f.objects (step_at f i).work
    → map (crossing f) (filter test (values_below f i)) ++ map (crossing f) (filter test (first_results i count)) ≡ map (crossing f) (filter test (values_below f (i + 1)))
layout_more f test i count e =
    ap (λ n. map (crossing f) (filter test (values_below f i)) ++ map (crossing f) (filter test (first_results i n))) e
    ∙ joined f test [] (values_below f i) (first_results i (result_count f.objects (step_at f i).work))
    ∙ ap (λ n. map (crossing f) (filter test (values_below f n))) (sym (add-one i))

fewer : (b : Bool) (x : ValueId) (xs : List ValueId) (n : ℕ) → length xs ≤ n → length (cond b (x ∷ xs) xs) ≤ suc n
fewer true x xs n h = omega arith
fewer false x xs n h = omega arith

pub few_pass : (test : ValueId → Bool) (vs : List ValueId) → length (filter test vs) ≤ length vs
few_pass test [] = omega arith
few_pass test (v ∷ vs) = fewer (test v) v (filter test vs) (length vs) (few_pass test vs)

same_length : (f : Program) (vs : List ValueId) → length (map (crossing f) vs) ≡ length vs
same_length f [] = refl
same_length f (v ∷ vs) = ap suc (same_length f vs)

-- a layout has no more values than there are
pub few_cross : (f : Program) (test : ValueId → Bool) (vs : List ValueId) → length (map (crossing f) (filter test vs)) ≤ length vs
few_cross f test vs = let few = few_pass test vs in let same = same_length f (filter test vs) in omega arith
