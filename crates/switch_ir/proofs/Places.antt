-- Instructions, fields and blocks, by their place.
use Rattle.std.proofs.Common.{◌≡◌, ℕ, zero, suc, ◌+◌, ◌<◌, ◌≤◌, Bool, true, false, List, [], ◌∷◌, ◌++◌, refl, ap, sym, ◌∙◌, arith, length, get_or, take, subst, ⊎_elim, add-one, if◌then◌else◌}
use Rattle.std.proofs.lemmas.Bool.{or_left, or_right}
use Rattle.std.proofs.lemmas.List.{append-nil, length-append, length-map}
use Rattle.std.proofs.lemmas.List.Elements.{filter_more}
use Rattle.std.proofs.Math.Nat.{eq-or-lt_of_le}
use Rattle.std.specs.Prelude.{IsTrue}
use Rattle.std.specs.List.{filter}
use Rattle.flat_ir.specs.declared.program.FieldValue.{FieldValue}
use Rattle.flat_ir.specs.declared.program.Instr.{Instr}
use Rattle.flat_ir.specs.declared.program.Flat.{Flat}
use Rattle.flat_ir.specs.Operands.{CanRun}
use Rattle.flat_ir.specs.Fits.{fits}
use Rattle.flat_ir.specs.Program.{Program, Step, program_of, step_at, step_of, work_of, result_count}
use Rattle.flat_ir.specs.WellFormed.{IsWellFormed}
use Rattle.split_model.specs.declared.split.Part.{Part}
use Rattle.split_model.specs.Layouts.{first_results, values_below}
use Rattle.split_model.specs.Split.{is_post, any_below}
use Rattle.split_model.proofs.ValueLists.{count_results}
use Rattle.split_model.proofs.Steps.{step_is}

-- ## Instructions that can be run

pub fits_at : (f : Flat) (code : List Instr) (i : ℕ) (one : Instr) → IsWellFormed (program_of f) → code ≡ f.code → i < length code → one ≡ get_or code i one
    → IsTrue (fits (program_of f) (work_of one.kind))
fits_at f code i one well same within e =
    subst (λ (s : Step). IsTrue (fits (program_of f) s.work)) (step_is f code i one same within e)
    (well.fit i (omega (arith, within, ap length same, length-map f.code step_of)))

pub one_more_runs : (f : Flat) (code : List Instr) (i : ℕ) (one : Instr) → code ≡ f.code → i < length code → one ≡ get_or code i one → CanRun (work_of one.kind)
    → ((j : ℕ) → j < i → CanRun (step_at (program_of f) j).work) → (j : ℕ) → j < i + 1 → CanRun (step_at (program_of f) j).work
one_more_runs f code i one same within e can before j below =
    ⊎_elim
    (λ last. subst (λ k. CanRun (step_at (program_of f) k).work) (sym last) (subst (λ (s : Step). CanRun s.work) (sym (step_is f code i one same within e)) can))
    (λ less. before j less)
    (eq-or-lt_of_le {n = j} {m = i} (omega (arith, below)))

pub block_is : (f : Flat) (code : List Instr) (i : ℕ) (one : Instr) → code ≡ f.code → i < length f.code → one ≡ get_or code i one
    → (step_at (program_of f) i).block ≡ (get_or code i one).block
block_is f code i one same within e =
    ap (λ (s : Step). s.block) (step_is f code i one same (omega (arith, within, ap length same)) e) ∙ ap (λ (x : Instr). x.block) e

pub block_below : (f : Flat) (code : List Instr) (i : ℕ) (one : Instr) → IsWellFormed (program_of f) → code ≡ f.code → i < length f.code → one ≡ get_or code i one
    → (get_or code i one).block < length f.blocks + 1
block_below f code i one well same within e =
    let low : (step_at (program_of f) i).block ≤ length f.blocks = well.blocks i (omega (arith, within, length-map f.code step_of)) in
    omega (arith, low, block_is f code i one same within e)

pub work_is : (f : Flat) (code : List Instr) (i : ℕ) (one : Instr) → code ≡ f.code → i < length f.code → one ≡ get_or code i one
    → work_of (get_or code i one).kind ≡ (step_at (program_of f) i).work
work_is f code i one same within e =
    sym (ap (λ (s : Step). s.work) (step_is f code i one same (omega (arith, within, ap length same)) e) ∙ ap (λ (x : Instr). work_of x.kind) e)

-- ## Numbers of values

pub values_more : (f : Program) (i number count : ℕ) → number ≡ length (values_below f i) → count ≡ result_count f.objects (step_at f i).work
    → number + count ≡ length (values_below f (i + 1))
values_more f i number count so_far e =
    let own : ℕ = result_count f.objects (step_at f i).work in
    let both : length (values_below f i ++ first_results i own) ≡ length (values_below f i) + own =
    length-append (values_below f i) (first_results i own) ∙ ap (λ n. length (values_below f i) + n) (count_results i own) in
    omega (arith, so_far, e) ∙ sym both ∙ ap (λ n. length (values_below f n)) (sym (add-one i))

-- ## Fields

abbrev of_post : List Part → FieldValue → Bool
of_post split w = is_post split w.value.instruction

joined : (before : List FieldValue) (w : FieldValue) (b : Bool) → (if b then before ++ w ∷ [] else before) ≡ before ++ (if b then w ∷ [] else [])
joined before w true = refl
joined before w false = sym (append-nil before)

pub field_more : (split : List Part) (all fields before : List FieldValue) (i : ℕ) (d : FieldValue) (b : Bool)
    → fields ≡ all → i < length fields → b ≡ is_post split (get_or fields i d).value.instruction
    → before ≡ filter (of_post split) (take i all)
    → (if b then before ++ get_or fields i d ∷ [] else before) ≡ filter (of_post split) (take (i + 1) all)
field_more split all fields before i d b same within own so_far =
    joined before (get_or fields i d) b
    ∙ ap (λ l. l ++ (if b then get_or fields i d ∷ [] else [])) (so_far ∙ ap (λ l. filter (of_post split) (take i l)) (sym same))
    ∙ ap (λ c. filter (of_post split) (take i fields) ++ (if c then get_or fields i d ∷ [] else [])) own
    ∙ sym (filter_more (of_post split) fields i d within)
    ∙ ap (λ l. filter (of_post split) (take (i + 1) l)) same

-- ## Tests of instructions

pub any_at : (n i : ℕ) (test : ℕ → Bool) → i < n → test i ≡ true → any_below n test ≡ true
any_at zero i test below passes = absurd (omega (arith, below))
any_at (suc n) i test below passes =
    ⊎_elim
    (λ last. or_right (any_below n test) (test n) (ap test (sym last) ∙ passes))
    (λ less. or_left (any_below n test) (test n) (any_at n i test less passes))
    (eq-or-lt_of_le {n = i} {m = n} (omega (arith, below)))
