-- What is noted of operands and of the blocks of writes is what is read.
use Rattle.std.proofs.Common.{◌≡◌, ◌+◌, ◌<◌, ◌≤◌, ◌==◌, ◌&&◌, ◌||◌, ℕ, zero, suc, Bool, true, false, cond, max, List, [], ◌∷◌, length, get_or, set, refl, sym, ap, ◌∙◌, inl, inr, arith}
use Rattle.std.specs.List.{list_any}
use Rattle.std.proofs.lemmas.Bool.{cases_eq, eq-eqb, lt-ltb, ne_eqb}
use Rattle.std.proofs.lemmas.List.{get_or-set_other, get_or-set_same, map-append}
use Rattle.std.proofs.lemmas.List.Folds.{list_any-append}
use Rattle.flat_ir.specs.declared.program.ValueId.{ValueId}
use Rattle.flat_ir.specs.Blocks.{block_at, line}
use Rattle.flat_ir.specs.Kinds.{is_write}
use Rattle.flat_ir.specs.Program.{is_named, operands, step_at, Program}
use Rattle.split_model.specs.declared.split.Part.{Part}
use Rattle.split_model.specs.Layouts.{number_of, values_of}
use Rattle.transfer_header.specs.BlockSteps.{greatest_below, step_if}
use Rattle.transfer_header.specs.Steps.{is_among}
use Rattle.server_runtime.specs.Noting.{is_condition_of, is_operand_at, is_written_at}
use Rattle.server_runtime.specs.Spans.{conditions_of, is_taken, is_turn, last_below, numbers_of, reads_at, values_read}
use Rattle.server_runtime.proofs.Listed.{step_reads}
use Rattle.server_runtime.proofs.Numbers.{below_all, named_parts}

-- ## The last step that passes a test

at_most : (b : Bool) (n x : ℕ) → x ≤ n → cond b n x ≤ suc n
at_most true n x le = omega arith
at_most false n x le = omega (arith, le)

below_le : (n : ℕ) (test : ℕ → Bool) → last_below n test ≤ n
below_le zero test = omega arith
below_le (suc n) test = at_most (test n) n (last_below n test) (below_le n test)

-- one step more
pub last_more : (n : ℕ) (test : ℕ → Bool) → max (last_below n test) (step_if (test n) n) ≡ last_below (suc n) test
last_more n test = by_test (test n)
  where
    by_test : (b : Bool) → max (last_below n test) (step_if b n) ≡ cond b n (last_below n test)
    by_test true = omega (arith, below_le n test)
    by_test false = omega arith

either : (a b : Bool) (n x y : ℕ) → x ≤ n → y ≤ n → cond (a || b) n (max x y) ≡ max (cond a n x) (cond b n y)
either true true n x y le le' = omega arith
either true false n x y le le' = omega (arith, le')
either false true n x y le le' = omega (arith, le)
either false false n x y le le' = refl

-- a test that passes where one of two does
pub last_either : (n : ℕ) (p q r : ℕ → Bool) → ((k : ℕ) → k < n → r k ≡ (p k || q k)) → last_below n r ≡ max (last_below n p) (last_below n q)
last_either zero p q r same = refl
last_either (suc n) p q r same =
    (λ i. cond (same n (omega arith) i) n (last_either n p q r (λ k lt. same k (omega (arith, lt))) i))
    ∙ either (p n) (q n) n (last_below n p) (last_below n q) (below_le n p) (below_le n q)

-- ## What an instruction reads

among_conditions : (f : Program) (n : ℕ) (bs : List ℕ) → is_among n (numbers_of f (conditions_of f bs)) ≡ list_any (is_condition_of f n) bs
among_conditions f n [] = refl
among_conditions f n (zero ∷ bs) = among_conditions f n bs
among_conditions f n (suc k ∷ bs) = ap (λ b. (number_of f (block_at f.blocks k).cond == n) || b) (among_conditions f n bs)

abbrev pub guards : Program → ℕ → ℕ → Bool
guards f n b = list_any (is_condition_of f n) (line f.blocks b)

among_read : (f : Program) (i n : ℕ)
    → is_among n (numbers_of f (values_read f i)) ≡ (is_among n (numbers_of f (operands (step_at f i).work)) || (is_write (step_at f i).work && guards f n (step_at f i).block))
among_read f i n =
    let one = step_at f i in
    let ops = operands one.work in
    let above = conditions_of f (line f.blocks one.block) in
    ap (is_among n) (map-append (number_of f) ops (cond (is_write one.work) above []))
    ∙ list_any-append (λ v. v == n) (numbers_of f ops) (numbers_of f (cond (is_write one.work) above []))
    ∙ ap (λ b. is_among n (numbers_of f ops) || b) (by_test (is_write one.work) ∙ ap (λ b. is_write one.work && b) (among_conditions f n (line f.blocks one.block)))
  where
    by_test : (b : Bool) → is_among n (numbers_of f (cond b (conditions_of f (line f.blocks (step_at f i).block)) []))
        ≡ (b && is_among n (numbers_of f (conditions_of f (line f.blocks (step_at f i).block))))
    by_test true = refl
    by_test false = refl

pub taken_is : (f : Program) (split : List Part) (i : ℕ) → i < length f.code → is_taken f split i ≡ is_turn f split i
taken_is f split i lt = ap (λ b. b && is_turn f split i) (lt-ltb i (length f.code) lt)

spread : (t a b : Bool) → (t && (a || b)) ≡ ((t && a) || (t && b))
spread true a b = refl
spread false a b = refl

-- a step reads what is an operand there, or guards the write that it makes
read_at_a_step : (f : Program) (split : List Part) (n i : ℕ) → i < length f.code
    → reads_at f split (suc i) n ≡ (is_operand_at f split n (suc i) || is_written_at f split (guards f n) (suc i))
read_at_a_step f split n i lt =
    let one = step_at f i in
    let a = is_among n (numbers_of f (operands one.work)) in
    let b = is_write one.work && guards f n one.block in
    step_reads f split i n lt ∙ ap (λ t. t && is_among n (numbers_of f (values_read f i))) (sym (taken_is f split i lt))
    ∙ ap (λ x. is_taken f split i && x) (among_read f i n) ∙ spread (is_taken f split i) a b

each_step : (f : Program) (split : List Part) (n k : ℕ) → k < length f.code + 1
    → reads_at f split k n ≡ (is_operand_at f split n k || is_written_at f split (guards f n) k)
each_step f split n zero lt = refl
each_step f split n (suc i) lt = read_at_a_step f split n i (omega (arith, lt))

-- what is noted of all instructions
pub all_noted : (f : Program) (split : List Part) (n : ℕ)
    → max (last_below (length f.code + 1) (is_operand_at f split n)) (last_below (length f.code + 1) (is_written_at f split (guards f n)))
    ≡ last_below (length f.code + 1) (λ step. reads_at f split step n)
all_noted f split n =
    sym (last_either (length f.code + 1) (is_operand_at f split n) (is_written_at f split (guards f n)) (λ step. reads_at f split step n) (each_step f split n))

-- ## Block by block

pub number_low : (f : Program) (v : ValueId) → is_named f v ≡ true → number_of f v < length (values_of f)
number_low f v named = let parts = named_parts f v named in omega (arith, parts.1, below_all f v.instruction parts.0)

more_here : (start g x : ℕ) → max (max start g) x ≡ max start (max g x)
more_here start g x = omega arith

more_elsewhere : (start g : ℕ) → max start g ≡ max start (max g 0)
more_elsewhere start g = omega arith

-- the condition of one block more is noted
pub condition_noted : (f : Program) (n k number x start : ℕ) (steps now : List ℕ) → number < length now
    → number ≡ number_of f (block_at f.blocks k).cond → x ≡ get_or steps (suc k) 0
    → get_or now n 0 ≡ max start (greatest_below (suc k) (is_condition_of f n) steps)
    → get_or (set now number (max (get_or now number 0) x)) n 0 ≡ max start (greatest_below (suc (suc k)) (is_condition_of f n) steps)
condition_noted f n k number x start steps now within is at so_far = elim (cases_eq number n) [
  | inl e ↦ (
      ap (λ m. get_or (set now number (max (get_or now number 0) x)) m 0) (sym e)
      ∙ get_or-set_same now number (max (get_or now number 0) x) 0 within
      ∙ (λ i. max (get_or now (e i) 0) (at i))
      ∙ ap (λ y. max y (get_or steps (suc k) 0)) so_far
      ∙ more_here start (greatest_below (suc k) (is_condition_of f n) steps) (get_or steps (suc k) 0)
      ∙ ap (λ b. max start (max (greatest_below (suc k) (is_condition_of f n) steps) (step_if b (get_or steps (suc k) 0)))) (sym (eq-eqb (number_of f (block_at f.blocks k).cond) n (sym is ∙ e)))
      )
  | inr ne ↦ (
      get_or-set_other now number n (max (get_or now number 0) x) 0 (λ e. ne (sym e)) ∙ so_far
      ∙ more_elsewhere start (greatest_below (suc k) (is_condition_of f n) steps)
      ∙ ap (λ b. max start (max (greatest_below (suc k) (is_condition_of f n) steps) (step_if b (get_or steps (suc k) 0)))) (sym (ne_eqb (number_of f (block_at f.blocks k).cond) n (λ e. ne (is ∙ e))))
      )
]
