-- From the blocks of the writes to the values that decide whether these take effect.
use Rattle.std.proofs.Common.{◌≡◌, ℕ, zero, suc, ◌-◌, ◌<◌, ◌≤◌, Bool, true, false, ◌&&◌, ◌||◌, List, [], ◌∷◌, ◌++◌, ◌⊎◌, inl, inr, refl, sym, ap, ◌∙◌, subst, arith, length, get_or, set, length-set}
use Rattle.std.specs.Prelude.{slice_index_or, ◌==◌, nat_lt}
use Rattle.std.specs.List.{list_any}
use Rattle.std.proofs.Math.Bool.{or-false}
use Rattle.std.proofs.lemmas.Bool.{cases_lt, or_cases, or_left, or_right, and_parts, and_from, eqb-true, eq-eqb, ltb-true, false≢true}
use Rattle.std.proofs.lemmas.List.{get_or_default}
use Rattle.std.proofs.lemmas.List.Folds.{list_any-append}
use Rattle.flat_ir.specs.declared.program.Block.{Block}
use Rattle.flat_ir.specs.declared.program.ValueId.{ValueId}
use Rattle.flat_ir.specs.Program.{Program, step_at, is_value, is_among, result_count}
use Rattle.flat_ir.specs.Blocks.{block_at, line_up, HasLowParents}
use Rattle.flat_ir.specs.Kinds.{is_write}
use Rattle.flat_ir.specs.WellFormed.{IsWellFormed}
use Rattle.flat_ir.specs.Guards.{is_condition, decides_on, guards_write}
use Rattle.flat_ir.specs.Guarding.{is_written_in, AreWriteBlocks, AreGuardsFrom}
use Rattle.flat_ir.proofs.AnyBelow.{any_passes, passes_any}
use Rattle.flat_ir.proofs.Exact.{value_same, same_itself}
use Rattle.lemmas.proofs.Tests.{and_first, same_tests}

-- ## The line of blocks above a block

abbrev no_block : Block
no_block = record { parent = 0; cond = record { instruction = 0; result = 0 }; polarity = true }

beyond : (blocks : List Block) (k : ℕ) → length blocks ≤ k → (block_at blocks k).parent ≡ 0
beyond [] k le = refl
beyond (b ∷ bs) zero le = absurd (omega (arith, le))
beyond (b ∷ bs) (suc k) le = beyond bs k (omega (arith, le))

parent_le : (blocks : List Block) → HasLowParents blocks → (k : ℕ) → (block_at blocks k).parent ≤ k
parent_le blocks low k = elim (cases_lt k (length blocks)) [
  | inl lt ↦ low k lt
  | inr le ↦ let e = beyond blocks k le in omega (arith, e)
]

-- so many steps up are enough as lead to the root
enough : (blocks : List Block) → HasLowParents blocks → (n m k : ℕ) → k ≤ n → k ≤ m → line_up n blocks k ≡ line_up m blocks k
enough blocks low n m zero le le' = refl
enough blocks low zero m (suc k) le le' = absurd (omega (arith, le))
enough blocks low (suc n) zero (suc k) le le' = absurd (omega (arith, le'))
enough blocks low (suc n) (suc m) (suc k) le le' =
    let p = parent_le blocks low k in
    ap (λ l. suc k ∷ l) (enough blocks low n m (block_at blocks k).parent (omega (arith, p, le)) (omega (arith, p, le')))

-- what decides on a block is its condition, or decides on the block above it
decides_suc : (f : Program) → HasLowParents f.blocks → (v : ValueId) (k : ℕ)
    → decides_on f v (suc k) ≡ (is_value v (block_at f.blocks k).cond || decides_on f v (block_at f.blocks k).parent)
decides_suc f low v k =
    let parent = (block_at f.blocks k).parent in
    ap (λ l. is_value v (block_at f.blocks k).cond || list_any (is_condition f v) l) (enough f.blocks low k parent parent (parent_le f.blocks low k) (omega arith))

decides_own : (f : Program) → HasLowParents f.blocks → (v : ValueId) (k : ℕ) → is_value v (block_at f.blocks k).cond ≡ true → decides_on f v (suc k) ≡ true
decides_own f low v k h = decides_suc f low v k ∙ or_left (is_value v (block_at f.blocks k).cond) (decides_on f v (block_at f.blocks k).parent) h

decides_above : (f : Program) → HasLowParents f.blocks → (v : ValueId) (k : ℕ) → decides_on f v (block_at f.blocks k).parent ≡ true → decides_on f v (suc k) ≡ true
decides_above f low v k h = decides_suc f low v k ∙ or_right (is_value v (block_at f.blocks k).cond) (decides_on f v (block_at f.blocks k).parent) h

-- ## Marks of blocks

set_kept : (marks : List Bool) (i j : ℕ) → slice_index_or marks j false ≡ true → slice_index_or (set marks i true) j false ≡ true
set_kept [] i j h = h
set_kept (m ∷ ms) zero zero h = refl
set_kept (m ∷ ms) zero (suc j) h = h
set_kept (m ∷ ms) (suc i) zero h = h
set_kept (m ∷ ms) (suc i) (suc j) h = set_kept ms i j h

set_same : (marks : List Bool) (i : ℕ) → i < length marks → slice_index_or (set marks i true) i false ≡ true
set_same [] i h = absurd (omega arith)
set_same (m ∷ ms) zero h = refl
set_same (m ∷ ms) (suc i) h = set_same ms i (omega arith)

set_cases : (marks : List Bool) (i j : ℕ) → slice_index_or (set marks i true) j false ≡ true → (slice_index_or marks j false ≡ true) ⊎ (j ≡ i)
set_cases [] i j h = inl h
set_cases (m ∷ ms) zero zero h = inr refl
set_cases (m ∷ ms) zero (suc j) h = inl h
set_cases (m ∷ ms) (suc i) zero h = inl h
set_cases (m ∷ ms) (suc i) (suc j) h = elim (set_cases ms i j h) [ inl p ↦ inl p | inr q ↦ inr (ap suc q) ]

set_inside : (marks : List Bool) (j : ℕ) → slice_index_or marks j false ≡ true → j < length marks
set_inside [] j h = cc
set_inside (m ∷ ms) zero h = omega arith
set_inside (m ∷ ms) (suc j) h = let r = set_inside ms j h in omega arith

-- ## From block to block

-- what decides on the block of a write guards it
guards_by : (f : Program) (b : ℕ) (v : ValueId) → is_written_in f (length f.code) b ≡ true → decides_on f v b ≡ true → guards_write f v ≡ true
guards_by f b v h d =
    let found = passes_any (length f.code) (λ i. is_write (step_at f i).work && ((step_at f i).block == b)) h in
    let i = found.0 in
    let parts = and_parts (is_write (step_at f i).work) ((step_at f i).block == b) found.2 in
    let same = eqb-true (step_at f i).block b parts.1 in
    any_passes (length f.code) (λ i. is_write (step_at f i).work && decides_on f v (step_at f i).block) i found.1
    (and_from (is_write (step_at f i).work) (decides_on f v (step_at f i).block) parts.0 (ap (decides_on f v) same ∙ d))

pub from_last : (f : Program) (covering : List Bool) → ((i : ℕ) → i < length f.code → (step_at f i).block ≤ length f.blocks)
    → AreWriteBlocks f (length f.code) covering → AreGuardsFrom f (length f.blocks) covering []
from_last f covering inside writes = record {
  blocks = writes.count;
  writes = λ i lt w.
      let b = (step_at f i).block in
      writes.exact b (inside i lt)
      ∙ any_passes (length f.code) (λ i. is_write (step_at f i).work && ((step_at f i).block == b)) i lt (and_from (is_write (step_at f i).work) (b == b) w (eq-eqb b b refl));
  up = λ k le lt h. absurd (omega (arith, le, lt));
  has = λ k le lt h. absurd (omega (arith, le, lt));
  covers = λ d v h decided.
      let low : d ≤ length f.blocks = (let lt = set_inside covering d h in let count = writes.count in omega arith) in
      guards_by f d v (sym (writes.exact d low) ∙ h) decided;
  sound = λ v h. absurd (false≢true h);
  inside = λ v h. absurd (false≢true h);
}

-- one value more
among_push : (vs : List ValueId) (c v : ValueId) → is_among v (vs ++ c ∷ []) ≡ (is_among v vs || is_value v c)
among_push vs c v = list_any-append (is_value v) vs (c ∷ []) ∙ ap (λ b. is_among v vs || b) (or-false (is_value v c))

-- the condition of a block is there
named_inside : (f : Program) (k : ℕ) → k < length f.blocks → IsWellFormed f → (block_at f.blocks k).cond.instruction < length f.code
named_inside f k inside formed =
    let v = (block_at f.blocks k).cond in
    ltb-true v.instruction (length f.code) (and_first (nat_lt v.instruction (length f.code)) (nat_lt v.result (result_count f.objects (step_at f v.instruction).work)) (formed.names_conditions k inside))

lift_block : (f : Program) (k : ℕ) (block : Block) (covering : List Bool) (found : List ValueId) → HasLowParents f.blocks
    → (block_at f.blocks k).cond.instruction < length f.code → block ≡ block_at f.blocks k
    → k < length f.blocks → slice_index_or covering (suc k) false ≡ true → AreGuardsFrom f (suc k) covering found
    → AreGuardsFrom f k (set covering block.parent true) (found ++ block.cond ∷ [])
lift_block f k block covering found low named here inside h from =
    let parent_low : block.parent ≤ k = subst (λ (b : Block). b.parent ≤ k) (sym here) (low k inside) in
    let room : block.parent < length covering = (let c = from.blocks in omega arith) in
    let kept : (v : ValueId) → is_among v found ≡ true → is_among v (found ++ block.cond ∷ []) ≡ true =
    λ v m. among_push found block.cond v ∙ or_left (is_among v found) (is_value v block.cond) m in
    record {
      blocks = length-set covering block.parent true ∙ from.blocks;
      writes = λ i lt w. set_kept covering block.parent (step_at f i).block (from.writes i lt w);
      up = λ d le lt m. elim (cases_lt k d) [
        | inl less ↦ elim (set_cases covering block.parent (suc d) m) [
          | inl p ↦ set_kept covering block.parent (block_at f.blocks d).parent (from.up d (omega arith) lt p)
          | inr q ↦ absurd (omega (arith, q, parent_low, less))
        ]
        | inr ge ↦
            let is : d ≡ k = omega arith in
            let same : block_at f.blocks d ≡ block = ap (block_at f.blocks) is ∙ sym here in
            subst (λ (x : Block). slice_index_or (set covering block.parent true) x.parent false ≡ true) (sym same) (set_same covering block.parent room)
      ];
      has = λ d le lt m. elim (cases_lt k d) [
        | inl less ↦ elim (set_cases covering block.parent (suc d) m) [
          | inl p ↦ kept (block_at f.blocks d).cond (from.has d (omega arith) lt p)
          | inr q ↦ absurd (omega (arith, q, parent_low, less))
        ]
        | inr ge ↦
            let is : d ≡ k = omega arith in
            let same : block_at f.blocks d ≡ block = ap (block_at f.blocks) is ∙ sym here in
            subst (λ (x : Block). is_among x.cond (found ++ block.cond ∷ []) ≡ true) (sym same)
            (among_push found block.cond block.cond ∙ or_right (is_among block.cond found) (is_value block.cond block.cond) (same_itself block.cond))
      ];
      covers = λ d v m decided. elim (set_cases covering block.parent d m) [
        | inl p ↦ from.covers d v p decided
        | inr q ↦ from.covers (suc k) v h (decides_above f low v k (subst (λ x. decides_on f v x ≡ true) (q ∙ ap (λ (b : Block). b.parent) here) decided))
      ];
      sound = λ v m. elim (or_cases (is_among v found) (is_value v block.cond) (sym (among_push found block.cond v) ∙ m)) [
        | inl p ↦ from.sound v p
        | inr q ↦ from.covers (suc k) v h (decides_own f low v k (subst (λ (b : Block). is_value v b.cond ≡ true) here q))
      ];
      inside = λ v m. elim (or_cases (is_among v found) (is_value v block.cond) (sym (among_push found block.cond v) ∙ m)) [
        | inl p ↦ from.inside v p
        | inr q ↦
            let parts = and_parts (v.instruction == block.cond.instruction) (v.result == block.cond.result) q in
            let same : v.instruction ≡ (block_at f.blocks k).cond.instruction = eqb-true v.instruction block.cond.instruction parts.0 ∙ ap (λ (b : Block). b.cond.instruction) here in
            subst (λ n. n < length f.code) (sym same) named
      ];
    }

-- the next block hands what is known of it on
pub lifted : (f : Program) (b : ℕ) (d : Block) (covering : List Bool) (found : List ValueId) → IsWellFormed f → 0 < b → b ≤ length f.blocks
    → slice_index_or covering b false ≡ true → AreGuardsFrom f b covering found
    → AreGuardsFrom f (b - 1) (set covering (get_or f.blocks (b - 1) d).parent true) (found ++ (get_or f.blocks (b - 1) d).cond ∷ [])
lifted f zero d covering found formed some inside h from = absurd (omega (arith, some))
lifted f (suc k) d covering found formed some inside h from =
    let e : suc k - 1 ≡ k = omega arith in
    rw e (lift_block f k (get_or f.blocks k d) covering found formed.parents (named_inside f k inside formed) (get_or_default f.blocks k d no_block inside) inside h from)

beyond_out : (covering : List Bool) (k d : ℕ) → slice_index_or covering (suc k) false ≡ false → k ≤ d → slice_index_or covering (suc d) false ≡ true → suc k ≤ d
beyond_out covering k d out le m = elim (cases_lt k d) [
  | inl lt ↦ omega arith
  | inr ge ↦ let is : d ≡ k = omega arith in absurd (false≢true (sym out ∙ subst (λ n. slice_index_or covering (suc n) false ≡ true) is m))
]

-- a block that covers no write hands nothing on
pub passed : (f : Program) (b : ℕ) (covering : List Bool) (found : List ValueId) → 0 < b → slice_index_or covering b false ≡ false
    → AreGuardsFrom f b covering found → AreGuardsFrom f (b - 1) covering found
passed f zero covering found some out from = absurd (omega (arith, some))
passed f (suc k) covering found some out from =
    let e : suc k - 1 ≡ k = omega arith in
    rw e (record {
      blocks = from.blocks;
      writes = from.writes;
      up = λ d le lt m. from.up d (beyond_out covering k d out le m) lt m;
      has = λ d le lt m. from.has d (beyond_out covering k d out le m) lt m;
      covers = from.covers;
      sound = from.sound;
      inside = from.inside;
    })

-- what decides on a covering block is found
line_found : (f : Program) (covering : List Bool) (found : List ValueId) → HasLowParents f.blocks → AreGuardsFrom f 0 covering found → (v : ValueId)
    → (n b : ℕ) → b ≤ n → decides_on f v b ≡ true → slice_index_or covering b false ≡ true → is_among v found ≡ true
line_found f covering found low from v n zero le decided h = absurd (false≢true decided)
line_found f covering found low from v zero (suc k) le decided h = absurd (omega (arith, le))
line_found f covering found low from v (suc n) (suc k) le decided h =
    let inside : k < length f.blocks = (let m = set_inside covering (suc k) h in let c = from.blocks in omega arith) in
    let parent = (block_at f.blocks k).parent in
    let p = parent_le f.blocks low k in
    elim (or_cases (is_value v (block_at f.blocks k).cond) (decides_on f v parent) (sym (decides_suc f low v k) ∙ decided)) [
      | inl e ↦ subst (λ w. is_among w found ≡ true) (sym (value_same v (block_at f.blocks k).cond e)) (from.has k (omega arith) inside h)
      | inr above ↦ line_found f covering found low from v n parent (omega (arith, p, le)) above (from.up k (omega arith) inside h)
    ]

guard_found : (f : Program) (covering : List Bool) (found : List ValueId) → HasLowParents f.blocks → AreGuardsFrom f 0 covering found → (v : ValueId)
    → guards_write f v ≡ true → is_among v found ≡ true
guard_found f covering found low from v h =
    let some = passes_any (length f.code) (λ i. is_write (step_at f i).work && decides_on f v (step_at f i).block) h in
    let i = some.0 in
    let parts = and_parts (is_write (step_at f i).work) (decides_on f v (step_at f i).block) some.2 in
    line_found f covering found low from v (step_at f i).block (step_at f i).block (omega arith) parts.1 (from.writes i some.1 parts.0)

pub all_found : (f : Program) (covering : List Bool) (found : List ValueId) → HasLowParents f.blocks → AreGuardsFrom f 0 covering found → (v : ValueId)
    → is_among v found ≡ guards_write f v
all_found f covering found low from v = same_tests (is_among v found) (guards_write f v) (from.sound v) (guard_found f covering found low from v)
