-- Every program has each of the sets, and depths.
use Rattle.std.proofs.Common.{◌≡◌, ℕ, zero, suc, ◌+◌, ◌<◌, ◌≤◌, Bool, true, false, ◌&&◌, List, [], ◌∷◌, ◌++◌, inl, inr, refl, sym, ap, subst, arith, length, set, replicate, add-one}
use Rattle.std.specs.Prelude.{slice_index_or, nat_lt, not, ◌==◌, if◌then◌else◌}
use Rattle.std.specs.List.{list_any}
use Rattle.std.proofs.lemmas.Bool.{cases_Bool, or_cases, or_left, or_right, and_parts, eq-eqb, eqb-true, false≢true, and_from as true_and, and_parts as and_true}
use Rattle.std.proofs.lemmas.Option.{slice_get-get_or}
use Rattle.flat_ir.specs.declared.program.ValueId.{ValueId}
use Rattle.flat_ir.specs.Program.{Program, const, step_at, any_below, is_value, operands}
use Rattle.flat_ir.specs.Blocks.{line_up, line, block_at}
use Rattle.flat_ir.specs.Guards.{is_condition}
use Rattle.flat_ir.specs.Kinds.{needed, fits_switch, is_mutable_look, is_write}
use Rattle.flat_ir.specs.Sets.{IsMarked, IsAt, IsPreClosed, IsCarriedClosed, IsPostClosed, IsGreatest}
use Rattle.flat_ir.specs.Stages.{IsDepths, depth_of}
use Rattle.dependence.specs.Placed.{IsPlaced}
use Rattle.dependence.specs.Marked.{are_marked}
use Rattle.dependence.specs.Guards.{AreGuards}
use Rattle.dependence.specs.Uses.{AreUses}
use Rattle.dependence.specs.Noted.{noted_all, AreUsesSoFar}
use Rattle.dependence.specs.Posted.{IsPostFrom}
use Rattle.dependence.proofs.PreSets.{IsSoFar, PreMay, CarriedMay, needed_of, operands_of, none_so_far, pre_more, carried_more, pre_done, carried_done}
use Rattle.dependence.proofs.Deep.{IsDepthsSoFar, depths_none, depths_more, depths_done}
use Rattle.dependence.proofs.UserLists.{no_users, more_users, all_users}
use Rattle.dependence.proofs.PostSets.{may, enters, take_one, leave_out, post_from_end, post_found}
use Rattle.flat_ir.proofs.Exact.{same_itself}
use Rattle.flat_ir.proofs.AnyBelow.{any_passes, passes_any}

-- ## Step by step

-- what is there at 0 and goes on by one below n is there at n
upwards : {X : Type 0} (P : ℕ → X → Type 0) (n : ℕ) → (x : X) × P 0 x
    → ((i : ℕ) (x : X) → i < n → P i x → (y : X) × P (i + 1) y) → (m : ℕ) → m ≤ n → (x : X) × P m x
upwards P n first next zero le = first
upwards {X} P n first next (suc m) le =
    let here : (x : X) × P m x = upwards P n first next m (omega arith) in
    let there : (y : X) × P (m + 1) y = next m here.0 (omega arith) here.1 in
    (there.0, rw add-one at there.1)

-- what is there at n and goes back by one is there at 0
downwards : {X : Type 0} (P : ℕ → X → Type 0) (n : ℕ) → ((i : ℕ) (x : X) → i < n → P (i + 1) x → (y : X) × P i y)
    → (m : ℕ) → m ≤ n → (x : X) → P m x → (y : X) × P 0 y
downwards P n back zero le x h = (x, h)
downwards {X} P n back (suc m) le x h =
    let next : P (m + 1) x = rw add-one h in
    let here : (y : X) × P m y = back m x (omega arith) next in
    downwards P n back m (omega arith) here.0 here.1

pub at_here : (f : Program) (i : ℕ) → i < length f.code → IsAt f i (step_at f i)
at_here f i within = slice_get-get_or f.code i (record { block = 0; looped = false; work = const 1 0 }) within

-- ## Preprocessing and what is carried

pub pre_present : (f : Program) (k : ℕ) → IsPlaced f → (pre : List Bool) × IsGreatest f (IsPreClosed f k) pre
pre_present f k good =
    let found : (pre : List Bool) × IsSoFar f (PreMay f k) needed_of (length f.code) pre =
    upwards (IsSoFar f (PreMay f k) needed_of) (length f.code) ([], none_so_far f (PreMay f k) needed_of)
    (λ i pre within so.
    let one = step_at f i in
    let mark : Bool = nat_lt i k && (fits_switch one && are_marked pre (needed one.work)) in
    (pre ++ mark ∷ [], pre_more f k i one pre mark good (at_here f i within) refl so))
    (length f.code) (omega arith) in
    (found.0, pre_done f k found.0 found.1)

pub carried_present : (f : Program) (pre : List Bool) → IsPlaced f → (carried : List Bool) × IsGreatest f (IsCarriedClosed f pre) carried
carried_present f pre good =
    let found : (carried : List Bool) × IsSoFar f (CarriedMay f pre) operands_of (length f.code) carried =
    upwards (IsSoFar f (CarriedMay f pre) operands_of) (length f.code) ([], none_so_far f (CarriedMay f pre) operands_of)
    (λ i carried within so.
    let one = step_at f i in
    let mark : Bool = slice_index_or pre i false && (not (is_mutable_look f one.work) && are_marked carried (operands one.work)) in
    (carried ++ mark ∷ [], carried_more f i one pre carried mark good (at_here f i within) refl so))
    (length f.code) (omega arith) in
    (found.0, carried_done f pre found.0 found.1)

-- ## Depths

pub depths_present : (f : Program) (members : List Bool) → IsPlaced f → (depths : List ℕ) × IsDepths f members depths
depths_present f members good =
    let found : (depths : List ℕ) × IsDepthsSoFar f members (length f.code) depths =
    upwards (IsDepthsSoFar f members) (length f.code) ([], depths_none f members)
    (λ i depths within so.
    let one = step_at f i in
    let depth : ℕ = if slice_index_or members i false then depth_of members depths one else 0 in
    (depths ++ depth ∷ [], depths_more f members i one depths depth good (at_here f i within) refl so))
    (length f.code) (omega arith) in
    (found.0, depths_done f members found.0 found.1)

-- ## Uses

uses_present : (f : Program) → (uses : List (List ℕ)) × AreUses f uses
uses_present f =
    let found : (uses : List (List ℕ)) × AreUsesSoFar f (length f.code) uses =
    upwards (AreUsesSoFar f) (length f.code) (replicate (length f.code) [], no_users f)
    (λ i uses within so. (noted_all uses i (operands (step_at f i).work), more_users f i uses so))
    (length f.code) (omega arith) in
    (found.0, all_users f (length f.code) found.0 refl found.1)

-- ## Guards of writes

-- a mark for each number below n: whether it passes the test
listed : ℕ → (ℕ → Bool) → List Bool
listed zero test = []
listed (suc n) test = test 0 ∷ listed n (λ i. test (suc i))

length_listed : (n : ℕ) (test : ℕ → Bool) → length (listed n test) ≡ n
unfolding listed
length_listed zero test = refl
length_listed (suc n) test = ap suc (length_listed n (λ i. test (suc i)))

listed_true : (n : ℕ) (test : ℕ → Bool) (i : ℕ) → IsMarked (listed n test) i → test i ≡ true
unfolding listed
listed_true zero test i m = cc
listed_true (suc n) test zero m = m
listed_true (suc n) test (suc i) m = listed_true n (λ j. test (suc j)) i m

true_listed : (n : ℕ) (test : ℕ → Bool) (i : ℕ) → i < n → test i ≡ true → IsMarked (listed n test) i
unfolding listed
true_listed zero test i l h = absurd (omega arith)
true_listed (suc n) test zero l h = h
true_listed (suc n) test (suc i) l h = true_listed n (λ j. test (suc j)) i (omega arith) h

-- the block's condition is a result of instruction j
abbrev is_condition_of : Program → ℕ → ℕ → Bool
is_condition_of f j zero = false
is_condition_of f j (suc k) = (block_at f.blocks k).cond.instruction == j

-- a result of it decides whether a write takes effect
abbrev guards_of : Program → ℕ → Bool
guards_of f j =
    any_below (length f.code) (λ i. is_write (step_at f i).work && list_any (is_condition_of f j) (line f.blocks (step_at f i).block))

same_instruction : (v w : ValueId) → is_value v w ≡ true → v.instruction ≡ w.instruction
same_instruction v w h = eqb-true v.instruction w.instruction (and_parts (v.instruction == w.instruction) (v.result == w.result) h).0

-- a condition among those of some blocks
condition_there : (f : Program) (j : ℕ) (ks : List ℕ) → list_any (is_condition_of f j) ks ≡ true
    → (v : ValueId) × (v.instruction ≡ j) × (list_any (is_condition f v) ks ≡ true)
condition_there f j [] h = absurd (false≢true h)
condition_there f j (zero ∷ ks) h = condition_there f j ks h
condition_there f j (suc k ∷ ks) h =
    let c : ValueId = (block_at f.blocks k).cond in
    elim (or_cases (c.instruction == j) (list_any (is_condition_of f j) ks) h) [
      | inl e ↦ (c, eqb-true c.instruction j e, or_left (is_value c c) (list_any (is_condition f c) ks) (same_itself c))
      | inr r ↦ (let v = condition_there f j ks r in (v.0, v.1, or_right (is_condition f v.0 (suc k)) (list_any (is_condition f v.0) ks) v.2))
    ]

there_condition : (f : Program) (v : ValueId) (ks : List ℕ) → list_any (is_condition f v) ks ≡ true
    → list_any (is_condition_of f v.instruction) ks ≡ true
there_condition f v [] h = absurd (false≢true h)
there_condition f v (zero ∷ ks) h = there_condition f v ks h
there_condition f v (suc k ∷ ks) h =
    let c : ValueId = (block_at f.blocks k).cond in
    elim (or_cases (is_value v c) (list_any (is_condition f v) ks) h) [
      | inl e ↦ or_left (c.instruction == v.instruction) (list_any (is_condition_of f v.instruction) ks) (eq-eqb c.instruction v.instruction (sym (same_instruction v c e)))
      | inr r ↦ or_right (c.instruction == v.instruction) (list_any (is_condition_of f v.instruction) ks) (there_condition f v ks r)
    ]

-- the condition of a block, or of one above it, is there
inside : (f : Program) (v : ValueId) → IsPlaced f → (n b : ℕ) → b ≤ length f.blocks → list_any (is_condition f v) (line_up n f.blocks b) ≡ true
    → v.instruction < length f.code
inside f v good zero zero le h = absurd (false≢true h)
inside f v good (suc n) zero le h = absurd (false≢true h)
inside f v good zero (suc k) le h =
    let c : ValueId = (block_at f.blocks k).cond in
    elim (or_cases (is_value v c) false h) [
      | inl e ↦ (let s = same_instruction v c e in let w = good.conditions k (omega arith) in omega (arith, s, w))
      | inr r ↦ absurd (false≢true r)
    ]
inside f v good (suc n) (suc k) le h =
    let c : ValueId = (block_at f.blocks k).cond in
    let parent = (block_at f.blocks k).parent in
    elim (or_cases (is_value v c) (list_any (is_condition f v) (line_up n f.blocks parent)) h) [
      | inl e ↦ (let s = same_instruction v c e in let w = good.conditions k (omega arith) in omega (arith, s, w))
      | inr r ↦ inside f v good n parent (let p = good.parents k (omega arith) in omega (arith, p, le)) r
    ]

guards_present : (f : Program) → IsPlaced f → (guards : List Bool) × AreGuards f guards
guards_present f good =
    let marks : List Bool = listed (length f.code) (guards_of f) in (
      marks,
      record {
        count = length_listed (length f.code) (guards_of f);
        sound = λ j m.
            let p = passes_any (length f.code) _ (listed_true (length f.code) (guards_of f) j m) in
            let both = and_true _ _ p.2 in
            let v = condition_there f j (line f.blocks (step_at f p.0).block) both.1 in
            record { value = v.0; own = v.1; guards = any_passes (length f.code) _ p.0 p.1 (true_and _ _ both.0 v.2) };
        complete = λ j g.
            let p = passes_any (length f.code) _ g.guards in
            let both = and_true _ _ p.2 in
            let own = line f.blocks (step_at f p.0).block in
            let low = good.blocks p.0 (step_at f p.0) (at_here f p.0 p.1) in
            let within = inside f g.value good (step_at f p.0).block (step_at f p.0).block low both.1 in
            subst (IsMarked marks) g.own
            (true_listed (length f.code) (guards_of f) g.value.instruction within
            (any_passes (length f.code) _ p.0 p.1 (true_and _ _ both.0 (there_condition f g.value own both.1))));
      },
    )

-- ## Postprocessing

pub post_present : (f : Program) (carried : List Bool) → IsPlaced f → (post : List Bool) × IsGreatest f (IsPostClosed f carried) post
post_present f carried good =
    let uses = uses_present f in
    let guards = guards_present f good in
    let found : (post : List Bool) × IsPostFrom f carried 0 post =
    downwards (IsPostFrom f carried) (length f.code)
    (λ i post within from.
    let one = step_at f i in
    let fits : Bool = may f one in
    let goes : Bool = enters uses.0 guards.0 carried post i in
    elim (cases_Bool (fits && goes)) [
      | inl t ↦ (let both = and_true fits goes t in (set post i true, take_one f uses.0 guards.0 carried i one post uses.1 guards.1 (at_here f i within) both.0 both.1 from))
      | inr n ↦ (post, leave_out f uses.0 guards.0 carried i one post good uses.1 guards.1 (at_here f i within) n from)
    ])
    (length f.code) (omega arith) (replicate (length f.code) false) (post_from_end f carried) in
    (found.0, post_found f carried found.0 found.1)
