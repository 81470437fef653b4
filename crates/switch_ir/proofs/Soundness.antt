-- What is emitted can be run.
use Rattle.std.proofs.Common.{◌≡◌, ℕ, zero, suc, ◌+◌, ◌==◌, ◌<◌, ◌≤◌, Bool, true, false, not, ◌&&◌, List, [], ◌∷◌, ◌++◌, length, map, Option, Some, None, refl, ap, subst, arith, slice_get, if◌then◌else◌}
use Rattle.std.proofs.lemmas.Bool.{eqb-true}
use Rattle.std.proofs.lemmas.List.Kept.{AllPairs-cons}
use Rattle.std.specs.List.{AllByRecursion as Each, All, AllPairs, filter}
use Rattle.state_store.specs.declared.object.ObjectDecl.{ObjectDecl}
use Rattle.state_store.specs.Store.{start_object, start_store, object_at}
use Rattle.flat_ir.specs.declared.program.ValueId.{ValueId}
use Rattle.flat_ir.specs.Operands.{CanRun}
use Rattle.flat_ir.specs.Program.{Program, step_at}
use Rattle.flat_ir.specs.WellFormed.{IsWellFormed}
use Rattle.split_model.specs.declared.split.Part.{Part}
use Rattle.split_model.specs.Layouts.{crossing, number_of}
use Rattle.split_model.specs.declared.layout.Crossing.{Crossing}
use Rattle.split_model.specs.Split.{is_pre}
use Rattle.switch_ir.specs.declared.code.Table.{Table}
use Rattle.switch_ir.specs.Emitted.{placed, steps_below, is_among, rest_below, is_looked_up, tables_from, AllRun}
use Rattle.switch_ir.specs.Sound.{CanStep}
use Rattle.switch_ir.specs.Tables.{declared_at}
use Rattle.lemmas.proofs.Lists.{each_all, each_append, each_filter, each_map, each_or, each_weaker}

-- the values of a layout pass its test, and have their numbers
pub crossing_among : (f : Program) (test : ValueId → Bool) (vs : List ValueId) → Each (λ (c : Crossing). (test c.value ≡ true) × (c.number ≡ number_of f c.value)) (map (crossing f) (filter test vs))
crossing_among f test vs =
    each_map (λ (c : Crossing). (test c.value ≡ true) × (c.number ≡ number_of f c.value)) (crossing f) (filter test vs)
    (each_filter (λ v. (test v ≡ true) × (number_of f v ≡ number_of f v)) test vs (each_all (λ v. test v ≡ true → (test v ≡ true) × (number_of f v ≡ number_of f v)) (λ v own. (own, refl)) vs))

-- ## Instructions

one_can : (f : Program) (n : ℕ) (o : Option ℕ) → CanRun (step_at f n).work → Each CanStep (placed f n o)
one_can f n None can = tt
one_can f n (Some t) can = (can, tt)

pub steps_can : (f : Program) (stage : ℕ → Option ℕ) (n : ℕ) → AllRun f → n ≤ length f.code → Each CanStep (steps_below f stage n)
steps_can f stage zero can le = tt
steps_can f stage (suc n) can le =
    each_append CanStep (steps_below f stage n) (placed f n (stage n)) (steps_can f stage n can (omega (arith, le)))
    (one_can f n (stage n) (can n le))

-- ## Blocks

abbrev pub IsBlock : Program → ℕ → Type 0
IsBlock f b = b ≤ length f.blocks

pub rest_there : (f : Program) (split : List Part) → IsWellFormed f → (n : ℕ) → n ≤ length f.code → Each (IsBlock f) (rest_below f split n)
rest_there f split well zero le = tt
rest_there f split well (suc n) le =
    by_test (not (is_pre split n) && not (is_among (step_at f n).block (rest_below f split n))) (rest_there f split well n (omega (arith, le)))
  where
    by_test : (b : Bool) → Each (IsBlock f) (rest_below f split n)
        → Each (IsBlock f) (if b then rest_below f split n ++ (step_at f n).block ∷ [] else rest_below f split n)
    by_test true before = each_append (IsBlock f) (rest_below f split n) ((step_at f n).block ∷ []) before (well.blocks n le, tt)
    by_test false before = before

-- ## Tables

abbrev IsFrom : ℕ → Table → Type 0
IsFrom o t = o ≤ t.number

abbrev one_if : Bool → ℕ → ObjectDecl → List Table
one_if b o d = if b then record { number = o; object = d } ∷ [] else []

from_o : (f : Program) (split : List Part) (o : ℕ) (ds : List ObjectDecl) → Each (IsFrom o) (tables_from f split o ds)
from_o f split o [] = tt
from_o f split o (d ∷ ds) =
    by_test (is_looked_up f split o)
    (each_weaker (IsFrom (suc o)) (IsFrom o) (λ t le. omega (arith, le)) (tables_from f split (suc o) ds) (from_o f split (suc o) ds))
  where
    by_test : (b : Bool) → Each (IsFrom o) (tables_from f split (suc o) ds) → Each (IsFrom o) (one_if b o d ++ tables_from f split (suc o) ds)
    by_test true later = (omega arith, later)
    by_test false later = later

abbrev Rise : List Table → Type 0
Rise = AllPairs (λ (a b : Table). a.number < b.number)

pub tables_rise : (f : Program) (split : List Part) (o : ℕ) (ds : List ObjectDecl) → Rise (tables_from f split o ds)
tables_rise f split o [] = λ i j d lt within. absurd (omega (arith, within))
tables_rise f split o (d ∷ ds) = by_test (is_looked_up f split o) (tables_rise f split (suc o) ds)
  where
    by_test : (b : Bool) → Rise (tables_from f split (suc o) ds) → Rise (one_if b o d ++ tables_from f split (suc o) ds)
    by_test true later =
        AllPairs-cons (λ (a b : Table). a.number < b.number) (record { number = o; object = d }) (tables_from f split (suc o) ds)
        (λ k x lt. each_or (IsFrom (suc o)) (tables_from f split (suc o) ds) k x (from_o f split (suc o) ds) lt) later
    by_test false later = later

-- what is declared for a table is declared in the program
abbrev pub IsPlaced : ℕ → List ObjectDecl → ℕ → ObjectDecl → Type 0
IsPlaced o ds n d = (k : ℕ) × (n ≡ o + k) × (slice_get ds k ≡ Some d)

pub declared_among : (f : Program) (split : List Part) (o : ℕ) (ds : List ObjectDecl) (n : ℕ) (d : ObjectDecl)
    → declared_at (tables_from f split o ds) n ≡ Some d → IsPlaced o ds n d
declared_among f split o [] n d e = cc
declared_among f split o (x ∷ xs) n d e = by_test (is_looked_up f split o) (declared_among f split (suc o) xs n d) e
  where
    later : IsPlaced (suc o) xs n d → IsPlaced o (x ∷ xs) n d
    later found = (suc found.0, omega (arith, found.1), found.2)

    by_number : (b : Bool) → o == n ≡ b → (declared_at (tables_from f split (suc o) xs) n ≡ Some d → IsPlaced (suc o) xs n d)
        → (if b then Some x else declared_at (tables_from f split (suc o) xs) n) ≡ Some d → IsPlaced o (x ∷ xs) n d
    by_number true same more e = (0, omega (arith, eqb-true o n same), e)
    by_number false other more e = later (more e)

    by_test : (b : Bool) → (declared_at (tables_from f split (suc o) xs) n ≡ Some d → IsPlaced (suc o) xs n d)
        → declared_at (one_if b o x ++ tables_from f split (suc o) xs) n ≡ Some d → IsPlaced o (x ∷ xs) n d
    by_test true more e = by_number (o == n) refl more e
    by_test false more e = later (more e)

pub starts : (ds : List ObjectDecl) (k : ℕ) (d : ObjectDecl) → slice_get ds k ≡ Some d → object_at (start_store ds) k ≡ start_object d
starts [] k d e = cc
starts (x ∷ xs) zero d e = let same : x ≡ d = cc in ap start_object same
starts (x ∷ xs) (suc k) d e = starts xs k d e

pub all_at : (P : ObjectDecl → Type 0) (ds : List ObjectDecl) (k : ℕ) (d : ObjectDecl) → All P ds → slice_get ds k ≡ Some d → P d
all_at P [] k d all e = cc
all_at P (x ∷ xs) zero d all e = let same : x ≡ d = cc in subst P same (all 0 x (omega arith))
all_at P (x ∷ xs) (suc k) d all e = all_at P xs k d (λ j c lt. all (suc j) c (omega (arith, lt))) e
