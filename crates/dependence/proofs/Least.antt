-- Depths are the least stages that a pass may have.
use Rattle.std.proofs.Common.{◌≡◌, ℕ, zero, suc, ◌-◌, ◌<◌, ◌≤◌, Bool, true, false, List, [], ◌∷◌, inl, inr, refl, sym, ap, ◌∙◌, subst, arith}
use Rattle.std.specs.Prelude.{slice_index, slice_index_or, if◌then◌else◌}
use Rattle.std.proofs.lemmas.Option.{slice_get_cases}
use Rattle.std.proofs.lemmas.List.{get_or_past}
use Rattle.std.proofs.lemmas.Bool.{cases_Bool}
use Rattle.flat_ir.specs.declared.program.ValueId.{ValueId}
use Rattle.flat_ir.specs.Program.{Program, Step, Work, operands}
use Rattle.flat_ir.specs.Program.Work.{const, field}
use Rattle.flat_ir.specs.Kinds.{is_input}
use Rattle.flat_ir.specs.Sets.{Reads, IsMarked}
use Rattle.flat_ir.specs.Stages.{deepest, depth_of, IsDepths, IsStaged}
use Rattle.dependence.specs.Placed.{IsPlaced}
use Rattle.dependence.proofs.MarkedPlaces.{mark_cases}

given_reads : (work : Work) (j : ℕ) → is_input work ≡ true → Reads (operands work) j → ⊥
given_reads (const width number) j h r = r
given_reads (field name) j h r = r
given_reads _ j h r = cc

if_true : (b : Bool) (n : ℕ) → b ≡ true → (if b then n else 0) ≡ n
if_true true n h = refl
if_true false n h = cc

if_under : (b : Bool) (n top : ℕ) → (b ≡ true → n ≤ top) → (if b then n else 0) ≤ top
if_under true n top h = h refl
if_under false n top h = omega arith

-- each read member is as deep at most
member_under : (members : List Bool) (depths : List ℕ) (vs : List ValueId) (j : ℕ) → Reads vs j → IsMarked members j → slice_index depths j ≤ deepest members depths vs
member_under members depths [] j r m = absurd r
member_under members depths (v ∷ vs) j (inl e) m =
    let t : slice_index_or members v.instruction false ≡ true = subst (IsMarked members) (sym e) m in
    let w = if_true (slice_index_or members v.instruction false) (slice_index depths v.instruction) t in
    let x = ap (λ n. slice_index depths n) e in
    omega arith
member_under members depths (v ∷ vs) j (inr r) m = let h = member_under members depths vs j r m in omega arith

-- and nothing else is deeper
deepest_under : (members : List Bool) (depths : List ℕ) (top : ℕ) (vs : List ValueId) → ((j : ℕ) → Reads vs j → IsMarked members j → slice_index depths j ≤ top)
    → deepest members depths vs ≤ top
deepest_under members depths top [] h = omega arith
deepest_under members depths top (v ∷ vs) h =
    let r = deepest_under members depths top vs (λ j q m. h j (inr q) m) in
    let x = if_under (slice_index_or members v.instruction false) (slice_index depths v.instruction) top (λ t. h v.instruction (inl refl) t) in
    omega arith

depth_given : (members : List Bool) (depths : List ℕ) (one : Step) → is_input one.work ≡ true → depth_of members depths one ≡ 0
depth_given members depths one h = rw h refl

depth_other : (members : List Bool) (depths : List ℕ) (one : Step) → is_input one.work ≡ false → depth_of members depths one ≡ suc (deepest members depths (operands one.work))
depth_other members depths one h = rw h refl

pub depths_staged : (f : Program) (members : List Bool) (depths : List ℕ) → IsPlaced f → IsDepths f members depths → IsStaged f members depths
depths_staged f members depths good are = record {
  given = λ i one m at g. are.depth i one m at ∙ depth_given members depths one g;
  later = λ i one m at g. let e = are.depth i one m at ∙ depth_other members depths one g in omega arith;
  rising = λ i j one m at r n. elim (cases_Bool (is_input one.work)) [
    | inl t ↦ absurd (given_reads one.work j t r)
    | inr t ↦
        let e = are.depth i one m at ∙ depth_other members depths one t in
        let u = member_under members depths (operands one.work) j r n in
        omega arith
  ];
}

least_at : (f : Program) (members : List Bool) (depths stages : List ℕ) → IsPlaced f → IsDepths f members depths → IsStaged f members stages
    → (i : ℕ) → ((j : ℕ) → j < i → slice_index depths j ≤ slice_index stages j) → slice_index depths i ≤ slice_index stages i
least_at f members depths stages good are staged i before = elim (mark_cases members i) [
  | inr out ↦ let z = are.others i out in omega arith
  | inl m ↦ elim (slice_get_cases f.code i).1 [
    | inr past ↦ let z = get_or_past depths i 0 (let c = are.count in let p = past.0 in omega arith) in omega arith
    | inl found ↦
        let one = found.0 in
        let at = found.2 in
        elim (cases_Bool (is_input one.work)) [
          | inl t ↦ let e = are.depth i one m at ∙ depth_given members depths one t in omega arith
          | inr t ↦
              let e = are.depth i one m at ∙ depth_other members depths one t in
              let l = staged.later i one m at t in
              let u = deepest_under members depths (slice_index stages i - 1) (operands one.work)
              (λ j r n. let b = before j (good.operands i j one at r) in let s = staged.rising i j one m at r n in omega arith) in
              omega arith
        ]
  ]
]

least_below : (f : Program) (members : List Bool) (depths stages : List ℕ) → IsPlaced f → IsDepths f members depths → IsStaged f members stages
    → (n i : ℕ) → i < n → slice_index depths i ≤ slice_index stages i
least_below f members depths stages good are staged zero i l = absurd (omega arith)
least_below f members depths stages good are staged (suc n) i l =
    least_at f members depths stages good are staged i (λ j h. least_below f members depths stages good are staged n j (omega arith))

pub depths_least : (f : Program) (members : List Bool) (depths stages : List ℕ) → IsPlaced f → IsDepths f members depths → IsStaged f members stages
    → (i : ℕ) → slice_index depths i ≤ slice_index stages i
depths_least f members depths stages good are staged i = least_below f members depths stages good are staged (suc i) i (omega arith)
