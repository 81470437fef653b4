-- Depths, found in rising order.
use Rattle.std.proofs.Common.{◌≡◌, ℕ, suc, ◌+◌, ◌<◌, ◌≤◌, Bool, false, List, [], ◌∷◌, ◌++◌, inl, inr, refl, sym, ap, ◌∙◌, subst, arith, length}
use Rattle.std.specs.Prelude.{slice_get, slice_index, slice_index_or, if◌then◌else◌}
use Rattle.std.proofs.lemmas.Option.{same_Some, slice_get_within}
use Rattle.std.proofs.lemmas.List.{length_push, get_or_append_left, get_or_push, get_or_past}
use Rattle.std.proofs.lemmas.Bool.{cases_lt, cases_Bool}
use Rattle.flat_ir.specs.declared.program.ValueId.{ValueId}
use Rattle.flat_ir.specs.Program.{Program, Step, operands}
use Rattle.flat_ir.specs.Kinds.{is_input}
use Rattle.flat_ir.specs.Sets.{Reads, IsMarked, IsAt}
use Rattle.flat_ir.specs.Stages.{deepest, depth_of, IsDepths}
use Rattle.dependence.specs.Placed.{IsPlaced}
use Rattle.lemmas.proofs.Tests.{if_within}

pub deepest_low : (members : List Bool) (depths : List ℕ) (top : ℕ) (vs : List ValueId) → ((j : ℕ) → slice_index depths j ≤ top) → deepest members depths vs ≤ top
deepest_low members depths top [] l = omega arith
deepest_low members depths top (v ∷ vs) l =
    let r = deepest_low members depths top vs l in
    let h = if_within (slice_index_or members v.instruction false) (slice_index depths v.instruction) top (l v.instruction) in
    omega arith

pub deepest_push : (members : List Bool) (depths : List ℕ) (n : ℕ) (vs : List ValueId) → ((j : ℕ) → Reads vs j → j < length depths)
    → deepest members (depths ++ n ∷ []) vs ≡ deepest members depths vs
deepest_push members depths n [] l = refl
deepest_push members depths n (v ∷ vs) l =
    let r = deepest_push members depths n vs (λ j q. l j (inr q)) in
    let e : slice_index (depths ++ n ∷ []) v.instruction ≡ slice_index depths v.instruction = get_or_append_left depths (n ∷ []) 0 v.instruction (l v.instruction (inl refl)) in
    rw (e, r) refl

depth_kept : (b : Bool) (m n : ℕ) → m ≡ n → (if b then 0 else suc m) ≡ (if b then 0 else suc n)
depth_kept b m n e = ap (λ x. if b then 0 else suc x) e

-- the depths of the first i instructions
pub record IsDepthsSoFar (f : Program) (members : List Bool) (i : ℕ) (depths : List ℕ) : Type 0 where
  pub count : length depths ≡ i
  pub others : (j : ℕ) → j < i → slice_index_or members j false ≡ false → slice_index depths j ≡ 0
  pub depth : (j : ℕ) (one : Step) → j < i → IsMarked members j → IsAt f j one → slice_index depths j ≡ depth_of members depths one
  pub low : (j : ℕ) → slice_index depths j ≤ i

pub depth_low : (members : List Bool) (depths : List ℕ) (top : ℕ) (one : Step) → ((j : ℕ) → slice_index depths j ≤ top) → depth_of members depths one ≤ top + 1
depth_low members depths top one l =
    let d = deepest_low members depths top (operands one.work) l in
    elim (cases_Bool (is_input one.work)) [ inl t ↦ rw t (omega arith) | inr t ↦ rw t (omega arith) ]

pub depths_more : (f : Program) (members : List Bool) (i : ℕ) (one : Step) (depths : List ℕ) (depth : ℕ) → IsPlaced f → IsAt f i one
    → depth ≡ (if slice_index_or members i false then depth_of members depths one else 0)
    → IsDepthsSoFar f members i depths → IsDepthsSoFar f members (i + 1) (depths ++ depth ∷ [])
depths_more f members i one depths depth good here is so =
    let small : depth ≤ i + 1 = rw is (if_within (slice_index_or members i false) (depth_of members depths one) (i + 1) (depth_low members depths i one so.low)) in
    let last : slice_index (depths ++ depth ∷ []) i ≡ depth = get_or_push depths depth 0 i so.count in
    let before : (j : ℕ) → j < i → slice_index (depths ++ depth ∷ []) j ≡ slice_index depths j = λ j l. get_or_append_left depths (depth ∷ []) 0 j (let c = so.count in omega arith) in
    let kept : (j : ℕ) (other : Step) → j ≤ i → IsAt f j other → depth_of members (depths ++ depth ∷ []) other ≡ depth_of members depths other =
    λ j other l at. depth_kept (is_input other.work) _ _ (deepest_push members depths depth (operands other.work)
    (λ q r. let o = good.operands j q other at r in let c = so.count in omega arith)) in
    record {
      count = length_push depths depth ∙ ap (λ n. n + 1) so.count;
      others = λ j l out. elim (cases_lt j i) [
        | inl lt ↦ before j lt ∙ so.others j lt out
        | inr ge ↦
            let e : i ≡ j = omega arith in
            subst (λ x. slice_index (depths ++ depth ∷ []) x ≡ 0) e (last ∙ is ∙ rw (subst (λ x. slice_index_or members x false ≡ false) (sym e) out) refl)
      ];
      depth = λ j other l marked at. elim (cases_lt j i) [
        | inl lt ↦ before j lt ∙ so.depth j other lt marked at ∙ sym (kept j other (omega arith) at)
        | inr ge ↦
            let e : i ≡ j = omega arith in
            let same : one ≡ other = same_Some one other (sym here ∙ ap (λ n. slice_get f.code n) e ∙ at) in
            let m : IsMarked members i = subst (IsMarked members) (sym e) marked in
            ap (λ n. slice_index (depths ++ depth ∷ []) n) (sym e) ∙ last ∙ is ∙ rw m refl ∙ ap (λ x. depth_of members depths x) same
            ∙ sym (kept j other (omega arith) at)
      ];
      low = λ j. elim (cases_lt j i) [
        | inl lt ↦ let b = before j lt in let s = so.low j in omega arith
        | inr ge ↦ elim (cases_lt i j) [
          | inl past ↦ let p = get_or_past (depths ++ depth ∷ []) j 0 (let c = so.count in let q = length_push depths depth in omega arith) in omega arith
          | inr le ↦ let e : i ≡ j = omega arith in subst (λ x. slice_index (depths ++ depth ∷ []) x ≤ i + 1) e (rw last small)
        ]
      ];
    }

pub depths_none : (f : Program) (members : List Bool) → IsDepthsSoFar f members 0 []
depths_none f members = record {
  count = refl;
  others = λ j l out. absurd (omega arith);
  depth = λ j one l marked at. absurd (omega arith);
  low = λ j. omega arith;
}

pub depths_done : (f : Program) (members : List Bool) (depths : List ℕ) → IsDepthsSoFar f members (length f.code) depths → IsDepths f members depths
depths_done f members depths so = record {
  count = so.count;
  others = λ i out. elim (cases_lt i (length f.code)) [
    | inl lt ↦ so.others i lt out
    | inr ge ↦ get_or_past depths i 0 (let c = so.count in omega arith)
  ];
  depth = λ i one marked at. so.depth i one (slice_get_within f.code i one at) marked at;
}
