-- Two greatest splits of one kind are equal, and none has more than one on all instructions.
use Rattle.std.proofs.Common.{◌≡◌, ℕ, ◌<◌, Bool, true, false, List, [], ◌∷◌, Option, Some, None, inl, inr, refl, sym, ap, ◌∙◌, subst, arith, length, get_or, is_some}
use Rattle.std.specs.List.{list_all}
use Rattle.std.proofs.lemmas.List.{same_lists, get_or_default, length-map}
use Rattle.std.proofs.lemmas.Bool.{cases_Bool}
use Rattle.flat_ir.specs.declared.program.ValueId.{ValueId}
use Rattle.flat_ir.specs.Program.{Program, Step, step_at}
use Rattle.flat_ir.specs.Kinds.{needed, fits_switch}
use Rattle.flat_ir.specs.WellFormed.{IsWellFormed}
use Rattle.flat_ir.specs.Sets.{IsMarked, Reads, IsWithin, IsGreatest, IsPreClosed, IsCarriedClosed, IsPostClosed}
use Rattle.flat_ir.specs.Stages.{IsDepths}
use Rattle.split_model.specs.declared.split.Part.{Part}
use Rattle.split_model.specs.declared.split.Slow.{Slow}
use Rattle.split_model.specs.declared.split.Slow.TheVariants.{Carried, Server, Post}
use Rattle.split_model.specs.Split.{is_pre, is_carried_up, stage_after}
use Rattle.split_model.specs.Counts.{stage_or_zero}
use Rattle.split_model.specs.Legal.{IsLegal}
use Rattle.split_model.specs.Greatest.{pre_marks, carried_marks, post_marks, pre_stages, post_stages, IsPostSet, IsGreatestSplit}
use Rattle.partition.proofs.Lawful.{pre_at}
use Rattle.dependence.proofs.MarkedPlaces.{marked_inside}
use Rattle.dependence.proofs.PlacedCode.{step_there}
use Rattle.dependence.proofs.Present.{at_here}
use Rattle.lemmas.proofs.Tests.{same_tests, true_of_and_not}
use Rattle.dependence.proofs.Laws.{depths_are_least-least, depths_are_least-staged}

pub same_sets : (f : Program) (P : List Bool → Type 0) (marks others : List Bool) → IsGreatest f P marks → IsGreatest f P others → marks ≡ others
same_sets f P marks others a b =
    same_lists marks others (a.count ∙ sym b.count)
    (λ k d l. get_or_default marks k d false l
    ∙ same_tests (get_or marks k false) (get_or others k false) (b.greatest marks a.closed k) (a.greatest others b.closed k)
    ∙ get_or_default others k false d (let m = a.count in let n = b.count in omega arith))

same_post : (f : Program) (all : Bool) (carried marks others : List Bool) → IsPostSet f all carried marks → IsPostSet f all carried others → marks ≡ others
same_post f true carried marks others a b = same_sets f (IsPostClosed f carried) marks others a b
same_post f false carried marks others a b = a ∙ sym b

same_stage : (a b : Option ℕ) → is_some a ≡ is_some b → stage_or_zero a ≡ stage_or_zero b → a ≡ b
same_stage None None e h = refl
same_stage (Some x) (Some y) e h = ap Some h
same_stage _ _ e h = cc

same_slow : (a b : Slow) → is_carried_up a ≡ is_carried_up b → is_some (stage_after a) ≡ is_some (stage_after b)
    → stage_or_zero (stage_after a) ≡ stage_or_zero (stage_after b) → a ≡ b
same_slow Carried Server c p t = cc
same_slow Carried (Post y) c p t = cc
same_slow Server Carried c p t = cc
same_slow Server (Post y) c p t = cc
same_slow (Post x) Carried c p t = cc
same_slow (Post x) Server c p t = cc
same_slow (Post x) (Post y) c p t = ap Post t
same_slow _ _ c p t = refl

same_part : (a b : Part) → a.pre ≡ b.pre → a.slow ≡ b.slow → a ≡ b
same_part a b e h =
    let made : Option ℕ → Slow → Part = λ p s. record { pre = p; slow = s } in
    ap (λ (p : Option ℕ). made p a.slow) e ∙ ap (λ (s : Slow). made b.pre s) h

same_parts : (s t : List Part) → pre_marks s ≡ pre_marks t → carried_marks s ≡ carried_marks t → post_marks s ≡ post_marks t
    → pre_stages s ≡ pre_stages t → post_stages s ≡ post_stages t → s ≡ t
same_parts [] [] a b c d e = refl
same_parts (x ∷ xs) (y ∷ ys) a b c d e =
    let rest : xs ≡ ys = same_parts xs ys (cc) (cc) (cc) (cc) (cc) in
    let some : is_some x.pre ≡ is_some y.pre = cc in
    let early : stage_or_zero x.pre ≡ stage_or_zero y.pre = cc in
    let up : is_carried_up x.slow ≡ is_carried_up y.slow = cc in
    let down : is_some (stage_after x.slow) ≡ is_some (stage_after y.slow) = cc in
    let late : stage_or_zero (stage_after x.slow) ≡ stage_or_zero (stage_after y.slow) = cc in
    let pre = same_stage x.pre y.pre some early in
    let slow = same_slow x.slow y.slow up down late in
    let head : x ≡ y = same_part x y pre slow in
    cc
same_parts _ _ a b c d e = cc

pub same_depths : (f : Program) → IsWellFormed f → (members : List Bool) (ds es : List ℕ) → IsDepths f members ds → IsDepths f members es → ds ≡ es
same_depths f formed members ds es p q =
    same_lists ds es (p.count ∙ sym q.count)
    (λ n d l. get_or_default ds n d 0 l
    ∙ (let x = depths_are_least-least f members ds es formed p (depths_are_least-staged f members es formed q) n in
    let y = depths_are_least-least f members es ds formed q (depths_are_least-staged f members ds formed p) n in omega arith)
    ∙ get_or_default es n 0 d (let m = p.count in let o = q.count in omega arith))

pub same_splits : (f : Program) (k : ℕ) (all : Bool) (split other : List Part) → IsWellFormed f → IsGreatestSplit f k all split → IsGreatestSplit f k all other → split ≡ other
same_splits f k all split other formed a b =
    let pre = same_sets f (IsPreClosed f k) (pre_marks split) (pre_marks other) a.pre b.pre in
    let carried = same_sets f (IsCarriedClosed f (pre_marks split)) (carried_marks split) (carried_marks other) a.carried
    (subst (λ (m : List Bool). IsGreatest f (IsCarriedClosed f m) (carried_marks other)) (sym pre) b.carried) in
    let post = same_post f all (carried_marks split) (post_marks split) (post_marks other) a.post
    (subst (λ (m : List Bool). IsPostSet f all m (post_marks other)) (sym carried) b.post) in
    same_parts split other pre carried post
    (same_depths f formed (pre_marks split) (pre_stages split) (pre_stages other) a.pre_depths (subst (λ (m : List Bool). IsDepths f m (pre_stages other)) (sym pre) b.pre_depths))
    (same_depths f formed (post_marks split) (post_stages split) (post_stages other) a.post_depths (subst (λ (m : List Bool). IsDepths f m (post_stages other)) (sym post) b.post_depths))

-- ## A legal split has no more in preprocessing than the greatest one on all instructions

read_one : (t : ℕ → Bool) (vs : List ValueId) (j : ℕ) → list_all (λ (v : ValueId). t v.instruction) vs ≡ true → Reads vs j → t j ≡ true
read_one t [] j h r = absurd r
read_one t (v ∷ vs) j h (inl e) = elim (cases_Bool (t v.instruction)) [
  | inl y ↦ subst (λ n. t n ≡ true) e y
  | inr q ↦ absurd (let k : false ≡ true = (rw q at h) in cc)
]
read_one t (v ∷ vs) j h (inr r) = elim (cases_Bool (t v.instruction)) [
  | inl y ↦ read_one t vs j (rw y at h) r
  | inr q ↦ absurd (let k : false ≡ true = (rw q at h) in cc)
]

pub legal_closed : (f : Program) (other : List Part) → IsLegal f other → IsPreClosed f (length f.code) (pre_marks other)
legal_closed f other legal =
    let inside : (i : ℕ) → IsMarked (pre_marks other) i → i < length f.code = λ i m.
    (let n = marked_inside (pre_marks other) i m in let c = legal.count in let e = length-map other (λ (part : Part). is_some part.pre) in omega (arith, n, c, e)) in
    record {
      below = inside;
      kinds = λ i m.
          let lt = inside i m in
          (step_at f i, at_here f i lt, true_of_and_not (is_pre other i) (fits_switch (step_at f i)) (legal.kept 1 i lt) (sym (pre_at other i) ∙ m));
      needs = λ i j one m at r.
          let lt = inside i m in
          let all = true_of_and_not (is_pre other i) (list_all (λ (v : ValueId). is_pre other v.instruction) (needed (step_at f i).work)) (legal.kept 2 i lt) (sym (pre_at other i) ∙ m) in
          pre_at other j ∙ read_one (is_pre other) (needed (step_at f i).work) j all (subst (λ (s : Step). Reads (needed s.work) j) (sym (step_there f i one at)) r);
    }

pub pre_is_most : (f : Program) (all : Bool) (split other : List Part) → IsGreatestSplit f (length f.code) all split
    → IsLegal f other → IsWithin (pre_marks other) (pre_marks split)
pre_is_most f all split other greatest legal = greatest.pre.greatest (pre_marks other) (legal_closed f other legal)
