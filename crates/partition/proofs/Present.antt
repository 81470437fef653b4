-- Every program has its greatest splits, and so a split that is chosen, or a limit that is exceeded first.
use Rattle.std.proofs.Common.{◌≡◌, ◌↔◌, ◌⊎◌, ℕ, zero, suc, ◌<◌, ◌≤◌, Bool, true, false, List, [], ◌∷◌, Option, Some, None, inl, inr, refl, sym, ap, ◌∙◌, subst, arith, length, map, replicate, is_some}
use Rattle.std.specs.Prelude.{slice_index, slice_index_or}
use Rattle.std.proofs.lemmas.Bool.{cases_lt}
use Rattle.std.proofs.lemmas.List.{length-replicate}
use Rattle.flat_ir.specs.Program.{Program}
use Rattle.flat_ir.specs.WellFormed.{IsWellFormed}
use Rattle.flat_ir.specs.Sets.{IsPreClosed, IsCarriedClosed, IsGreatest}
use Rattle.flat_ir.specs.Stages.{IsDepths}
use Rattle.split_model.specs.declared.split.Part.{Part}
use Rattle.split_model.specs.declared.split.Slow.{Slow}
use Rattle.split_model.specs.declared.split.Slow.TheVariants.{Carried, Server, Post}
use Rattle.split_model.specs.Split.{is_carried_up, stage_after}
use Rattle.split_model.specs.Counts.{stage_or_zero}
use Rattle.split_model.specs.Greatest.{pre_marks, carried_marks, post_marks, pre_stages, post_stages, IsPostSet, IsGreatestSplit}
use Rattle.resource_limits.specs.declared.limits.Limits.{Limits}
use Rattle.resource_limits.specs.declared.counting.Counts.{Counts}
use Rattle.resource_limits.specs.declared.exceeding.Over.{Over}
use Rattle.resource_limits.specs.Counts.{counts_of}
use Rattle.resource_limits.specs.Kept.{first_excess}
use Rattle.partition.specs.Choice.{IsKept, IsExceeded, AllExceeded, IsFirstKept, IsChosen, IsRefused, IsUnrefused, shrinking}
use Rattle.lemmas.proofs.Lists.{replicate_false}
use Rattle.dependence.proofs.Laws.{closed_sets_have_a_greatest-carried, closed_sets_have_a_greatest-depths, closed_sets_have_a_greatest-post, closed_sets_have_a_greatest-pre}
use Rattle.resource_limits.proofs.Laws.{kept_limits_are_not_exceeded}
use Rattle.partition.proofs.Last.{last_exact}
use Rattle.partition.proofs.Unique.{same_splits}

-- ## A list with an element for each number below n

abbrev listed : {X : Type 0} → ℕ → (ℕ → X) → List X
listed zero g = []
listed (suc n) g = g 0 ∷ listed n (λ i. g (suc i))

-- what its elements say
map_listed : {X Y : Type 0} (h : X → Y) (d : Y) (n : ℕ) (g : ℕ → X) (ys : List Y) → length ys ≡ n → ((i : ℕ) → h (g i) ≡ slice_index_or ys i d) → map h (listed n g) ≡ ys
map_listed h d zero g [] count each = refl
map_listed h d (suc n) g (y ∷ ys) count each =
    ap (λ b. b ∷ map h (listed n (λ i. g (suc i)))) (each 0) ∙ ap (λ bs. y ∷ bs) (map_listed h d n (λ i. g (suc i)) ys (omega arith) (λ i. each (suc i)))
map_listed h d _ g _ count each = absurd (omega arith)

-- ## A part from its marks and stages

abbrev slow_of : Bool → Bool → ℕ → Slow
slow_of true post stage = Carried
slow_of false true stage = Post stage
slow_of false false stage = Server

abbrev stage_of : Bool → ℕ → Option ℕ
stage_of true stage = Some stage
stage_of false stage = None

stage_there : (b : Bool) (stage : ℕ) → is_some (stage_of b stage) ≡ b
stage_there true stage = refl
stage_there false stage = refl

stage_is : (b : Bool) (stage : ℕ) → (b ≡ false → stage ≡ 0) → stage_or_zero (stage_of b stage) ≡ stage
stage_is true stage none = refl
stage_is false stage none = sym (none refl)

carried_is : (carried post : Bool) (stage : ℕ) → is_carried_up (slow_of carried post stage) ≡ carried
carried_is true post stage = refl
carried_is false true stage = refl
carried_is false false stage = refl

-- what is after the server is its mark and its stage, since no instruction is carried and in postprocessing
after_is : (carried post : Bool) (stage : ℕ) → (post ≡ true → carried ≡ false) → stage_after (slow_of carried post stage) ≡ stage_of post stage
after_is true true stage apart = let e = apart refl in cc
after_is true false stage apart = refl
after_is false true stage apart = refl
after_is false false stage apart = refl

-- ## The greatest split from its sets

-- a set of postprocessing has a mark for each instruction, and is apart from what is carried
record IsApart (f : Program) (carried post : List Bool) : Type 0 where
  count : length post ≡ length f.code
  apart : (i : ℕ) → slice_index_or post i false ≡ true → slice_index_or carried i false ≡ false

apart_post : (f : Program) (all : Bool) (carried post : List Bool) → IsPostSet f all carried post → IsApart f carried post
apart_post f true carried post is = record { count = is.count; apart = is.closed.apart }
apart_post f false carried post is = record {
  count = ap (λ (m : List Bool). length m) is ∙ length-replicate (length f.code) false;
  apart = λ i m. absurd (let u = ap (λ (m : List Bool). slice_index_or m i false) is ∙ replicate_false (length f.code) i in let e : true ≡ false = sym m ∙ u in cc);
}

post_set : (f : Program) (all : Bool) (carried : List Bool) → IsWellFormed f → (post : List Bool) × IsPostSet f all carried post
post_set f true carried formed = closed_sets_have_a_greatest-post f carried formed
post_set f false carried formed = (replicate (length f.code) false, refl)

module _ (f : Program) (k : ℕ) (all : Bool) (pre carried post : List Bool) (before after : List ℕ)
    (is_pre : IsGreatest f (IsPreClosed f k) pre) (is_carried : IsGreatest f (IsCarriedClosed f pre) carried) (is_post : IsPostSet f all carried post)
    (are_before : IsDepths f pre before) (are_after : IsDepths f post after) where
  abbrev part : ℕ → Part
  part i = record {
    pre = stage_of (slice_index_or pre i false) (slice_index before i);
    slow = slow_of (slice_index_or carried i false) (slice_index_or post i false) (slice_index after i);
  }

  abbrev joined : List Part
  joined = listed (length f.code) part

  joined_pre : pre_marks joined ≡ pre
  joined_pre = map_listed (λ (p : Part). is_some p.pre) false (length f.code) part pre is_pre.count
      (λ i. stage_there (slice_index_or pre i false) (slice_index before i))

  joined_carried : carried_marks joined ≡ carried
  joined_carried = map_listed (λ (p : Part). is_carried_up p.slow) false (length f.code) part carried is_carried.count
      (λ i. carried_is (slice_index_or carried i false) (slice_index_or post i false) (slice_index after i))

  joined_before : pre_stages joined ≡ before
  joined_before = map_listed (λ (p : Part). stage_or_zero p.pre) 0 (length f.code) part before are_before.count
      (λ i. stage_is (slice_index_or pre i false) (slice_index before i) (are_before.others i))

  after_here : (i : ℕ) → stage_after (part i).slow ≡ stage_of (slice_index_or post i false) (slice_index after i)
  after_here i = after_is (slice_index_or carried i false) (slice_index_or post i false) (slice_index after i) ((apart_post f all carried post is_post).apart i)

  joined_post : post_marks joined ≡ post
  joined_post = map_listed (λ (p : Part). is_some (stage_after p.slow)) false (length f.code) part post (apart_post f all carried post is_post).count
      (λ i. ap (λ (o : Option ℕ). is_some o) (after_here i) ∙ stage_there (slice_index_or post i false) (slice_index after i))

  joined_after : post_stages joined ≡ after
  joined_after = map_listed (λ (p : Part). stage_or_zero (stage_after p.slow)) 0 (length f.code) part after are_after.count
      (λ i. ap stage_or_zero (after_here i) ∙ stage_is (slice_index_or post i false) (slice_index after i) (are_after.others i))

  joined_greatest : IsGreatestSplit f k all joined
  joined_greatest = record {
    pre = subst (λ (m : List Bool). IsGreatest f (IsPreClosed f k) m) (sym joined_pre) is_pre;
    carried =
        subst (λ (m : List Bool). IsGreatest f (IsCarriedClosed f m) (carried_marks joined)) (sym joined_pre)
        (subst (λ (m : List Bool). IsGreatest f (IsCarriedClosed f pre) m) (sym joined_carried) is_carried);
    post =
        subst (λ (m : List Bool). IsPostSet f all m (post_marks joined)) (sym joined_carried)
        (subst (λ (m : List Bool). IsPostSet f all carried m) (sym joined_post) is_post);
    pre_depths =
        subst (λ (m : List Bool). IsDepths f m (pre_stages joined)) (sym joined_pre)
        (subst (λ (d : List ℕ). IsDepths f pre d) (sym joined_before) are_before);
    post_depths =
        subst (λ (m : List Bool). IsDepths f m (post_stages joined)) (sym joined_post)
        (subst (λ (d : List ℕ). IsDepths f post d) (sym joined_after) are_after);
  }

pub greatest_present : (f : Program) (k : ℕ) (all : Bool) → IsWellFormed f → (split : List Part) × IsGreatestSplit f k all split
greatest_present f k all formed =
    let pre = closed_sets_have_a_greatest-pre f k formed in
    let carried = closed_sets_have_a_greatest-carried f pre.0 formed in
    let post = post_set f all carried.0 formed in
    let before = closed_sets_have_a_greatest-depths f pre.0 formed in
    let after = closed_sets_have_a_greatest-depths f post.0 formed in (
      joined f k all pre.0 carried.0 post.0 before.0 after.0 pre.1 carried.1 post.1 before.1 after.1,
      joined_greatest f k all pre.0 carried.0 post.0 before.0 after.0 pre.1 carried.1 post.1 before.1 after.1,
    )

-- ## What is chosen of it

none_or_some : (x : Option Over) → (x ≡ None) ⊎ ((over : Over) × (x ≡ Some over))
none_or_some None = inl refl
none_or_some (Some over) = inr (over, refl)

module _ (f : Program) (limits : Limits) (formed : IsWellFormed f) where
  kept_or_exceeded : (k : ℕ) (all : Bool) → ((split : List Part) × IsKept f limits k all split) ⊎ ((over : Over) × IsExceeded f limits k all over)
  kept_or_exceeded k all =
      let greatest = greatest_present f k all formed in
      let counts : Counts = counts_of f greatest.0 limits.writeback in
      elim (none_or_some (first_excess counts limits)) [
        | inl none ↦ inl (greatest.0, record { greatest = greatest.1; keeps = (kept_limits_are_not_exceeded counts limits).0 none })
        | inr some ↦ inr (some.0, record { split = greatest.0; greatest = greatest.1; exceeds = some.1 })
      ]

  none_kept : (k : ℕ) (all : Bool) (over : Over) → IsExceeded f limits k all over → (other : List Part) → IsKept f limits k all other → ⊥
  none_kept k all over exceeded other kept =
      let first : List Part → Option Over = λ parts. first_excess (counts_of f parts limits.writeback) limits in
      let same : other ≡ exceeded.split = same_splits f k all other exceeded.split formed kept.greatest exceeded.greatest in
      let none : first other ≡ None = (kept_limits_are_not_exceeded (counts_of f other limits.writeback) limits).1 kept.keeps in
      let some : first other ≡ Some over = ap first same ∙ exceeded.exceeds in
      let e : Some over ≡ None = sym some ∙ none in
      cc

  either : (k : ℕ) → ((over : Over) × IsExceeded f limits k true over) → ((over : Over) × IsExceeded f limits k false over)
      → (all : Bool) → (over : Over) × IsExceeded f limits k all over
  either k with' without true = with'
  either k with' without false = without

  pub strict_present : ((split : List Part) × IsChosen f limits false split) ⊎ ((over : Over) × IsRefused f limits false over)
  strict_present = kept_or_exceeded (length f.code) true

  -- of both splits on k instructions and a list behind them, one is the first that keeps the limits, or each of both exceeds one
  two_of : (k : ℕ) (rest : List (ℕ × Bool)) (R : Type 0) → ((split : List Part) × IsFirstKept f limits rest split) ⊎ R
      → ((split : List Part) × IsFirstKept f limits ((k, true) ∷ ((k, false) ∷ rest)) split) ⊎ (((all : Bool) → (over : Over) × IsExceeded f limits k all over) × R)
  two_of k rest R later = elim (kept_or_exceeded k true) [
    | inl kept ↦ inl (kept.0, inl kept.1)
    | inr exceeded ↦ elim (kept_or_exceeded k false) [
      | inl kept ↦ inl (kept.0, inr (none_kept k true exceeded.0 exceeded.1, inl kept.1))
      | inr also ↦ elim later [
        | inl first ↦ inl (first.0, inr (none_kept k true exceeded.0 exceeded.1, inr (none_kept k false also.0 also.1, first.1)))
        | inr none ↦ inr (either k exceeded also, none)
      ]
    ]
  ]

  -- a split of the list is the first that keeps the limits, or each exceeds one
  first_or_none : (n : ℕ) → ((split : List Part) × IsFirstKept f limits (shrinking n) split) ⊎ AllExceeded f limits n
  first_or_none zero = elim (two_of 0 [] (Unit {0}) (inr tt)) [
    | inl first ↦ inl first
    | inr none ↦ inr (λ k all le. let same : 0 ≡ k = omega (arith, le) in subst (λ j. (over : Over) × IsExceeded f limits j all over) same (none.0 all))
  ]
  first_or_none (suc n) = elim (two_of (suc n) (shrinking n) (AllExceeded f limits n) (first_or_none n)) [
    | inl first ↦ inl first
    | inr none ↦ inr (λ k all le. elim (cases_lt k (suc n)) [
      | inl lt ↦ none.1 k all (omega (arith, lt))
      | inr ge ↦ let same : suc n ≡ k = omega (arith, le, ge) in subst (λ j. (over : Over) × IsExceeded f limits j all over) same (none.0 all)
    ])
  ]

  pub shrunk_present : ((split : List Part) × IsChosen f limits true split) ⊎ ((limits.transfer_bytes < 2) × AllExceeded f limits (length f.code))
  shrunk_present = elim (first_or_none (length f.code)) [
    | inl first ↦ inl first
    | inr none ↦ inr (narrow none, none)
  ]
    where
      narrow : AllExceeded f limits (length f.code) → limits.transfer_bytes < 2
      narrow none = elim (cases_lt limits.transfer_bytes 2) [
        | inl lt ↦ lt
        | inr ge ↦
            let s = greatest_present f 0 false formed in
            let e = none 0 false (omega arith) in
            absurd (none_kept 0 false e.0 e.1 s.0 (record { greatest = s.1; keeps = (last_exact f limits s.0 formed s.1).1 ge }))
      ]

  -- what isn't refused is chosen, and the other way round
  pub unrefused_present : 2 ≤ limits.transfer_bytes → (shrink : Bool) → IsUnrefused f limits shrink ↔ ((split : List Part) × IsChosen f limits shrink split)
  unrefused_present room false = (
    λ none. elim strict_present [ inl chosen ↦ chosen | inr refused ↦ absurd (none refused.0 refused.1) ],
    λ chosen over refused. none_kept (length f.code) true over refused chosen.0 chosen.1,
  )
  unrefused_present room true = (
    λ none. elim shrunk_present [ inl chosen ↦ chosen | inr narrow ↦ absurd (omega (arith, room, narrow.0)) ],
    λ chosen over refused. refused,
  )
