-- Why a middlebox with its split can be replayed.
use Rattle.std.proofs.Common.{◌≡◌, ◌≤◌, ◌<◌, ◌+◌, ◌==◌, ◌&&◌, not, ℕ, zero, suc, Bool, true, false, List, [], ◌∷◌, ◌++◌, length, Option, None, refl, sym, ap}
use Rattle.std.proofs.Common.{subst, ◌∙◌, inl, inr, arith, ◌||◌}
use Rattle.std.specs.Prelude.{All, slice_get, if◌then◌else◌, IsTrue, is_some, slice_index_or}
use Rattle.std.proofs.lemmas.Bool.{cases_lt, eqb-true, true≢false, cases_Bool}
use Rattle.std.proofs.lemmas.List.Elements.{All-head, All-tail}
use Rattle.std.proofs.lemmas.Option.{slice_get_past}
use Rattle.state_store.specs.declared.object.ObjectDecl.{ObjectDecl}
use Rattle.state_store.specs.Kept.{IsKept}
use Rattle.state_store.specs.Store.{start_store}
use Rattle.state_store.specs.Fitting.{can_put, can_del, fits_keys, fits_values}
use Rattle.element_lang.specs.Tree.{Tree}
use Rattle.element_lang.specs.Rules.{is_good}
use Rattle.flat_ir.specs.Program.{Program, Work, step_at}
use Rattle.flat_ir.specs.Program.Work.{put, del}
use Rattle.flat_ir.specs.Fits.{fits, widths_of}
use Rattle.flat_ir.specs.WellFormed.{IsWellFormed}
use Rattle.state_store.specs.Kinds.{is_constant}
use Rattle.flatten.specs.Flatten.{flat_of}
use Rattle.split_model.specs.declared.split.Part.{Part}
use Rattle.split_model.specs.Split.{post_stage, any_below, is_pre}
use Rattle.split_model.specs.Shown.{writes_to, is_shown, is_replicated, looks_at}
use Rattle.split_model.specs.Counts.{count_below, count_steps, writes}
use Rattle.split_model.specs.Bounds.{IsBounded, HasFewStages}
use Rattle.split_model.specs.Legal.{IsLegal}
use Rattle.resource_limits.specs.declared.limits.Limits.{Limits}
use Rattle.resource_limits.specs.Counts.{first_numbers}
use Rattle.resource_limits.specs.Kept.{KeepsLimits}
use Rattle.resource_limits.specs.Limits.{AreInRange}
use Rattle.split_answers.specs.Whole.{IsSplit}
use Rattle.split_model.specs.Greatest.{IsGreatestSplit, post_marks, pre_marks}
use Rattle.lemmas.proofs.Lists.{replicate_false, all_front}
use Rattle.gallium_cli.specs.Runnable.{IsRunnable}
use Rattle.lemmas.proofs.Tests.{and_first}

-- ## Few writes, within limits

back_all : {X : Type 0} (P : X → Type 0) (xs ys : List X) → All P (xs ++ ys) → All P ys
back_all P [] ys all = all
back_all P (x ∷ xs) ys all = back_all P xs ys (All-tail P x (xs ++ ys) all)

-- what holds of a number for each of some objects holds of each
each_number : (P : ℕ → Type 0) (number : ℕ → ℕ) (n o : ℕ) → All P (first_numbers n number) → o < n → P (number o)
each_number P number zero o all low = absurd (omega arith)
each_number P number (suc n) o all low =
    elim (cases_lt o n) [
      | inl before ↦ each_number P number n o (all_front P (first_numbers n number) (number n ∷ []) all) before
      | inr last ↦ (
          let here = All-head P (number n) [] (back_all P (first_numbers n number) (number n ∷ []) all) in
          let same : n ≡ o = omega arith in
          subst (λ k. P (number k)) same here
          )
    ]

-- an object of which something holds that doesn't where there is none isn't one past all objects
another : (f : Program) (o object : ℕ) (can : Option ObjectDecl → Bool) → can None ≡ false → length f.objects ≤ o
    → can (slice_get f.objects object) ≡ true → object == o ≡ false
another f o object can never past is = elim (cases_Bool (object == o)) [
  | inl same ↦ (
      let none = ap (slice_get f.objects) (eqb-true object o same) ∙ slice_get_past f.objects o past in
      absurd (true≢false (sym is ∙ ap can none ∙ never))
      )
  | inr other ↦ other
]

unwritten : (f : Program) (o : ℕ) (work : Work) → length f.objects ≤ o → fits f work ≡ true → writes_to o work ≡ false
unwritten f o (put object keys values) past fit =
    let declared = slice_get f.objects object in
    let can = and_first (can_put declared && fits_keys declared (widths_of f keys)) (fits_values declared (widths_of f values)) fit in
    another f o object can_put refl past (and_first (can_put declared) (fits_keys declared (widths_of f keys)) can)
unwritten f o (del object keys) past fit =
    let declared = slice_get f.objects object in
    another f o object can_del refl past (and_first (can_del declared) (fits_keys declared (widths_of f keys)) fit)
unwritten f o _ past fit = refl

none_below : (n : ℕ) (test : ℕ → Bool) → ((i : ℕ) → i < n → test i ≡ false) → count_below n test ≡ 0
none_below zero test none = refl
none_below (suc n) test none =
    let before : count_below n test ≡ 0 = none_below n test (λ i low. none i (omega arith)) in
    let here : test n ≡ false = none n (omega arith) in
    ap (λ (k : ℕ). k + (if test n then 1 else 0)) before ∙ ap (λ (b : Bool). 0 + (if b then 1 else 0)) here

at_most_if : (b : Bool) (n limit : ℕ) → n ≡ 0 → (if b then n else 0) ≤ limit
at_most_if true n limit none = omega arith
at_most_if false n limit none = omega arith

pub few_writes : (f : Program) (split : List Part) (limits : Limits) → IsWellFormed f → KeepsLimits f split limits
    → (o : ℕ) → writes f split o ≤ limits.writeback
few_writes f split limits formed keeps o = elim (cases_lt o (length f.objects)) [
  | inl low ↦ each_number (λ n. n ≤ limits.writeback) (writes f split) (length f.objects) o keeps.writeback low
  | inr past ↦ at_most_if (is_replicated f split o) (count_steps f (λ i. writes_to o (step_at f i).work)) limits.writeback
      (none_below (length f.code) (λ i. writes_to o (step_at f i).work)
      (λ i low. unwritten f o (step_at f i).work past (formed.fit i low)))
]

-- ## With every packet sent to the server

unseen_unchanged : (constant shown : Bool) (n : ℕ) → shown ≡ false → (if not constant && shown then n else 0) ≤ 0
unseen_unchanged true true n none = cc
unseen_unchanged true false n none = omega arith
unseen_unchanged false true n none = cc
unseen_unchanged false false n none = omega arith

pub no_writes : (f : Program) (split : List Part) → ((o : ℕ) → is_shown f split o ≡ false) → (o : ℕ) → writes f split o ≤ 0
no_writes f split unseen o =
    unseen_unchanged (is_constant f.objects o) (is_shown f split o) (count_steps f (λ i. writes_to o (step_at f i).work))
    (unseen o)

-- a mark of a list of parts, and what the part says
marked : (split : List Part) (i : ℕ) → is_pre split i ≡ true → slice_index_or (pre_marks split) i false ≡ true
marked [] i pre = absurd (true≢false (sym pre))
marked (part ∷ split) zero pre = pre
marked (part ∷ split) (suc i) pre = marked split i pre

-- none passes a test, of which one part is never met
none_passes : (n : ℕ) (one other : ℕ → Bool) → ((i : ℕ) → one i ≡ false) → any_below n (λ i. one i && other i) ≡ false
none_passes zero one other none = refl
none_passes (suc n) one other none =
    ap (λ b. b || (one n && other n)) (none_passes n one other none) ∙ ap (λ b. b && other n) (none n)

-- where preprocessing computes nothing, it looks up nothing
unseen : (f : Program) (split : List Part) → IsGreatestSplit f 0 false split → (o : ℕ) → is_shown f split o ≡ false
unseen f split least o =
    none_passes (length f.code) (is_pre split) (λ i. looks_at o (step_at f i).work) (λ i. none i)
  where
    none : (i : ℕ) → is_pre split i ≡ false
    none i = elim (cases_Bool (is_pre split i)) [
      | inl pre ↦ let low = least.pre.closed.below i (marked split i pre) in absurd (omega arith)
      | inr other ↦ other
    ]

-- with everything left to the server there are none
post_marked : (split : List Part) (i : ℕ) → slice_index_or (post_marks split) i false ≡ is_some (post_stage split i)
post_marked [] i = refl
post_marked (part ∷ split) zero = refl
post_marked (part ∷ split) (suc i) = post_marked split i

pub few_served : (f : Program) (split : List Part) → IsGreatestSplit f 0 false split → HasFewStages split
few_served f split least = record {
  pre = λ i stage is. let low = least.pre.closed.below i (marked split i (ap is_some is)) in absurd (omega arith);
  post = λ i stage is.
      let none : slice_index_or (post_marks split) i false ≡ false =
      ap (λ (marks : List Bool). slice_index_or marks i false) least.post ∙ replicate_false (length f.code) i in
      absurd (true≢false (sym (ap is_some is) ∙ sym (post_marked split i) ∙ none));
}

-- ## What can be replayed

-- a split that keeps limits
pub split_within : (f : Program) (split : List Part) (limits : Limits) (writeback : ℕ) → IsBounded f → IsLegal f split
    → IsKept f.objects (start_store f.objects) → KeepsLimits f split limits → writeback ≡ limits.writeback → IsSplit f split writeback
split_within f split limits writeback bounded legal kept keeps rows = record {
  bounded = bounded;
  legal = legal;
  kept = kept;
  few = λ o. subst (λ n. writes f split o ≤ n) (sym rows) (few_writes f split limits bounded.formed keeps o);
}

-- and one that leaves everything to the server
pub split_served : (f : Program) (split : List Part) (writeback : ℕ) → IsBounded f → IsLegal f split
    → IsKept f.objects (start_store f.objects) → IsGreatestSplit f 0 false split → writeback ≡ 0 → IsSplit f split writeback
split_served f split writeback bounded legal kept least rows = record {
  bounded = bounded;
  legal = legal;
  kept = kept;
  few = λ o. subst (λ n. writes f split o ≤ n) (sym rows) (no_writes f split (unseen f split least) o);
}

kept_objects : (m : Tree) (f : Program) → f ≡ flat_of m → IsKept m.objects (start_store m.objects) → IsKept f.objects (start_store f.objects)
kept_objects m f same kept = subst (λ (g : Program). IsKept g.objects (start_store g.objects)) (sym same) kept

pub chosen_runs : (m : Tree) (f : Program) (split : List Part) (allowed : Limits) (writeback : ℕ) → IsTrue (is_good m)
    → f ≡ flat_of m → IsBounded (flat_of m) → IsKept m.objects (start_store m.objects) → IsLegal f split
    → KeepsLimits f split allowed → HasFewStages split → AreInRange allowed → writeback ≡ allowed.writeback
    → IsRunnable m f split writeback
chosen_runs m f split allowed writeback good same bounded kept legal keeps low in_range rows = record {
  good = good;
  program = same;
  is_split = split_within f split allowed writeback (subst IsBounded (sym same) bounded) legal (kept_objects m f same kept) keeps rows;
  few_stages = low;
  few_rows = subst (λ n. n ≤ 65536) (sym rows) in_range.2;
}

pub served_runs : (m : Tree) (f : Program) (split : List Part) → IsTrue (is_good m) → f ≡ flat_of m → IsBounded (flat_of m)
    → IsKept m.objects (start_store m.objects) → IsLegal f split → IsGreatestSplit f 0 false split → IsRunnable m f split 0
served_runs m f split good same bounded kept legal least = record {
  good = good;
  program = same;
  is_split = split_served f split 0 (subst IsBounded (sym same) bounded) legal (kept_objects m f same kept) least refl;
  few_stages = few_served f split least;
  few_rows = omega arith;
}
