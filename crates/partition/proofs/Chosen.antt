-- What holds of each split that is chosen, and when none is.
use Rattle.std.proofs.Common.{◌≡◌, ℕ, zero, suc, ◌<◌, ◌≤◌, Bool, true, false, List, [], ◌∷◌, Option, Some, None, inl, inr, refl, ap, subst, arith, length}
use Rattle.std.proofs.lemmas.Bool.{cases_lt}
use Rattle.flat_ir.specs.Program.{Program}
use Rattle.flat_ir.specs.WellFormed.{IsWellFormed}
use Rattle.split_model.specs.declared.split.Part.{Part}
use Rattle.split_model.specs.Split.{part_at, pre_stage, post_stage, stage_after}
use Rattle.split_model.specs.Counts.{stage_or_zero, highest_below}
use Rattle.split_model.specs.Legal.{IsLegal}
use Rattle.resource_limits.specs.declared.limits.Limits.{Limits}
use Rattle.resource_limits.specs.declared.exceeding.Over.{Over}
use Rattle.resource_limits.specs.Limits.{AreInRange}
use Rattle.resource_limits.specs.Counts.{counts_of}
use Rattle.resource_limits.specs.Kept.{KeepsLimits, first_excess}
use Rattle.partition.specs.Choice.{IsKept, IsExceeded, IsFirstKept, IsChosen, shrinking}
use Rattle.split_model.specs.Bounds.{HasFewStages}
use Rattle.partition.specs.Tried.{IsTriedKept, IsTriedExceeded}
use Rattle.partition.proofs.Lawful.{left, as_many, greatest_legal}
use Rattle.partition.proofs.Unique.{same_splits}

-- a chosen split is a greatest one that keeps the limits
pub record IsSomeKept (f : Program) (limits : Limits) (split : List Part) : Type 0 where
  pub number : ℕ
  pub all : Bool
  pub kept : IsKept f limits number all split

first_is_kept : (f : Program) (limits : Limits) (cs : List (ℕ × Bool)) (split : List Part) → IsFirstKept f limits cs split → IsSomeKept f limits split
first_is_kept f limits [] split h = absurd h
first_is_kept f limits (c ∷ cs) split (inl k) = record { number = c.0; all = c.1; kept = k }
first_is_kept f limits (c ∷ cs) split (inr r) = first_is_kept f limits cs split r.1

pub chosen_is_kept : (f : Program) (limits : Limits) (shrink : Bool) (split : List Part) → IsChosen f limits shrink split → IsSomeKept f limits split
chosen_is_kept f limits false split k = record { number = length f.code; all = true; kept = k }
chosen_is_kept f limits true split k = first_is_kept f limits (shrinking (length f.code)) split k

-- ## Stages

pub stages_low : (split : List Part) (n i : ℕ) → i < n → (stage_or_zero (pre_stage split i) ≤ highest_below split n) × (stage_or_zero (post_stage split i) ≤ highest_below split n)
stages_low split zero i lt = absurd (omega (arith, lt))
stages_low split (suc n) i lt = elim (cases_lt i n) [
  | inl less ↦ (let h = stages_low split n i less in (omega (arith, h.0), omega (arith, h.1)))
  | inr le ↦ (
      let e : i ≡ n = omega (arith, lt, le) in
      let before = ap (λ j. stage_or_zero (pre_stage split j)) e in
      let after = ap (λ j. stage_or_zero (post_stage split j)) e in
      (omega (arith, before), omega (arith, after))
      )
]

past : (split : List Part) (i : ℕ) → length split ≤ i → part_at split i ≡ left
past [] i le = refl
past (x ∷ xs) zero le = absurd (omega (arith, le))
past (x ∷ xs) (suc i) le = past xs i (omega (arith, le))

-- a split that keeps limits of the range that a file can give has few stages
pub few_stages_within_limits : (f : Program) (limits : Limits) (split : List Part) → length split ≡ length f.code → AreInRange limits → KeepsLimits f split limits → HasFewStages split
few_stages_within_limits f limits split count ranges keeps = record {
  pre = λ i. few (λ p. p.pre) refl i (λ lt. (stages_low split (length f.code) i lt).0);
  post = λ i. few (λ p. stage_after p.slow) refl i (λ lt. (stages_low split (length f.code) i lt).1);
}
  where
    few : (own : Part → Option ℕ) → own left ≡ None → (i : ℕ) → (i < length f.code → stage_or_zero (own (part_at split i)) ≤ highest_below split (length f.code))
        → (stage : ℕ) → own (part_at split i) ≡ Some stage → stage ≤ 4096
    few own none i low stage is = elim (cases_lt i (length f.code)) [
      | inl lt ↦ (let h = low lt in let s = ap stage_or_zero is in let k = keeps.stages in let r = ranges.1 in omega (arith, h, s, k, r))
      | inr le ↦ (let e = ap own (past split i (omega (arith, le, count))) in cc)
    ]

-- what every chosen split has
pub record IsSound (f : Program) (limits : Limits) (split : List Part) : Type 0 where
  pub legal : IsLegal f split
  pub keeps : KeepsLimits f split limits
  pub low : HasFewStages split

pub sound : (f : Program) (limits : Limits) (shrink : Bool) (split : List Part) → IsWellFormed f → AreInRange limits → IsChosen f limits shrink split → IsSound f limits split
sound f limits shrink split formed ranges chosen =
    let some = chosen_is_kept f limits shrink split chosen in
    record {
      legal = greatest_legal f some.number some.all split formed some.kept.greatest;
      keeps = some.kept.keeps;
      low = few_stages_within_limits f limits split (as_many f some.number some.all split some.kept.greatest) ranges some.kept.keeps;
    }

-- ## Exactly where

module _ (f : Program) (limits : Limits) (k : ℕ) (all : Bool) (formed : IsWellFormed f) where
  pub kept_not_exceeded : (split : List Part) (over : Over) → IsTriedKept f limits k all split → IsExceeded f limits k all over → ⊥
  kept_not_exceeded split over kept exceeded =
      let e : exceeded.split ≡ split = same_splits f k all exceeded.split split formed exceeded.greatest kept.kept.greatest in
      let s : first_excess (counts_of f split limits.writeback) limits ≡ Some over =
      subst (λ (s : List Part). first_excess (counts_of f s limits.writeback) limits ≡ Some over) e exceeded.exceeds in
      let n = kept.none in
      cc

  pub exceeded_not_kept : (split : List Part) (over : Over) → IsTriedExceeded f limits k all over → IsKept f limits k all split → ⊥
  exceeded_not_kept split over tried kept =
      let e : split ≡ tried.exceeded.split = same_splits f k all split tried.exceeded.split formed kept.greatest tried.exceeded.greatest in
      tried.broken (subst (λ (s : List Part). KeepsLimits f s limits) e kept.keeps)

-- ## At most one

one_first : (f : Program) (limits : Limits) (cs : List (ℕ × Bool)) (split other : List Part) → IsWellFormed f → IsFirstKept f limits cs split → IsFirstKept f limits cs other → split ≡ other
one_first f limits [] split other formed h k = absurd h
one_first f limits (c ∷ cs) split other formed (inl h) (inl k) = same_splits f c.0 c.1 split other formed h.greatest k.greatest
one_first f limits (c ∷ cs) split other formed (inl h) (inr k) = absurd (k.0 split h)
one_first f limits (c ∷ cs) split other formed (inr h) (inl k) = absurd (h.0 other k)
one_first f limits (c ∷ cs) split other formed (inr h) (inr k) = one_first f limits cs split other formed h.1 k.1

pub one_chosen : (f : Program) (limits : Limits) (shrink : Bool) (split other : List Part) → IsWellFormed f → IsChosen f limits shrink split → IsChosen f limits shrink other → split ≡ other
one_chosen f limits false split other formed h k = same_splits f (length f.code) true split other formed h.greatest k.greatest
one_chosen f limits true split other formed h k = one_first f limits (shrinking (length f.code)) split other formed h k
