-- A step of the search along the shrinking list.
use Rattle.std.proofs.Common.{◌≡◌, ℕ, suc, ◌+◌, ◌-◌, ◌<◌, ◌≤◌, true, false, List, sym, subst, arith}
use Rattle.std.specs.Prelude.{slice_index_or, slice_set, Bool}
use Rattle.flat_ir.specs.Program.{Program}
use Rattle.flat_ir.specs.WellFormed.{IsWellFormed}
use Rattle.flat_ir.specs.Sets.{IsGreatest, IsPreClosed, IsCarriedClosed}
use Rattle.flat_ir.specs.Stages.{IsDepths}
use Rattle.split_model.specs.declared.split.Part.{Part}
use Rattle.resource_limits.specs.declared.limits.Limits.{Limits}
use Rattle.partition.specs.declared.front.Front.{Front}
use Rattle.partition.specs.Front.{IsFront}
use Rattle.partition.specs.Choice.{IsKept, IsFirstKept, shrinking}
use Rattle.partition.specs.Tried.{IsLeft}
use Rattle.partition.proofs.Narrow.{pre_left, carried_left, depths_left, as_with, as_without}
use Rattle.partition.proofs.Shrunk.{first_of_more, same_first}

pub one_more : (k : ℕ) → 0 < k → suc (k - 1) ≡ k
one_more k l = omega (arith, l)

pub narrowed : (f : Program) (old new : Front) → IsWellFormed f → IsFront f old → 0 < old.count → new.count ≡ old.count - 1
    → new.pre ≡ slice_set old.pre (old.count - 1) false → new.carried ≡ slice_set old.carried (old.count - 1) false
    → new.depths ≡ slice_set old.depths (old.count - 1) 0 → IsFront f new
narrowed f old new well is some count pre carried depths =
    let k : ℕ = old.count - 1 in
    let greatest : IsGreatest f (IsPreClosed f (suc k)) old.pre = subst (λ n. IsGreatest f (IsPreClosed f n) old.pre) (sym (one_more old.count some)) is.pre in
    let left : IsGreatest f (IsPreClosed f k) (slice_set old.pre k false) = pre_left f well k old.pre old.carried old.depths greatest is.carried is.depths in
    let handed : IsGreatest f (IsCarriedClosed f (slice_set old.pre k false)) (slice_set old.carried k false) = carried_left f well k old.pre old.carried old.depths greatest is.carried is.depths in
    let deep : IsDepths f (slice_set old.pre k false) (slice_set old.depths k 0) = depths_left f well k old.pre old.carried old.depths greatest is.carried is.depths in
    record {
      pre = subst (λ n. IsGreatest f (IsPreClosed f n) new.pre) (sym count) (subst (λ (m : List Bool). IsGreatest f (IsPreClosed f k) m) (sym pre) left);
      carried =
          subst (λ (m : List Bool). IsGreatest f (IsCarriedClosed f m) new.carried) (sym pre)
          (subst (λ (m : List Bool). IsGreatest f (IsCarriedClosed f (slice_set old.pre k false)) m) (sym carried) handed);
      depths =
          subst (λ (m : List Bool). IsDepths f m new.depths) (sym pre)
          (subst (λ (d : List ℕ). IsDepths f (slice_set old.pre k false) d) (sym depths) deep);
    }

pub skipped : (f : Program) (limits : Limits) (front : Front) → IsWellFormed f → IsFront f front → 0 < front.count
    → slice_index_or front.pre (front.count - 1) false ≡ false → IsLeft f limits front.count (front.count - 1)
skipped f limits front well is some out =
    let k : ℕ = front.count - 1 in
    let greatest : IsGreatest f (IsPreClosed f (suc k)) front.pre = subst (λ n. IsGreatest f (IsPreClosed f n) front.pre) (sym (one_more front.count some)) is.pre in
    record {
      fewer = omega (arith, some);
      first = λ split first. subst (λ n. IsFirstKept f limits (shrinking n) split) (one_more front.count some)
          (same_first f limits k (as_with f well k front.pre front.carried front.depths greatest is.carried is.depths out)
          (as_without f well k front.pre front.carried front.depths greatest is.carried is.depths out) split first);
    }

adds : (k left : ℕ) → left < k → (k - left) + left ≡ k
adds k left less = omega (arith, less)

-- where no split on more than these keeps the limits, these are left
pub left_of : (f : Program) (limits : Limits) (k left : ℕ) → left < k → ((n : ℕ) → left < n → n ≤ k → (all : Bool) (other : List Part) → IsKept f limits n all other → ⊥)
    → IsLeft f limits k left
left_of f limits k left less none = record {
  fewer = less;
  first = λ split first. subst (λ n. IsFirstKept f limits (shrinking n) split) (adds k left less)
      (first_of_more f limits k left none (k - left) (let e = adds k left less in omega (arith, e)) split first);
}

-- where neither split on k instructions keeps the limits, one less is left
pub left_of_one : (f : Program) (limits : Limits) (k : ℕ) → 0 < k → ((all : Bool) (other : List Part) → IsKept f limits k all other → ⊥) → IsLeft f limits k (k - 1)
left_of_one f limits k some none = left_of f limits k (k - 1) (omega (arith, some))
    (λ n more few all other kept.
    let e : n ≡ k = omega (arith, more, few) in
    none all other (subst (λ m. IsKept f limits m all other) e kept))

pub neither : (f : Program) (limits : Limits) (k : ℕ) → ((other : List Part) → IsKept f limits k true other → ⊥) → ((other : List Part) → IsKept f limits k false other → ⊥)
    → (all : Bool) (other : List Part) → IsKept f limits k all other → ⊥
neither f limits k with' without true other kept = with' other kept
neither f limits k with' without false other kept = without other kept
