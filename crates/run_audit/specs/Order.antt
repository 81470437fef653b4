-- The order that a report tells.
use Rattle.std.specs.Prelude.{◌≡◌, ◌≢◌, ◌<◌, ℕ, List, Option, Some, None, slice_get}
use Rattle.run_model.specs.declared.fate.Fate.{Fate}
use Rattle.run_model.specs.declared.run.Run.{Run}
use Rattle.run_model.specs.Order.{order_of}
use Rattle.run_model.specs.Serialises.{decided_at}

-- The order is that of the fates: by version, in one version by deciding event, and then by number.
abbrev pub InOrder : Run → Type 0
InOrder run = run.order ≡ order_of run.fates

-- No two packets are decided by one event of one version, as in every run.
abbrev pub HaveOwnEvents : List Fate → Type 0
HaveOwnEvents fates = (p q : ℕ) (x : ℕ × ℕ) → decided_at (slice_get fates p) ≡ Some x
    → decided_at (slice_get fates q) ≡ Some x → p ≡ q

-- two lists differ at this place, and at none before it; an element and no element differ
pub record DifferFirst {X : Type 0} (xs ys : List X) (place : ℕ) : Type 0 where
  pub alike : (i : ℕ) → i < place → slice_get xs i ≡ slice_get ys i
  pub there : slice_get xs place ≢ slice_get ys place

-- the first of two that is there
abbrev pub first_of : Option ℕ → Option ℕ → Option ℕ
first_of (Some n) other = Some n
first_of None other = other

-- the number that is told at the first place at which it isn't the one that is wanted; where no more are told, it is
-- the one that is missing
pub record IsFirstApart (told wanted : List ℕ) (p : ℕ) : Type 0 where
  pub place : ℕ
  pub first : DifferFirst told wanted place
  pub number : first_of (slice_get told place) (slice_get wanted place) ≡ Some p

-- the order isn't that of the fates, and this is the first number that stands at a wrong place
abbrev pub IsMisplaced : Run → ℕ → Type 0
IsMisplaced run p = IsFirstApart run.order (order_of run.fates) p
