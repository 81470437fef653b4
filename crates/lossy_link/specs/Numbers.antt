-- The numbers of what was delivered, as a receiver keeps them.
use Rattle.std.specs.Prelude.{◌≡◌, ◌==◌, ◌*◌, ◌<◌, ◌≤◌, ℕ, Bool, false, ◌||◌, List, length, nat_lt, slice_index_or, if◌then◌else◌}
use Rattle.std.specs.BTreeSet.{contains}
use Rattle.std.specs.Ordering.{nat_cmp}
use Rattle.lossy_link.specs.declared.numbers.Numbers.{Numbers}
use Rattle.lossy_link.specs.declared.receiver.Delivered.{Delivered}
use Rattle.lossy_link.specs.Receiver.{is_delivered}

-- the number has a mark, or is among the others
abbrev pub are_marked_or_other : Numbers → ℕ → Bool
are_marked_or_other numbers n = slice_index_or numbers.marks.items n false || contains nat_cmp numbers.others n

-- one number more, with which there are `count`, and few marks for each
pub record HasOneMore (old new : Numbers) (number count : ℕ) : Type 0 where
  pub more : (n : ℕ) → are_marked_or_other new n ≡ (are_marked_or_other old n || (number == n))
  pub few : length new.marks.items ≤ 16 * count

-- the same numbers, by as many marks
pub record HaveStayed (old new : Numbers) : Type 0 where
  pub same : (n : ℕ) → are_marked_or_other new n ≡ are_marked_or_other old n
  pub few : length new.marks.items ≡ length old.marks.items

-- the same numbers, by marks that reach a place, and that are more only if they must be
pub record HaveReached (old new : Numbers) (place : ℕ) : Type 0 where
  pub others : new.others ≡ old.others
  pub marks : (n : ℕ) → slice_index_or new.marks.items n false ≡ slice_index_or old.marks.items n false
  pub there : place < length new.marks.items
  pub few : (most : ℕ) → length old.marks.items ≤ most → place < most → length new.marks.items ≤ most

-- what was delivered over an ordered link has the numbers up to how much it is
abbrev pub has_number : Bool → List Delivered → Numbers → ℕ → Bool
has_number ordered pairs numbers n = if ordered then nat_lt n (length pairs) else are_marked_or_other numbers n

-- the numbers are those of the pairs, and no others, and there are few marks for each pair
pub record AreNumbersOf (ordered : Bool) (pairs : List Delivered) (numbers : Numbers) : Type 0 where
  pub each : (n : ℕ) → has_number ordered pairs numbers n ≡ is_delivered pairs n
  pub few : length numbers.marks.items ≤ 16 * length pairs
