-- Marks of numbers from 0 on, and counts of those that are set.
use Rattle.std.specs.Prelude.{◌≡◌, ℕ, zero, suc, ◌+◌, ◌-◌, ◌*◌, ◌<◌, ◌≤◌, Bool, true, false, List, [], ◌∷◌, ◌++◌, length, get_or}

-- how many of the first so many are set
unfoldable pub set_below : List Bool → ℕ → ℕ
set_below [] n = 0
set_below (mark ∷ marks) zero = 0
set_below (true ∷ marks) (suc n) = suc (set_below marks n)
set_below (false ∷ marks) (suc n) = set_below marks n

-- the numbers that are set, where the first mark is that of the number given
unfoldable pub numbers_set : ℕ → List Bool → List ℕ
numbers_set first [] = []
numbers_set first (true ∷ marks) = first ∷ numbers_set (first + 1) marks
numbers_set first (false ∷ marks) = numbers_set (first + 1) marks

-- 2 ^ k
unfoldable pub span_of : ℕ → ℕ
span_of zero = 1
span_of (suc k) = 2 * span_of k

-- Each span of numbers is two halves. The count of those that are set in its first half stands before the place where
-- the second begins, if so many counts there are, and so do the counts of the halves. `below n` of all are set below n.
unfoldable pub AreCounts : (below : ℕ → ℕ) (counts : List ℕ) (start k : ℕ) → Type 0
AreCounts below counts start zero = Unit {0}
AreCounts below counts start (suc k) =
    (start + span_of k ≤ length counts → get_or counts (start + span_of k - 1) 0 + below start ≡ below (start + span_of k))
    × AreCounts below counts start k
    × AreCounts below counts (start + span_of k) k

-- one number is set no more
pub record IsOneLess (number : ℕ) (below after : ℕ → ℕ) : Type 0 where
  pub same : (n : ℕ) → n ≤ number → below n ≡ after n
  pub less : (n : ℕ) → suc number ≤ n → below n ≡ suc (after n)
  pub rises : (m n : ℕ) → m ≤ n → after m ≤ after n

-- one number more is set, behind all others
pub record IsOneMore (count : ℕ) (below after : ℕ → ℕ) : Type 0 where
  pub same : (n : ℕ) → n ≤ count → below n ≡ after n
  pub more : after (suc count) ≡ suc (below count)
  pub rises : (m n : ℕ) → m ≤ n → below m ≤ below n

-- the number that is set where `j` are set from the start of this span on before it
abbrev pub IsFound : (counts : List ℕ) (start span j number : ℕ) → Type 0
IsFound counts start span j number =
    (k : ℕ) (below : ℕ → ℕ) → span ≡ span_of k
    → ((n : ℕ) → length counts ≤ n → below n ≡ below (length counts))
    → j + below start < below (start + span)
    → AreCounts below counts start k
    → (below number ≤ j + below start) × (j + below start < below (suc number))

-- this number isn't set any more
abbrev pub AreLowered : (counts lowered : List ℕ) (start span number : ℕ) → Type 0
AreLowered counts lowered start span number =
    (k : ℕ) (below after : ℕ → ℕ) → span ≡ span_of k
    → IsOneLess number below after
    → start ≤ number → number < start + span
    → AreCounts below counts start k
    → AreCounts after lowered start k

-- where `left` are set from the start of this span on, and one number more is set, this is the count that comes behind
-- the others
abbrev pub IsCountBehind : (counts : List ℕ) (start span left count : ℕ) → Type 0
IsCountBehind counts start span left count =
    (k : ℕ) (below after : ℕ → ℕ) → span ≡ span_of k
    → IsOneMore (length counts) below after
    → start ≤ length counts → suc (length counts) < start + span
    → left + below start ≡ below (length counts)
    → AreCounts below counts start k
    → AreCounts after (counts ++ count ∷ []) start k

-- what is set, and how it is counted
pub record IsCounted (marks : List Bool) (counts : List ℕ) (total : ℕ) : Type 0 where
  pub tree : AreCounts (set_below marks) counts 0 32
  pub long : length counts ≡ length marks
  pub all : total ≡ set_below marks (length marks)
  pub few : length marks ≤ 4294967295
