-- Numbers that aren't known, as a sender keeps them.
use Rattle.std.specs.Prelude.{ℕ, suc, ◌<◌, ◌≤◌, not, List, [], ◌∷◌, length}
use Rattle.std.specs.FinSet as set
use Rattle.std.specs.List.{filter, range_with_len}
use Rattle.lossy_link.specs.Link.{is_among}
use Rattle.lossy_link.specs.Sender.{Numbers, Sender}

-- the numbers rise, from the first bound on, below the second
abbrev pub AreRising : ℕ → ℕ → List ℕ → Type 0
AreRising from to [] = Unit {0}
AreRising from to (n ∷ ns) = (from ≤ n) × (n < to) × AreRising (suc n) to ns

-- the numbers below a count that aren't among some
abbrev pub known_beside : ℕ → List ℕ → Numbers
known_beside count numbers = set.from_list (filter (λ n. not (is_among numbers n)) (range_with_len 0 count))

-- the sender of these items, of which these numbers aren't known
abbrev pub sender_with : List (List ℕ) → List ℕ → Sender
sender_with items numbers = record { items = items; known = known_beside (length items) numbers }
