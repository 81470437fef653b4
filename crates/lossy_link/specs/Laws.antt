-- What holds over every list of link steps.
use Rattle.std.specs.Prelude.{◌≡◌, ◌≢◌, ◌<◌, ℕ, Bool, true, List, [], ◌∷◌, length, Some, slice_get, All}
use Rattle.std.specs.FinSet as set
use Rattle.std.specs.List.{AllPairs, Contains, range_with_len}
use Rattle.lossy_link.specs.Link.{Link, LinkStep, give, send, arrive, confirm, first_link, link_step, link_through}
use Rattle.lossy_link.specs.Ends.{first_ends, ends_step, ends_through, ends_of}

-- the items that steps give, in order
abbrev pub given_in : List LinkStep → List (List ℕ)
given_in [] = []
given_in (give item ∷ steps) = item ∷ given_in steps
given_in (send j ∷ steps) = given_in steps
given_in (arrive j ∷ steps) = given_in steps
given_in (confirm j ∷ steps) = given_in steps

-- a link delivers each item at most once, and what it says to be delivered is
pub record IsFaithful (l : Link) : Type 0 where
  -- only numbers of items are sent, delivered and sent back
  pub sent : All (λ n. n < length l.items) l.sent
  pub items : All (λ n. n < length l.items) l.got
  -- each number is delivered at most once
  pub once : AllPairs (λ m n. m ≢ n) l.got
  -- on an ordered link the numbers delivered are the first of all, in order
  pub in_order : l.ordered ≡ true → l.got ≡ range_with_len 0 (length l.got)
  -- what is sent back was delivered, and so was what the sender knows
  pub back : All (Contains l.got) l.back
  pub known : (n : ℕ) → set.contains l.known n ≡ true → Contains l.got n

-- over all steps, the items are those that were given, and the link is faithful
pub record IsLinkOf (ordered : Bool) (steps : List LinkStep) : Type 0 where
  pub given : (link_through (first_link ordered) steps).items ≡ given_in steps
  pub faithful : IsFaithful (link_through (first_link ordered) steps)

-- the ends that work by datagrams and confirmations are those of the link, and each item that is delivered by a number
-- is the one that was given by it
pub record AreEndsOf (ordered : Bool) (steps : List LinkStep) : Type 0 where
  pub ends : ends_through (first_ends ordered) steps ≡ ends_of (link_through (first_link ordered) steps)
  pub delivered : All (λ p. slice_get (given_in steps) p.number ≡ Some p.item)
      (ends_through (first_ends ordered) steps).receiver.pairs

-- one step more: a link stays faithful, and its ends stay its ends
pub record IsOneStep (l : Link) (step : LinkStep) : Type 0 where
  pub faithful : IsFaithful (link_step l step)
  pub ends : ends_step (ends_of l) step ≡ ends_of (link_step l step)
