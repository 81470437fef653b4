-- A link that loses, repeats and reorders what is sent on it. What is lost is never picked, what is repeated is picked
-- more than once.
use Rattle.std.specs.Prelude.{ℕ, ◌==◌, Bool, ◌&&◌, ◌||◌, not, List, [], ◌∷◌, ◌++◌, length, Option, Some, None}
use Rattle.std.specs.Prelude.{slice_get, if◌then◌else◌}
use Rattle.std.specs.FinSet as set
use Rattle.std.specs.List.{list_any}
use Rattle.lossy_link.specs.Sender.{Numbers, unknown}

pub record Link : Type 0 where
  -- whether an item is delivered only as the next one
  pub ordered : Bool
  -- all that was given; the number of an item is its place
  pub items : List (List ℕ)
  -- the numbers of all datagrams that were sent
  pub sent : List ℕ
  -- the numbers that were delivered, in order
  pub got : List ℕ
  -- the numbers of all confirmations that were sent back
  pub back : List ℕ
  -- the numbers that the sender knows to be delivered
  pub known : Numbers

abbrev pub first_link : Bool → Link
first_link ordered = record { ordered = ordered; items = []; sent = []; got = []; back = []; known = set.empty }

-- one more item
abbrev pub with_given : Link → List ℕ → Link
with_given l item = record l { items = l.items ++ item ∷ [] }

-- ---- a datagram is sent

abbrev pub with_sent : Link → Option ℕ → Link
with_sent l None = l
with_sent l (Some number) = record l { sent = l.sent ++ number ∷ [] }

-- the j-th of the numbers that aren't known, the lowest first, is sent, where there is one
abbrev pub after_send : Link → ℕ → Link
after_send l j = with_sent l (slice_get (unknown l.items l.known) j)

-- ---- a datagram arrives

abbrev pub is_among : List ℕ → ℕ → Bool
is_among numbers number = list_any (λ n. n == number) numbers

-- it wasn't delivered, and on an ordered link it is the next
abbrev pub is_due : Link → ℕ → Bool
is_due l number = not (is_among l.got number) && (not l.ordered || (number == length l.got))

abbrev pub got_after : Link → ℕ → List ℕ
got_after l number = if is_due l number then l.got ++ number ∷ [] else l.got

-- a number that is delivered by now is sent back
abbrev pub back_after : Link → ℕ → List ℕ
back_after l number = if is_among (got_after l number) number then l.back ++ number ∷ [] else l.back

abbrev pub with_arrived : Link → Option ℕ → Link
with_arrived l None = l
with_arrived l (Some number) = record l { got = got_after l number; back = back_after l number }

-- the j-th datagram arrives, where so many were sent
abbrev pub after_arrival : Link → ℕ → Link
after_arrival l j = with_arrived l (slice_get l.sent j)

-- ---- a confirmation comes back

abbrev pub with_confirmed : Link → Option ℕ → Link
with_confirmed l None = l
with_confirmed l (Some number) = record l { known = set.insert l.known number }

-- the j-th confirmation comes back, where so many were sent back
abbrev pub after_confirmation : Link → ℕ → Link
after_confirmation l j = with_confirmed l (slice_get l.back j)

-- ---- all steps

pub data LinkStep : Type 0 where
  give : (item : List ℕ) → LinkStep
  send : (j : ℕ) → LinkStep
  arrive : (j : ℕ) → LinkStep
  confirm : (j : ℕ) → LinkStep

abbrev pub link_step : Link → LinkStep → Link
link_step l (give item) = with_given l item
link_step l (send j) = after_send l j
link_step l (arrive j) = after_arrival l j
link_step l (confirm j) = after_confirmation l j

abbrev pub link_through : Link → List LinkStep → Link
link_through l [] = l
link_through l (step ∷ steps) = link_through (link_step l step) steps
