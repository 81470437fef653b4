-- The end of a link that receives.
use Rattle.std.specs.Prelude.{ℕ, ◌==◌, Bool, ◌&&◌, List, [], ◌∷◌, ◌++◌, length, nat_lt, if◌then◌else◌}
use Rattle.std.specs.List.{list_any}
use Rattle.lossy_link.specs.declared.answers.Took.{Took}
use Rattle.lossy_link.specs.declared.answers.Took.TheVariants.{New, Again, Early, Malformed}
use Rattle.lossy_link.specs.declared.receiver.Delivered.{Delivered}
use Rattle.lossy_link.specs.Datagrams.{number_in, item_in}

pub record Receiver : Type 0 where
  -- whether each item is delivered only as the next one
  pub ordered : Bool
  -- what was delivered, in order
  pub pairs : List Delivered

abbrev pub first_receiver : Bool → Receiver
first_receiver ordered = record { ordered = ordered; pairs = [] }

abbrev pub is_delivered : List Delivered → ℕ → Bool
is_delivered pairs number = list_any (λ p. p.number == number) pairs

-- the link is ordered, and the number is above the next one
abbrev pub is_early : Receiver → ℕ → Bool
is_early r number = r.ordered && nat_lt (length r.pairs) number

-- what a number is answered
abbrev pub took_number : Receiver → ℕ → Took
took_number r number =
    if is_delivered r.pairs number then Again number else (if is_early r number then Early number else New number)

-- what a datagram is answered
abbrev pub take_answer : Receiver → List ℕ → Took
take_answer r bytes = if nat_lt (length bytes) 4 then Malformed else took_number r (number_in bytes)

-- an item is delivered behind the others
abbrev pub with_pair : Receiver → ℕ → List ℕ → Receiver
with_pair r number item =
    record { ordered = r.ordered; pairs = r.pairs ++ record { number = number; item = item } ∷ [] }

-- a new item is delivered, and nothing else is
abbrev pub with_item : Receiver → List ℕ → Took → Receiver
with_item r item (New number) = with_pair r number item
with_item r item _ = r

-- what a datagram leaves
abbrev pub after_take : Receiver → List ℕ → Receiver
after_take r bytes = with_item r (item_in bytes) (take_answer r bytes)
