-- The two ends of a link at work, and the bytes between them.
use Rattle.std.specs.Prelude.{ℕ, Bool, List, [], ◌∷◌, ◌++◌, map, Option, Some, None, slice_get}
use Rattle.lossy_link.specs.declared.answers.Took.{Took}
use Rattle.lossy_link.specs.declared.answers.Took.TheVariants.{New, Again}
use Rattle.lossy_link.specs.declared.receiver.Delivered.{Delivered}
use Rattle.lossy_link.specs.Datagrams.{datagram, number_bytes}
use Rattle.lossy_link.specs.Sender.{Sender, first_sender, given, item_at, unknown, datagram_of, after_confirm}
use Rattle.lossy_link.specs.Receiver.{Receiver, first_receiver, take_answer, after_take}
use Rattle.lossy_link.specs.Link.{Link, LinkStep, give, send, arrive, confirm}

pub record Ends : Type 0 where
  pub sender : Sender
  pub receiver : Receiver
  -- all datagrams that the sender made, and all confirmations that the receiver's answers gave
  pub datagrams : List (List ℕ)
  pub confirmations : List (List ℕ)

abbrev pub first_ends : Bool → Ends
first_ends ordered =
    record { sender = first_sender; receiver = first_receiver ordered; datagrams = []; confirmations = [] }

-- a datagram of this number is made
abbrev pub ends_sent : Ends → Option ℕ → Ends
ends_sent e None = e
ends_sent e (Some number) = record e { datagrams = e.datagrams ++ datagram_of e.sender number ∷ [] }

-- what is delivered, now or before, is confirmed
abbrev pub confirmations_of : Took → List (List ℕ)
confirmations_of (New number) = number_bytes number ∷ []
confirmations_of (Again number) = number_bytes number ∷ []
confirmations_of _ = []

-- these bytes are taken
abbrev pub ends_arrived : Ends → Option (List ℕ) → Ends
ends_arrived e None = e
ends_arrived e (Some bytes) = record e {
  receiver = after_take e.receiver bytes;
  confirmations = e.confirmations ++ confirmations_of (take_answer e.receiver bytes);
}

-- these bytes confirm
abbrev pub ends_confirmed : Ends → Option (List ℕ) → Ends
ends_confirmed e None = e
ends_confirmed e (Some bytes) = record e { sender = after_confirm e.sender bytes }

-- a step of the link, performed by the calls of its ends
abbrev pub ends_step : Ends → LinkStep → Ends
ends_step e (give item) = record e { sender = given e.sender item }
ends_step e (send j) = ends_sent e (slice_get (unknown e.sender.items e.sender.known) j)
ends_step e (arrive j) = ends_arrived e (slice_get e.datagrams j)
ends_step e (confirm j) = ends_confirmed e (slice_get e.confirmations j)

abbrev pub ends_through : Ends → List LinkStep → Ends
ends_through e [] = e
ends_through e (step ∷ steps) = ends_through (ends_step e step) steps

-- ---- the ends of a link

abbrev pub sender_of : Link → Sender
sender_of l = record { items = l.items; known = l.known }

abbrev pub pair_of : List (List ℕ) → ℕ → Delivered
pair_of items number = record { number = number; item = item_at items number }

abbrev pub receiver_of : Link → Receiver
receiver_of l = record { ordered = l.ordered; pairs = map (pair_of l.items) l.got }

abbrev pub ends_of : Link → Ends
ends_of l = record {
  sender = sender_of l;
  receiver = receiver_of l;
  datagrams = map (λ n. datagram n (item_at l.items n)) l.sent;
  confirmations = map number_bytes l.back;
}
