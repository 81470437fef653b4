-- What holds over every list of link steps, as the definitions give it.
use Rattle.std.specs.Prelude.{Bool, List, length, ◌<◌, ◌^◌}
use Rattle.lossy_link.proofs.Faithful.{is_link}
use Rattle.lossy_link.proofs.Performed.{are_ends, one_step}
use Rattle.lossy_link.specs.Laws.{AreEndsOf, IsFaithful, IsLinkOf, IsOneStep, given_in}
use Rattle.lossy_link.specs.Link.{Link, LinkStep, link_step}

-- A link delivers each item at most once, only items that were given, and on an ordered link in their order. What its
-- sender knows to be delivered was delivered.
pub links_are_faithful : (ordered : Bool) (steps : List LinkStep) → IsLinkOf ordered steps
links_are_faithful = is_link

-- Ends that work by the datagrams that the sender made and by the confirmations that the receiver's answers give are
-- those of the link, and what was delivered by a number is the item that was given by it.
pub ends_are_those_of_the_link : (ordered : Bool) (steps : List LinkStep) → length (given_in steps) < 2 ^ 32 → AreEndsOf ordered steps
ends_are_those_of_the_link = are_ends

-- The same one step at a time, from any faithful link.
pub one_step_more : (l : Link) (step : LinkStep) → IsFaithful l → length (link_step l step).items < 2 ^ 32
    → IsOneStep l step
one_step_more = one_step
