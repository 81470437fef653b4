-- A replay over links that lose, repeat and reorder: which events of the world are performed, and what goes over each
-- link. Frames go up and down in any order, commands and their acknowledgements in order.
use Rattle.std.specs.Prelude.{◌≡◌, ℕ, ◌==◌, not, true, false, List, [], ◌∷◌, ◌++◌, Option, Some, None}
use Rattle.std.specs.Prelude.{drop, if◌then◌else◌, length, map, nat_lt, position, slice_get}
use Rattle.std.specs.List.{filter, range_with_len}
use Rattle.output_commit.specs.Batches.{commands_in}
use Rattle.lossy_link.specs.CommandBytes.{bytes_of}
use Rattle.lossy_link.specs.Sender.{item_at}
use Rattle.lossy_link.specs.Link.{Link, first_link, is_among, link_step, send, arrive, confirm, with_given}
use Rattle.run_model.specs.declared.event.Event.{Event}
use Rattle.run_model.specs.declared.event.Event.TheVariants.{Admit, Stage, Serve, Send, Apply, Ack, Hold, Down}
use Rattle.run_model.specs.declared.link_event.Link.{Link as LinkName}
use Rattle.run_model.specs.declared.link_event.Link.TheVariants as names
use Rattle.run_model.specs.declared.link_event.LinkEvent.{LinkEvent}
use Rattle.run_model.specs.declared.link_event.LinkEvent.TheVariants as link_event
use Rattle.replay_state.specs.Answers.{Setup}
use Rattle.replay_state.specs.Commands.{one_or_none}
use Rattle.replay_state.specs.State.{State}
use Rattle.replay_state.specs.Step.{applies}

-- The world: its state after events, and the frames in which packets go up, and go down from a state, by number.
pub record World : Type 0 where
  pub at : List Event → State
  pub up : ℕ → List ℕ
  pub down : State → ℕ → List ℕ

pub record Linked : Type 0 where
  -- the events of the world that were performed
  pub events : List Event
  -- the numbers of the frames that the server ran, and of those that the switch took
  pub ran : List ℕ
  pub taken : List ℕ
  pub up : Link
  pub down : Link
  pub ctl : Link
  pub ack : Link

abbrev pub first_linked : Linked
first_linked = record {
  events = [];
  ran = [];
  taken = [];
  up = first_link false;
  down = first_link false;
  ctl = first_link true;
  ack = first_link true;
}

-- ## What the links let happen

abbrev pub without : List ℕ → List ℕ → List ℕ
without gone numbers = filter (λ n. not (is_among gone n)) numbers

-- the frames that weren't taken, in the order in which they were given, and those of them that were delivered, in the
-- order in which they were
abbrev pub standing : Link → List ℕ → List ℕ
standing l gone = without gone (range_with_len 0 (length l.items))

abbrev pub arrived : Link → List ℕ → List ℕ
arrived l gone = without gone l.got

abbrev pub place_in : List ℕ → Option ℕ → Option ℕ
place_in numbers None = None
place_in numbers (Some number) = position (λ n. n == number) numbers

-- the place among the frames that weren't taken of the j-th of those that were delivered
abbrev pub place_of : Link → List ℕ → ℕ → Option ℕ
place_of l gone j = place_in (standing l gone) (slice_get (arrived l gone) j)

abbrev pub at_place : (ℕ → Event) → Option ℕ → Option Event
at_place event None = None
at_place event (Some j) = Some (event j)

-- The event with its place as the world counts, where the links let it happen: one of a frame where that was delivered
-- and not taken before, one of a command or an acknowledgement where more were delivered than are done or known. A pass
-- takes one event, so there is none of a stage.
abbrev pub let_by : Linked → State → Event → Option Event
let_by l st Admit = Some Admit
let_by l st (Stage j) = None
let_by l st (Serve j) = at_place Serve (place_of l.up l.ran j)
let_by l st Send = Some Send
let_by l st Apply = if nat_lt st.done (length l.ctl.got) then Some Apply else None
let_by l st Ack = if nat_lt st.acked (length l.ack.got) then Some Ack else None
let_by l st (Hold j) = Some (Hold j)
let_by l st (Down j) = at_place Down (place_of l.down l.taken j)

-- ## What goes over the links

-- what a list has behind those that it had
abbrev pub behind : {X : Type 0} → List X → List X → List X
behind before now = drop (length before) now

abbrev pub given_all : Link → List (List ℕ) → Link
given_all l items = record l { items = l.items ++ items }

abbrev pub gone_on : List ℕ → Option ℕ → List ℕ
gone_on gone None = gone
gone_on gone (Some number) = gone ++ number ∷ []

-- The frame of a packet that goes up since then is given to the link up, that of one that is let go to the link down, the
-- bytes of a command that was sent to the link of commands, and an empty item for one that was applied to that of
-- acknowledgements. The frame that was run, or taken, isn't there any more.
abbrev pub gives : World → Linked → Event → State → State → Linked
gives w l Admit before after = record l { up = given_all l.up (map w.up (behind before.up after.up)) }
gives w l (Stage j) before after = l
gives w l (Serve j) before after = record l { ran = gone_on l.ran (slice_get (arrived l.up l.ran) j) }
gives w l Send before after =
    record l { ctl = given_all l.ctl (map bytes_of (one_or_none (slice_get (commands_in after.batches) before.sent))) }
gives w l Apply before after = record l { ack = with_given l.ack [] }
gives w l Ack before after = l
gives w l (Hold j) before after =
    record l { down = given_all l.down (map (w.down after) (behind before.down after.down)) }
gives w l (Down j) before after = record l { taken = gone_on l.taken (slice_get (arrived l.down l.taken) j) }

-- an event of the schedule was performed as this event of the world
abbrev pub performed : World → Linked → Event → Event → Linked
performed w l event own =
    let events = l.events ++ own ∷ [] in
    record (gives w l event (w.at l.events) (w.at events)) { events = events }

-- ## All events

-- it is performed only where it applies; else nothing happens, and it isn't counted
abbrev pub performed_if : Setup → World → Linked → Event → Option Event → Linked
performed_if setup w l event None = l
performed_if setup w l event (Some own) =
    if applies setup (w.at l.events) own then performed w l event own else l

abbrev pub at_link : (Link → Link) → Linked → LinkName → Linked
at_link change l names.Up = record l { up = change l.up }
at_link change l names.Down = record l { down = change l.down }
at_link change l names.Ctl = record l { ctl = change l.ctl }
at_link change l names.Ack = record l { ack = change l.ack }

abbrev pub linked_step : Setup → World → Linked → LinkEvent → Linked
linked_step setup w l (link_event.World event) = performed_if setup w l event (let_by l (w.at l.events) event)
linked_step setup w l (link_event.Transmit name j) = at_link (λ link. link_step link (send j)) l name
linked_step setup w l (link_event.Deliver name j) = at_link (λ link. link_step link (arrive j)) l name
linked_step setup w l (link_event.Confirm name j) = at_link (λ link. link_step link (confirm j)) l name

abbrev pub linked_steps : Setup → World → Linked → List LinkEvent → Linked
linked_steps setup w l [] = l
linked_steps setup w l (event ∷ events) = linked_steps setup w (linked_step setup w l event) events

-- the links, and the events of the world that came through, behind a whole schedule
abbrev pub linked_of : Setup → World → List LinkEvent → Linked
linked_of setup w schedule = linked_steps setup w first_linked schedule

abbrev pub through : Setup → World → List LinkEvent → List Event
through setup w schedule = (linked_of setup w schedule).events

-- ## What a place tells

-- The j-th of the frames that were delivered and not taken has a place, and the packet at that place in the world is on
-- its way in just that frame.
pub record TakeWhatCame (w : World) (l : Linked) : Type 0 where
  pub up : (j number : ℕ) → slice_get (arrived l.up l.ran) j ≡ Some number
      → (place n : ℕ) × (place_of l.up l.ran j ≡ Some place) × (slice_get (w.at l.events).up place ≡ Some n)
      × (w.up n ≡ item_at l.up.items number)
  pub down : (j number : ℕ) → slice_get (arrived l.down l.taken) j ≡ Some number
      → (place n : ℕ) × (place_of l.down l.taken j ≡ Some place) × (slice_get (w.at l.events).down place ≡ Some n)
      × (w.down (w.at l.events) n ≡ item_at l.down.items number)
