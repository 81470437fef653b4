-- A replay over links on its way, as the code keeps it.
use Rattle.std.specs.Prelude.{◌≡◌, ◌≤◌, ◌<◌, ◌-◌, ℕ, List, [], ◌++◌, false, true, Some, drop, if◌then◌else◌, length, map, nat_lt, slice_get}
use Rattle.run_model.specs.Sizes.{most_events}
use Rattle.lossy_link.specs.CommandBytes.{bytes_of}
use Rattle.lossy_link.specs.Link.{Link, is_among, with_given}
use Rattle.lossy_link.specs.Sender.{item_at}
use Rattle.output_commit.specs.Commit.{last_sent}
use Rattle.run_model.specs.declared.event.Event.{Event}
use Rattle.run_model.specs.declared.event.Event.TheVariants.{Admit, Stage, Serve, Send, Apply, Ack, Hold, Down}
use Rattle.replay_state.specs.Commands.{one_or_none}
use Rattle.run_model.specs.declared.link_event.LinkEvent.{LinkEvent}
use Rattle.switch_ir.specs.Port.{PortState}
use Rattle.switch_ir.specs.Tables.{Told}
use Rattle.replay_state.specs.Journal.{Call}
use Rattle.replay_state.specs.State.{State}
use Rattle.replay_contracts.specs.Inputs.{Inputs, setup_for, whole}
use Rattle.replay_contracts.specs.Replay.{IsReplay}
use Rattle.replay_contracts.specs.Replayer.{StaysTold}
use Rattle.replay_course.specs.declared.course.Course.{Course}
use Rattle.replay_course.specs.Going.{CanGoOn}
use Rattle.replay_course.specs.Shown.{IsShown}
use Rattle.lossy_replay.specs.Linked.{World, Linked, arrived, given_all, gone_on, linked_of, standing}
use Rattle.lossy_replay.specs.Lines.{IsAtWork, link_of}
use Rattle.lossy_replay.specs.Replay.{HasItems, linked_by, world_by, world_of}
use Rattle.lossy_replay.specs.Ways.{IsWay}
use Rattle.lossy_replay.specs.declared.line.Line.{Line}
use Rattle.lossy_replay.specs.declared.links.Links.{Links}

-- at most so many items were given to a link, so many datagrams sent on it, and so many items delivered
pub record HasFew (n : ℕ) (line : Line) : Type 0 where
  pub items : length line.sender.items ≤ n
  pub sent : length line.sent.items ≤ n
  pub got : length line.receiver.pairs ≤ n

-- the links are these, with at most so many items and datagrams each
pub record AreLinks (n : ℕ) (l : Linked) (links : Links) : Type 0 where
  pub up : IsWay l.up l.ran links.up
  pub down : IsWay l.down l.taken links.down
  pub ctl : IsAtWork links.ctl
  pub ctl_is : link_of links.ctl ≡ l.ctl
  pub ack : IsAtWork links.ack
  pub ack_is : link_of links.ack ≡ l.ack
  pub few_up : HasFew n links.up.line
  pub few_down : HasFew n links.down.line
  pub few_ctl : HasFew n links.ctl
  pub few_ack : HasFew n links.ack

-- what was delivered and not taken stands among all that weren't taken
abbrev pub StillStand : Link → List ℕ → Type 0
StillStand l gone = (j number : ℕ) → slice_get (arrived l gone) j ≡ Some number → is_among (standing l gone) number ≡ true

-- the frames on their way are the items that weren't taken, in the order in which they were given
pub record ArePlaced (w : World) (l : Linked) : Type 0 where
  pub up : map w.up (w.at l.events).up ≡ map (λ n. item_at l.up.items n) (standing l.up l.ran)
  pub down : map (w.down (w.at l.events)) (w.at l.events).down
      ≡ map (λ n. item_at l.down.items n) (standing l.down l.taken)
  pub stand_up : StillStand l.up l.ran
  pub stand_down : StillStand l.down l.taken

-- so it is before each event of a schedule, and behind it, of the world that these calls and any more determine
abbrev pub StayPlaced : Inputs → List LinkEvent → List Call → Type 0
StayPlaced x schedule calls = (more : List Call) (before behind : List LinkEvent) → schedule ≡ before ++ behind
    → ArePlaced (world_by x (calls ++ more)) (linked_by x (calls ++ more) before)

-- Some calls made a replay of the events that came through, which the course shows, and the links are those behind this
-- schedule. Calls behind these leave that as it is; over a switch that tells its tables, whole packets lead to the same.
pub record IsLinking (x : Inputs) (schedule : List LinkEvent) (links : Links) (c : Course) (port : PortState)
    : Type 0 where
  pub plain : x.manner.fine ≡ false
  pub calls : List Call
  pub st : State
  pub linked : Linked
  pub stands : (more : List Call) → linked_by x (calls ++ more) schedule ≡ linked
  pub replay : IsReplay x linked.events calls st port
  pub shown : IsShown (whole x) calls st c
  pub going : CanGoOn x c port
  pub counted : c.events ≡ length linked.events
  pub few : length linked.events ≤ length schedule
  pub items : HasItems x linked calls st
  pub links_are : AreLinks (length schedule) linked links
  pub placed : StayPlaced x schedule calls
  pub told : (tables : Told) → port.told ≡ Some tables → linked_of (setup_for x) (world_of x) schedule ≡ linked

-- so it is of some schedule that is short enough to go on
pub record IsLinkingShort (x : Inputs) (links : Links) (c : Course) (port : PortState) : Type 0 where
  pub schedule : List LinkEvent
  pub short : length schedule < most_events
  pub linking : IsLinking x schedule links c port

-- it came so from a port as it was before
pub record HasLinked (x : Inputs) (schedule : List LinkEvent) (links : Links) (c : Course) (first port : PortState)
    : Type 0 where
  pub linking : IsLinking x schedule links c port
  pub stays : StaysTold first port

-- ## What one event gives, by what the course has then

-- the frame that stands last, where there are more than there were
abbrev pub newest : ℕ → List (ℕ × List ℕ) → List (List ℕ)
newest before items =
    if nat_lt before (length items) then map (λ item. item.1) (drop (length items - 1) items) else []

abbrev pub noted : Course → ℕ → Linked → Event → Linked
noted c before l Admit = record l { up = given_all l.up (newest before c.up.items) }
noted c before l (Stage j) = l
noted c before l (Serve j) = record l { ran = gone_on l.ran (slice_get (arrived l.up l.ran) j) }
noted c before l Send = record l { ctl = given_all l.ctl (map bytes_of (one_or_none (last_sent c.commit))) }
noted c before l Apply = record l { ack = with_given l.ack [] }
noted c before l Ack = l
noted c before l (Hold j) = record l { down = given_all l.down (newest 0 c.down.items) }
noted c before l (Down j) = record l { taken = gone_on l.taken (slice_get (arrived l.down l.taken) j) }
