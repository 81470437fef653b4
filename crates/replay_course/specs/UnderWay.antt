-- A course on its way through the events of a schedule, and through those that end a run.
use Rattle.std.specs.Prelude.{◌≡◌, ℕ, ◌+◌, ◌-◌, ◌*◌, List, ◌++◌, length}
use Rattle.run_model.specs.declared.event.Event.{Event}
use Rattle.output_commit.specs.Commit.{commands}
use Rattle.switch_ir.specs.Port.{PortState}
use Rattle.replay_state.specs.Drain.{packet_events, pass_events, up_events, weight}
use Rattle.replay_state.specs.Journal.{Call}
use Rattle.replay_state.specs.State.{State}
use Rattle.replay_contracts.specs.Inputs.{Inputs, setup_for, whole}
use Rattle.replay_contracts.specs.Replay.{HasDrained, HasPicked, IsReplay}
use Rattle.replay_contracts.specs.Replayer.{StaysTold}
use Rattle.replay_course.specs.declared.course.Course.{Course}
use Rattle.replay_course.specs.Going.{CanGoOn}
use Rattle.replay_course.specs.Shown.{IsShown}

-- ## The events of a schedule

-- some calls made a replay of these events, which the course shows
pub record HasReplayed (x : Inputs) (events : List Event) (c : Course) (port : PortState) : Type 0 where
  pub calls : List Call
  pub st : State
  pub replay : IsReplay x events calls st port
  pub shown : IsShown (whole x) calls st c
  pub going : CanGoOn x c port
  pub counted : c.events ≡ length events

-- the same from a port as it was before
pub record HasReplayedFrom (x : Inputs) (events : List Event) (c : Course) (first port : PortState) : Type 0 where
  pub under_way : HasReplayed x events c port
  pub stays : StaysTold first port

-- so it is of some events
pub record HasReplayedSome (x : Inputs) (c : Course) (port : PortState) : Type 0 where
  pub events : List Event
  pub under_way : HasReplayed x events c port

-- ## The events that end a run

-- how many events are left at most, by what the course has
abbrev pub course_left : Inputs → Course → ℕ
course_left x c =
    (length x.packets - length c.fates.items) * packet_events (setup_for x)
    + weight (pass_events (setup_for x)) c.passes + length c.up.items * up_events (setup_for x)
    + length c.commit.held * (2 + (setup_for x).post_stages) + length c.down.items * (1 + (setup_for x).post_stages)
    + 3 * (length (commands c.commit) - c.commit.sent) + 2 * (c.commit.sent - c.commit.done)
    + (c.commit.done - c.commit.acked)

-- so many events behind others, each the one that drain picks, and the calls that they made
pub record HasPickedOn (x : Inputs) (events : List Event) (calls : List Call) (count : ℕ) (after : Course)
    (new : PortState) : Type 0 where
  pub more : List Event
  pub others : List Call
  pub last : State
  pub picked : HasPicked x events more (calls ++ others) last new
  pub shown : IsShown (whole x) (calls ++ others) last after
  pub counted : length more ≡ count

-- and they have drained the run
pub record HasDrainedOn (x : Inputs) (events : List Event) (calls : List Call) (count : ℕ) (after : Course)
    (new : PortState) : Type 0 where
  pub on : HasPickedOn x events calls count after new
  pub drained : HasDrained x events on.more (calls ++ on.others) on.last new

-- so it is of each replay that the course showed
pub record IsDraining (x : Inputs) (count : ℕ) (c : Course) (old : PortState) (after : Course) (new : PortState)
    : Type 0 where
  pub going : CanGoOn x after new
  pub stays : StaysTold old new
  pub events : after.events ≡ c.events + count
  pub turns : (events : List Event) (calls : List Call) (st : State)
      → IsReplay x events calls st old → IsShown (whole x) calls st c → HasPickedOn x events calls count after new

pub record Drains (x : Inputs) (count : ℕ) (c : Course) (old : PortState) (after : Course) (new : PortState)
    : Type 0 where
  pub going : CanGoOn x after new
  pub stays : StaysTold old new
  pub events : after.events ≡ c.events + count
  pub turns : (events : List Event) (calls : List Call) (st : State)
      → IsReplay x events calls st old → IsShown (whole x) calls st c → HasDrainedOn x events calls count after new
