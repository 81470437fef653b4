-- A replayer as its clauses see it. No code keeps the events that it performed: each clause speaks of every list of
-- events of which its course shows a replay.
use Rattle.std.specs.Prelude.{◌≡◌, ◌≤◌, ◌+◌, ℕ, List, length, Option, None}
use Rattle.run_model.specs.Sizes.{most_events, most_packets}
use Rattle.run_model.specs.declared.event.Event.{Event}
use Rattle.switch_ir.specs.Port.{PortState}
use Rattle.replay_state.specs.Drain.{drain_bound}
use Rattle.replay_contracts.specs.Inputs.{Inputs, setup_for}
use Rattle.replay_contracts.specs.Replayer.{IsAlive, Replayer as Seen}
use Rattle.replay_contracts.specs.declared.job.ReplayError.{ReplayError}
use Rattle.replay_course.specs.declared.course.Course.{Course}
use Rattle.replay_course.specs.UnderWay.{HasReplayed, course_left}

-- what is replayed, how far its course has come, the switch, how many of its events were steps, and the error that it
-- answers from then on
pub record Replaying (S : Type 0) : Type 0 where
  pub given : Inputs
  pub course : Course
  pub port : S
  pub steps : ℕ
  pub failed : Option ReplayError

-- with the events that it performed, by its parts
abbrev pub replayer_of : Inputs → List Event → ℕ → PortState → Option ReplayError → Seen
replayer_of x events steps port failed = record {
  given = x;
  events = events;
  steps = steps;
  port = port;
  failed = failed;
}

abbrev pub seen_as : {S : Type 0} → (S → PortState) → List Event → Replaying S → Seen
seen_as seen events r = replayer_of r.given events r.steps (seen r.port) r.failed

-- the events are a replay that the course shows; what is left of them and of drain is within the steps and the bound
pub record IsPerforming (x : Inputs) (events : List Event) (c : Course) (port : PortState) (steps : ℕ) : Type 0 where
  pub under_way : HasReplayed x events c port
  pub left : length events + course_left x c ≤ steps + drain_bound (setup_for x)

abbrev pub HasPerformed : {S : Type 0} → (S → PortState) → List Event → Replaying S → Type 0
HasPerformed seen events r = IsPerforming r.given events r.course (seen r.port) r.steps

-- what stands between calls, whether one failed or not
pub record IsKept (x : Inputs) (c : Course) (port : PortState) (steps : ℕ) (failed : Option ReplayError)
    : Type 0 where
  pub few_packets : length x.packets ≤ most_packets
  pub within : steps ≤ most_events
  pub events : List Event
  pub alive : IsAlive (replayer_of x events steps port failed)
  pub performed : failed ≡ None → IsPerforming x events c port steps

abbrev pub IsStanding : {S : Type 0} → (S → PortState) → Replaying S → Type 0
IsStanding seen r = IsKept r.given r.course (seen r.port) r.steps r.failed
