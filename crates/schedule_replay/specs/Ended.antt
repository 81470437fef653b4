-- All events of a plan happened: those of a schedule, and where it is asked for those that end the run.
use Rattle.std.specs.Prelude.{◌≡◌, Bool, true, List, Some}
use Rattle.run_model.specs.declared.event.Event.{Event}
use Rattle.switch_ir.specs.Port.{PortState}
use Rattle.switch_ir.specs.Tables.{Told}
use Rattle.replay_state.specs.Drain.{is_drained, plan_events}
use Rattle.replay_state.specs.Journal.{Call}
use Rattle.replay_state.specs.State.{State}
use Rattle.replay_contracts.specs.Inputs.{Inputs, setup_for, whole, whole_runs}
use Rattle.replay_contracts.specs.Replay.{IsReplay, answered}
use Rattle.replay_contracts.specs.Replayer.{StaysTold}
use Rattle.replay_course.specs.declared.course.Course.{Course}
use Rattle.replay_course.specs.Going.{CanGoOn}
use Rattle.replay_course.specs.Shown.{IsShown}

pub record HasEnded (x : Inputs) (events : List Event) (drain : Bool) (c : Course) (first port : PortState)
    : Type 0 where
  pub calls : List Call
  pub last : State
  pub replay : IsReplay x (plan_events (setup_for x) (answered x calls) events drain) calls last port
  pub shown : IsShown (whole x) calls last c
  pub going : CanGoOn x c port
  pub stays : StaysTold first port
  pub drained : drain ≡ true → is_drained (setup_for x) last ≡ true
  -- over a port that tells its tables this is the plan of whole packets
  pub told : (tables : Told) → port.told ≡ Some tables
      → plan_events (setup_for x) (answered x calls) events drain ≡ plan_events (setup_for x) (whole_runs x) events drain
