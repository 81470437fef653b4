-- A replay over a port: its events, the calls that they made, and the state that these determine.
use Rattle.std.specs.Prelude.{◌≡◌, ◌≤◌, List, [], ◌++◌, Some, true, length}
use Rattle.std.specs.List.{AllByRecursion as Each}
use Rattle.run_model.specs.declared.event.Event.{Event}
use Rattle.switch_ir.specs.Port.{PortState}
use Rattle.switch_ir.specs.Tables.{Told, IsStart}
use Rattle.switch_ir.specs.UnderWay.{UnderWay, none_under_way}
use Rattle.replay_state.specs.Answers.{Answers}
use Rattle.replay_state.specs.Drain.{Picks, drain_bound, is_drained, plan_events}
use Rattle.replay_state.specs.Journal.{Call, IsAnswered, journal}
use Rattle.replay_state.specs.State.{State, applied_commands}
use Rattle.replay_state.specs.Step.{state_of}
use Rattle.replay_state.specs.Tied.{IsTied}
use Rattle.split_answers.specs.Through.{IsThrough}
use Rattle.split_answers.specs.UnderWay.{AreOnSwitch, KnowTheirOwn, SeeTheirOwn}
use Rattle.replay_contracts.specs.Called.{HasCalls, IsFormed}
use Rattle.replay_contracts.specs.Inputs.{Inputs, whole, setup_for, whole_runs, code_for}

-- the switch answers by its calls
abbrev pub answered : Inputs → List Call → Answers
answered x calls = journal (whole x) calls

-- Over a port that tells its tables: the state is that of whole packets, and the tables are those that the applied
-- commands make. Each pass under way sees the replicated objects of the version with which it entered, and knows what it
-- computes over the store of that version.
pub record IsTold (x : Inputs) (events : List Event) (calls : List Call) (st : State) (tables : Told) (passes : UnderWay)
    : Type 0 where
  pub tied : IsTied (setup_for x) (whole x) x.packets calls events st
  pub through : IsThrough (code_for x) (applied_commands st) tables
  pub views : SeeTheirOwn x.program x.split st tables
  pub knows : KnowTheirOwn x.program x.split x.writeback x.packets calls st passes

-- A replay of these events, by these calls of its port, which has made no others.
pub record IsReplay (x : Inputs) (events : List Event) (calls : List Call) (st : State) (port : PortState) : Type 0 where
  pub answered : IsAnswered (setup_for x) (whole x) x.packets events calls st
  pub called : HasCalls (code_for x) calls port
  pub formed : Each (IsFormed (code_for x) x.packets) calls
  -- its passes under way are those of the state
  pub passes : AreOnSwitch (setup_for x) x.packets st port.passes
  pub told : (tables : Told) → port.told ≡ Some tables → IsTold x events calls st tables port.passes

-- the port was loaded, and has made no other call
pub record IsLoaded (x : Inputs) (port : PortState) : Type 0 where
  pub called : HasCalls (code_for x) [] port
  pub passes : port.passes ≡ none_under_way
  pub start : (tables : Told) → port.told ≡ Some tables → IsStart (code_for x) tables

-- ## Drain

-- A replay of these events and of more behind them, each the one that drain picks then.
pub record HasPicked (x : Inputs) (events more : List Event) (calls : List Call) (st : State) (port : PortState)
    : Type 0 where
  pub replay : IsReplay x (events ++ more) calls st port
  pub picked : Picks (setup_for x) (answered x calls) (state_of (setup_for x) (answered x calls) events) more
  pub told : (tables : Told) → port.told ≡ Some tables
      → Picks (setup_for x) (whole_runs x) (state_of (setup_for x) (whole_runs x) events) more

-- The events of a drain: behind them the run is drained, within the bound, and they are those of the plan. Over a port
-- that tells its tables this is the plan of whole packets.
pub record HasDrained (x : Inputs) (events more : List Event) (calls : List Call) (st : State) (port : PortState)
    : Type 0 where
  pub drained : is_drained (setup_for x) st ≡ true
  pub bound : length more ≤ drain_bound (setup_for x)
  pub plan : events ++ more ≡ plan_events (setup_for x) (answered x calls) events true
  pub told : (tables : Told) → port.told ≡ Some tables
      → events ++ more ≡ plan_events (setup_for x) (whole_runs x) events true
