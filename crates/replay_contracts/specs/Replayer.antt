-- A replayer as contracts see it, and what its calls do. Each clause speaks of every list of calls and every state that
-- are a replay of its events over its port.
use Rattle.std.specs.Prelude.{◌≡◌, ◌⊎◌, ◌≤◌, ◌+◌, ℕ, Bool, true, false, List, [], ◌∷◌, ◌++◌, length}
use Rattle.std.specs.Prelude.{Option, Some, None, Ok, is_some}
use Rattle.gal_io.specs.Count.{IsCountedIf}
use Rattle.flat_ir.specs.Program.{program_of}
use Rattle.state_store.specs.Store.{start_store}
use Rattle.run_model.specs.declared.event.Event.{Event}
use Rattle.run_model.specs.Serialises.{IsDrained}
use Rattle.switch_ir.specs.Port.{PortState, IsAsBefore, Loads}
use Rattle.switch_ir.specs.Tables.{Told}
use Rattle.switch_ir.specs.declared.journal.Entry.{Entry}
use Rattle.switch_ir.specs.declared.port.PortError.{PortError}
use Rattle.switch_ir.specs.declared.port.PortError.TheVariants as port_errors
use Rattle.replay_state.specs.Drain.{drain_bound, is_quiet, plan_events}
use Rattle.replay_state.specs.Journal.{Call, EndOnce}
use Rattle.replay_state.specs.Program.{manner_of}
use Rattle.replay_state.specs.Run.{run_of}
use Rattle.replay_state.specs.State.{State, first_state}
use Rattle.replay_state.specs.Step.{applies, step}
use Rattle.split_answers.specs.Through.{HasTables}
use Rattle.replay_contracts.specs.Called.{calls_in}
use Rattle.replay_contracts.specs.declared.job.Job.{Job}
use Rattle.replay_contracts.specs.declared.job.Replayed.{Replayed}
use Rattle.replay_contracts.specs.declared.job.ReplayError.{ReplayError}
use Rattle.replay_contracts.specs.declared.job.ReplayError.TheVariants as errors
use Rattle.replay_contracts.specs.declared.job.Stepped.{Stepped}
use Rattle.replay_contracts.specs.declared.job.Stepped.TheVariants.{Did, Idle}
use Rattle.replay_contracts.specs.Inputs.{Inputs, IsReady, code_for, meaning_for, setup_for, whole_runs}
use Rattle.replay_contracts.specs.Promise.{Promises, Reports, state_for}
use Rattle.replay_contracts.specs.Replay.{HasDrained, HasPicked, IsReplay, answered}

pub record Replayer : Type 0 where
  pub given : Inputs
  -- the events that it performed, idle ones too, and how many of them were steps
  pub events : List Event
  pub steps : ℕ
  pub port : PortState
  pub failed : Option ReplayError

-- a job's passes take one event each, or one for each stage in a fine run, and batches take up those behind them
abbrev pub inputs_of : Job → Inputs
inputs_of job = record {
  program = program_of job.flat;
  split = job.split;
  writeback = job.writeback;
  packets = job.packets;
  manner = manner_of job.fine;
}

-- these calls made this state
abbrev pub IsAt : Replayer → List Call → State → Type 0
IsAt r calls st = IsReplay r.given r.events calls st r.port

-- what stands between its calls
pub record IsAlive (r : Replayer) : Type 0 where
  pub ready : IsReady r.given
  pub few : length r.events ≤ r.steps + drain_bound (setup_for r.given)
  pub replay : r.failed ≡ None → (calls : List Call) × (st : State) × IsAt r calls st

-- no call of the port failed, and it tells its tables where it told them before
pub record StaysTold (old new : PortState) : Type 0 where
  pub told : is_some new.told ≡ is_some old.told
  pub faults : new.faults ≡ old.faults

-- without any event yet
pub record IsNew (x : Inputs) (port : PortState) (r : Replayer) : Type 0 where
  pub given : r.given ≡ x
  pub events : r.events ≡ []
  pub steps : r.steps ≡ 0
  pub failed : r.failed ≡ None
  pub at : IsAt r [] (first_state (start_store x.program.objects))
  pub stays : StaysTold port r.port

-- ## One event

abbrev pub stepped_by : Bool → Stepped
stepped_by true = Did
stepped_by false = Idle

-- one event more, which did something just where it applied, by the calls that it asked
pub record HasStepped (old : Replayer) (event : Event) (stepped : Stepped) (new : Replayer) : Type 0 where
  pub given : new.given ≡ old.given
  pub events : new.events ≡ old.events ++ event ∷ []
  pub steps : new.steps ≡ old.steps + 1
  pub failed : new.failed ≡ None
  pub stays : StaysTold old.port new.port
  pub applied : (calls : List Call) (st : State) → IsAt old calls st
      → stepped ≡ stepped_by (applies (setup_for old.given) st event)
  pub next : (calls : List Call) (st : State) → IsAt old calls st
      → (more : List Call)
      × IsAt new (calls ++ more) (step (setup_for old.given) (answered old.given (calls ++ more)) st event)

-- ## Drain

-- What a drained run promises, by the state at its end: one call has ended each pass. Over a port that tells its tables
-- it keeps its promises, every packet of the trace was released with its verdict, and the switch has the tables of the
-- server.
pub record HasSettled (x : Inputs) (events : List Event) (calls : List Call) (last : State) (port : PortState)
    : Type 0 where
  pub once : EndOnce calls last
  pub promises : (tables : Told) → port.told ≡ Some tables → Promises x events (run_of (setup_for x) last)
  pub drained : (tables : Told) → port.told ≡ Some tables → IsDrained (meaning_for x) (run_of (setup_for x) last)
  pub tables : (tables : Told) → port.told ≡ Some tables
      → HasTables x.program x.split x.writeback last.store tables

-- so many events more, each the one that drain picks, until the run is drained, with what that promises
pub record HasEmptied (old : Replayer) (count : ℕ) (new : Replayer) : Type 0 where
  pub given : new.given ≡ old.given
  pub more : List Event
  pub events : new.events ≡ old.events ++ more
  pub counted : length more ≡ count
  pub steps : new.steps ≡ old.steps
  pub failed : new.failed ≡ None
  pub stays : StaysTold old.port new.port
  pub next : (calls : List Call) (st : State) → IsAt old calls st
      → (others : List Call) × (last : State)
      × HasPicked old.given old.events more (calls ++ others) last new.port
      × HasDrained old.given old.events more (calls ++ others) last new.port
      × HasSettled old.given (old.events ++ more) (calls ++ others) last new.port

-- ## Report

-- what is told of the events so far; over a port that tells its tables it keeps its promises
pub record HasReported (old : Replayer) (replayed : Replayed) (new : Replayer) : Type 0 where
  pub given : new.given ≡ old.given
  pub events : new.events ≡ old.events
  pub steps : new.steps ≡ old.steps
  pub failed : new.failed ≡ None
  pub stays : StaysTold old.port new.port
  pub told : (calls : List Call) (st : State) → IsAt old calls st
      → Reports old.given st old.port new.port replayed.run replayed.commands × IsAt new calls st
  pub promises : (tables : Told) → old.port.told ≡ Some tables → Promises old.given old.events replayed.run

-- ## Errors

-- the error with which a call of the port ends a replay
abbrev pub error_of : PortError → ReplayError
error_of port_errors.Failed = errors.PortFault
error_of port_errors.NoMemory = errors.NoMemory

-- whether a call of the port failed
abbrev pub is_port_fault : ReplayError → Bool
is_port_fault errors.PortFault = true
is_port_fault errors.NoMemory = false

-- what an error counts: one call that failed, or none
abbrev pub CountsFault : ReplayError → PortState → PortState → Type 0
CountsFault e old new = IsCountedIf (is_port_fault e) old.faults new.faults

-- What an error leaves of a port: it has its code, tells its tables where it told them before, and may have been called
-- more.
pub record Fails (error : ReplayError) (old new : PortState) : Type 0 where
  pub code : new.code ≡ old.code
  pub told : is_some new.told ≡ is_some old.told
  pub journal : (more : List Entry) × (calls_in new.journal ≡ calls_in old.journal ++ more)
  pub fault : CountsFault error old new

-- it fails now, and the events so far and the job are kept
pub record HasFailed (old : Replayer) (error : ReplayError) (new : Replayer) : Type 0 where
  pub before : old.failed ≡ None
  pub failed : new.failed ≡ Some error
  pub given : new.given ≡ old.given
  pub events : new.events ≡ old.events
  pub steps : new.steps ≡ old.steps
  pub port : Fails error old.port new.port

-- it had failed so before, and nothing changed
pub record Repeats (old : Replayer) (error : ReplayError) (new : Replayer) : Type 0 where
  pub failed : old.failed ≡ Some error
  pub same : new ≡ old

-- ## A replay that breaks

-- it breaks before its code is loaded: the port is as it was, but for the count of faults
pub record HasNotBegun (error : ReplayError) (old new : PortState) : Type 0 where
  pub port : IsAsBefore old new
  pub fault : CountsFault error old new

-- it breaks behind that: the port was loaded with the code of what is replayed, which it keeps, and may have been
-- called more
pub record HasBrokenOff (x : Inputs) (error : ReplayError) (old new : PortState) : Type 0 where
  pub begun : PortState
  pub loads : Loads (Ok tt) (code_for x) old begun
  pub fails : Fails error begun new

-- what an error leaves of the port of a replay, from its start on
abbrev pub HasBroken : Inputs → ReplayError → PortState → PortState → Type 0
HasBroken x error old new = HasNotBegun error old new ⊎ HasBrokenOff x error old new

-- ## A whole replay

-- What comes of a replay over any port, as the port is then: it tells of the state to which the port's calls lead by the
-- events of the plan. One call has ended each pass that has ended, so that each packet is released once.
pub record IsReported (x : Inputs) (events : List Event) (drain : Bool) (replayed : Replayed) (port : PortState)
    : Type 0 where
  pub calls : List Call
  pub last : State
  pub replay : IsReplay x (plan_events (setup_for x) (answered x calls) events drain) calls last port
  pub reports : Reports x last port port replayed.run replayed.commands
  pub once : EndOnce calls last
  pub drained : drain ≡ true → replayed.run.drained ≡ true

-- What comes of it over a port that tells its tables: it keeps the promises of the plan's run, and where nothing is
-- left on its way, the switch has the tables of the server.
pub record IsRunOf (x : Inputs) (events : List Event) (drain : Bool) (replayed : Replayed) (port : PortState)
    : Type 0 where
  pub promises : Promises x (plan_events (setup_for x) (whole_runs x) events drain) replayed.run
  pub tables : (let last = state_for x (plan_events (setup_for x) (whole_runs x) events drain) in
      is_quiet last ≡ true → (tables : Told) × (port.told ≡ Some tables)
      × HasTables x.program x.split x.writeback last.store tables)
