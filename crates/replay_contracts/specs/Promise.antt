-- What is told of a replay, and what it promises.
use Rattle.std.specs.Prelude.{◌≡◌, ℕ, suc, Bool, true, false, IsTrue, if◌then◌else◌, Some}
use Rattle.std.specs.Prelude.{List, [], ◌∷◌, ◌++◌, length, slice_get}
use Rattle.state_store.specs.declared.object.ObjectDecl.{ObjectDecl}
use Rattle.writeback_table.specs.Pair.{visible_rows}
use Rattle.run_model.specs.declared.event.Event.{Event}
use Rattle.run_model.specs.declared.event.Event.TheVariants.{Admit}
use Rattle.run_model.specs.declared.run.ObjectRows.{ObjectRows}
use Rattle.run_model.specs.declared.run.Run.{Run}
use Rattle.run_model.specs.Serialises.{Serialises, AllReleased, IsDrained, is_fast, is_passing}
use Rattle.switch_ir.specs.Port.{PortState}
use Rattle.switch_ir.specs.Tables.{Told, pair_at}
use Rattle.replay_state.specs.Drain.{is_quiet}
use Rattle.replay_state.specs.Program.{packet_at}
use Rattle.replay_state.specs.Run.{job_run, run_of, seen_store}
use Rattle.output_commit.specs.Batches.{commands_in}
use Rattle.replay_state.specs.State.{State}
use Rattle.replay_state.specs.Step.{applies, state_of}
use Rattle.replay_state.specs.Views.{KeepViews}
use Rattle.replay_contracts.specs.Called.{KeepsCalls}
use Rattle.replay_contracts.specs.Inputs.{Inputs, whole, setup_for, whole_runs, meaning_for}

-- the rows of the replicated objects, from number n on, that lookups see
abbrev pub told_parts : (ℕ → Bool) → Told → ℕ → List ObjectDecl → List ObjectRows
told_parts test told n [] = []
told_parts test told n (object ∷ objects) =
    let behind = told_parts test told (suc n) objects in
    if test n then (record { object = n; rows = visible_rows told.bit (pair_at told.pairs n) }) ∷ behind else behind

-- What is told of a state, with the rows that the port shows, and how many commands there were.
pub record Reports (x : Inputs) (st : State) (old new : PortState) (run : Run) (commands : ℕ) : Type 0 where
  pub is : run ≡ record (run_of (setup_for x) st) { switch = run.switch }
  pub count : commands ≡ length (commands_in st.batches)
  pub kept : KeepsCalls old new
  pub rows : (tables : Told) → old.told ≡ Some tables
      → run.switch ≡ told_parts (whole x).replicated tables 0 (whole x).objects

-- the state of whole packets after these events
abbrev pub state_for : Inputs → List Event → State
state_for x events = state_of (setup_for x) (whole_runs x) events

-- What a run by these events promises: it is that of whole packets, which run one after the other in its order.
pub record Promises (x : Inputs) (events : List Event) (run : Run) : Type 0 where
  pub is : run ≡ job_run (setup_for x) (whole_runs x) events
  pub serialises : Serialises (meaning_for x) run
  -- where nothing is left on its way, every admitted packet was released with its verdict
  pub released : IsTrue (is_quiet (state_for x events)) → AllReleased (meaning_for x) run
  -- and where the run says `drained`, so was every packet of the trace
  pub drained : run.drained ≡ true → IsDrained (meaning_for x) run
  -- after each event, each pass that is under way sees the replicated objects of the version with which it entered
  pub views : (before behind : List Event) → events ≡ before ++ behind → KeepViews (setup_for x) (state_for x before)
  -- each packet whose preprocessing has ended is fast just where it is over the store that lookups saw as it came in
  pub fast : (before behind : List Event) → events ≡ before ++ Admit ∷ behind
      → applies (setup_for x) (state_for x before) Admit ≡ true
      → (let n = length (state_for x before).progress in
      is_passing (slice_get run.fates n) ≡ false
      → is_fast (slice_get run.fates n) ≡ (whole x).is_fast (seen_store (state_for x before)) (packet_at x.packets n))
