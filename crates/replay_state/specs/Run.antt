-- What is told of a state.
use Rattle.std.specs.Prelude.{List, map, count_by}
use Rattle.state_store.specs.Store.{Store}
use Rattle.run_model.specs.declared.event.Event.{Event}
use Rattle.run_model.specs.declared.run.ObjectRows.{ObjectRows}
use Rattle.run_model.specs.declared.run.Run.{Run}
use Rattle.run_model.specs.Fate.{is_decided, is_released}
use Rattle.run_model.specs.Order.{order_of}
use Rattle.run_model.specs.Parts.{parts_of, parts_where}
use Rattle.replay_state.specs.Answers.{Answers, Setup}
use Rattle.replay_state.specs.State.{State, fate_of, seen, store_at}
use Rattle.replay_state.specs.Step.{state_of}
use Rattle.replay_state.specs.Drain.{is_drained}

-- the store of the version that lookups on the switch see
abbrev pub seen_store : State → Store
seen_store st = store_at st.stores (seen st)

-- the rows of each replicated object there
abbrev pub seen_parts : Setup → State → List ObjectRows
seen_parts setup st = parts_where setup.replicated 0 setup.objects (seen_store st)

abbrev pub run_of : Setup → State → Run
run_of setup st =
    let fates = map fate_of st.progress in
    record {
      total = setup.total;
      decided = count_by is_decided fates;
      released = count_by is_released fates;
      events = st.events;
      idle = st.idle;
      version = st.version;
      visible = seen st;
      drained = is_drained setup st;
      fates = fates;
      order = order_of fates;
      objects = parts_of setup.objects st.store;
      switch = seen_parts setup st;
    }

-- the run by a schedule of events
abbrev pub job_run : Setup → Answers → List Event → Run
job_run setup a events = run_of setup (state_of setup a events)
