-- The events: where each applies, and what it does.
use Rattle.std.specs.Prelude.{ℕ, ◌+◌, ◌-◌, ◌==◌, Bool, true, false, not, ◌&&◌, nat_le, nat_lt, if◌then◌else◌}
use Rattle.std.specs.Prelude.{Option, Some, None, List, [], ◌∷◌, ◌++◌, length, slice_get, slice_set, remove}
use Rattle.std.specs.List.{list_any}
use Rattle.packet_fields.specs.declared.verdict.Verdict.{Verdict}
use Rattle.state_store.specs.Store.{Store, start_store}
use Rattle.writeback_table.specs.declared.command.Update.{Update}
use Rattle.writeback_table.specs.declared.command.Command.{Command}
pub use Rattle.writeback_table.specs.Views.{disturbs}
use Rattle.run_model.specs.declared.event.Event.{Event}
use Rattle.run_model.specs.declared.event.Event.TheVariants.{Admit, Stage, Serve, Send, Apply, Ack, Hold, Down}
use Rattle.replay_state.specs.Answers.{Answers, Setup}
use Rattle.output_commit.specs.Batches.{commands_in, merged, visible}
use Rattle.replay_state.specs.State.{State, Pass, Progress, Entered, Up, Held, Slow, Fast, first_state}
use Rattle.replay_state.specs.State.{bit_behind, store_at, seen}

-- ## Where an event applies

-- it waits for a pass under way that it disturbs
abbrev pub waits : List Pass → Option Command → Bool
waits passes None = false
waits passes (Some command) = list_any (λ pass. disturbs pass.bit command) passes

-- the held item is there, and its version is known to be visible
abbrev pub may_go : ℕ → Option (ℕ × ℕ) → Bool
may_go known None = false
may_go known (Some (number, need)) = nat_le need known

abbrev pub applies : Setup → State → Event → Bool
applies setup st Admit = nat_lt (length st.progress) setup.total
applies setup st (Stage j) = nat_lt j (length st.passes)
applies setup st (Serve j) = nat_lt j (length st.up)
applies setup st Send = nat_lt st.sent (length (commands_in st.batches))
applies setup st Apply = nat_lt st.done st.sent && not (waits st.passes (slice_get (commands_in st.batches) st.done))
applies setup st Ack = nat_lt st.acked st.done
applies setup st (Hold j) = may_go (visible st.batches st.acked) (slice_get st.held j)
applies setup st (Down j) = nat_lt j (length st.down)

-- ## What it does there

-- A packet is finished, goes up, is decided or is released. Where there is no packet, what is said doesn't matter:
-- nothing is written there.
abbrev pub finished : ℕ → Verdict → Option Progress → Progress
finished event verdict (Some (Entered a v)) = Fast a event v verdict
finished event verdict (Some p) = p
finished event verdict None = Up 0

abbrev pub went_up : Option Progress → Progress
went_up (Some (Entered a v)) = Up a
went_up (Some p) = p
went_up None = Up 0

abbrev pub decided : ℕ → ℕ → Store → Option Progress → Progress
decided event version over (Some (Up a)) = Held a event version over
decided event version over (Some p) = p
decided event version over None = Up 0

abbrev pub released : (Store → Verdict) → ℕ → Option Progress → Progress
released verdict event (Some (Held a d v over)) = Slow a d v (verdict over) event
released verdict event (Some p) = p
released verdict event None = Up 0

-- preprocessing of a packet ends, with its verdict or without
abbrev pub came_in : State → ℕ → Option Verdict → State
came_in st n None =
    record st { up = st.up ++ n ∷ []; progress = slice_set st.progress n (went_up (slice_get st.progress n)) }
came_in st n (Some verdict) =
    record st { progress = slice_set st.progress n (finished st.events verdict (slice_get st.progress n)) }

-- postprocessing of a packet ends, with its verdict
abbrev pub came_out : State → ℕ → (Store → Verdict) → State
came_out st n verdict =
    record st { progress = slice_set st.progress n (released verdict st.events (slice_get st.progress n)) }

-- a pass ends, which stands no more among those under way
abbrev pub ended : Answers → State → Pass → State
ended a st pass =
    if pass.pre then came_in st pass.number (a.pre (store_at st.stores pass.version) pass.number)
    else came_out st pass.number (λ over. a.post over pass.number)

-- a pass enters over what lookups see; with no stages it ends at once
abbrev pub pass_of : State → Bool → ℕ → ℕ → Pass
pass_of st pre number stages =
    record { pre = pre; number = number; version = seen st; bit = bit_behind st.batches st.done; left = stages }

abbrev pub entered : Answers → State → Pass → State
entered a st pass = if pass.left == 0 then ended a st pass else record st { passes = st.passes ++ pass ∷ [] }

-- the pass at place j takes a stage
abbrev pub staged : Answers → State → ℕ → Option Pass → State
staged a st j None = st
staged a st j (Some pass) =
    if nat_le pass.left 1 then ended a (record st { passes = remove st.passes j }) pass
    else record st { passes = slice_set st.passes j (record pass { left = pass.left - 1 }) }

-- changes that the switch has to hear of begin a version with the store that they leave, and make a batch of their own
abbrev pub with_changes : Store → List Update → State → State
with_changes store [] st = st
with_changes store (update ∷ updates) st =
    record st {
      version = st.version + 1;
      stores = st.stores ++ store ∷ [];
      batches = st.batches ++ (record { updates = update ∷ updates; versions = 1 }) ∷ [];
    }

-- the server runs packet n, which stands at place j of `up`; it is decided, and its output waits for the version that
-- the server has now
abbrev pub ran : Answers → State → State → ℕ → ℕ → State
ran a before st j n =
    record st {
      up = remove st.up j;
      store = a.after before.store n;
      held = st.held ++ (n, st.version) ∷ [];
      progress = slice_set st.progress n (decided st.events st.version before.store (slice_get st.progress n));
    }

abbrev pub served : Answers → State → ℕ → Option ℕ → State
served a st j None = st
served a st j (Some n) = ran a st (with_changes (a.after st.store n) (a.changes st.store n) st) j n

abbrev pub let_go : State → ℕ → Option (ℕ × ℕ) → State
let_go st j None = st
let_go st j (Some (n, need)) = record st { held = remove st.held j; down = st.down ++ n ∷ [] }

abbrev pub came_down : Setup → Answers → State → ℕ → Option ℕ → State
came_down setup a st j None = st
came_down setup a st j (Some n) =
    entered a (record st { down = remove st.down j }) (pass_of st false n setup.post_stages)

-- the next packet has come, and its pass enters
abbrev pub came : State → State
came st = record st { progress = st.progress ++ Entered st.events (seen st) ∷ [] }

abbrev pub admitted : Setup → Answers → State → State
admitted setup a st = entered a (came st) (pass_of st true (length st.progress) setup.pre_stages)

abbrev pub happens : Setup → Answers → State → Event → State
happens setup a st Admit = admitted setup a st
happens setup a st (Stage j) = staged a st j (slice_get st.passes j)
happens setup a st (Serve j) = served a st j (slice_get st.up j)
happens setup a st Send = record st { batches = merged setup.fits st.sent st.batches; sent = st.sent + 1 }
happens setup a st Apply = record st { done = st.done + 1 }
happens setup a st Ack = record st { acked = st.acked + 1 }
happens setup a st (Hold j) = let_go st j (slice_get st.held j)
happens setup a st (Down j) = came_down setup a st j (slice_get st.down j)

-- every event is counted before it does anything
abbrev pub tick : State → State
tick st = record st { events = st.events + 1 }

-- an event that doesn't apply
abbrev pub idled : State → State
idled st = record st { idle = st.idle + 1 }

abbrev pub step : Setup → Answers → State → Event → State
step setup a st event = if applies setup st event then happens setup a (tick st) event else idled (tick st)

-- the state after all of these events
abbrev pub steps : Setup → Answers → State → List Event → State
steps setup a st [] = st
steps setup a st (event ∷ events) = steps setup a (step setup a st event) events

-- the state of a whole schedule
abbrev pub state_of : Setup → Answers → List Event → State
state_of setup a events = steps setup a (first_state (start_store setup.objects)) events
