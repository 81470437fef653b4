-- Quiet and drained states, and the events that end a run one after the other.
use Rattle.std.specs.Prelude.{◌≡◌, ◌⊎◌, ⊤, ℕ, zero, suc, ◌+◌, ◌-◌, ◌*◌, ◌==◌, Bool, true, false, ◌&&◌}
use Rattle.std.specs.Prelude.{List, [], ◌∷◌, ◌++◌, length, if◌then◌else◌, Option, Some, None}
use Rattle.replay_state.specs.Answers.{Answers, Setup}
use Rattle.output_commit.specs.Batches.{commands_in}
use Rattle.replay_state.specs.State.{State, Pass}
use Rattle.run_model.specs.declared.event.Event.{Event}
use Rattle.run_model.specs.declared.event.Event.TheVariants.{Admit, Stage, Serve, Send, Apply, Ack, Hold, Down}
use Rattle.replay_state.specs.Step.{applies, step, steps, state_of}

-- nothing is on its way, and every command is acknowledged
abbrev pub is_quiet : State → Bool
is_quiet st =
    length st.passes == 0 && length st.up == 0 && length st.held == 0 && length st.down == 0
    && st.acked == length (commands_in st.batches)

-- every packet of the trace was admitted, and nothing is on its way
abbrev pub is_drained : Setup → State → Bool
is_drained setup st = length st.progress == setup.total && is_quiet st

-- the first of these events that passes the test
abbrev pub first_of : (Event → Bool) → List Event → Option Event
first_of test [] = None
first_of test (event ∷ events) = if test event then Some event else first_of test events

-- the events that drain tries, in this order
abbrev pub drain_order : List Event
drain_order = Stage 0 ∷ (Ack ∷ (Apply ∷ (Send ∷ (Down 0 ∷ (Hold 0 ∷ (Serve 0 ∷ (Admit ∷ [])))))))

-- the event that drain picks: the first of these that applies
abbrev pub next_event : Setup → State → Option Event
next_event setup st = first_of (applies setup st) drain_order

-- one event and those behind it, if it is there
abbrev pub with_picked : Option Event → (Event → List Event) → List Event
with_picked None more = []
with_picked (Some event) more = event ∷ more event

-- the events that drain picks one after the other, at most n of them
abbrev pub picked_events : Setup → Answers → ℕ → State → List Event
picked_events setup a zero st = []
picked_events setup a (suc n) st =
    with_picked (next_event setup st) (λ event. picked_events setup a n (step setup a st event))

-- how many of them are enough
abbrev pub drain_bound : Setup → ℕ
drain_bound setup = setup.total * (4 + setup.pre_stages + setup.post_stages + 3 * (3 * setup.writes + 2))

-- the events by which drain ends a run from here
abbrev pub drain_events : Setup → Answers → State → List Event
drain_events setup a st = picked_events setup a (drain_bound setup) st

-- the events of a schedule, and of drain behind them where it is asked for
abbrev pub plan_events : Setup → Answers → List Event → Bool → List Event
plan_events setup a events drain =
    if drain then events ++ drain_events setup a (state_of setup a events) else events

-- ## How many events are left

-- how many a batch of the most changes takes to be sent, applied and acknowledged
abbrev pub batch_events : Setup → ℕ
batch_events setup = 3 * (3 * setup.writes + 2)

-- of a packet that isn't admitted, and of one that stands in `up`
abbrev pub packet_events : Setup → ℕ
packet_events setup = 4 + setup.pre_stages + setup.post_stages + batch_events setup

abbrev pub up_events : Setup → ℕ
up_events setup = 3 + setup.post_stages + batch_events setup

-- of a pass, with what comes behind it
abbrev pub pass_events : Setup → Pass → ℕ
pass_events setup pass = 1 + (pass.left - 1) + (if pass.pre then up_events setup else 0)

-- the sum of a number over a list
abbrev pub weight : {X : Type 0} → (X → ℕ) → List X → ℕ
weight f [] = 0
weight f (x ∷ xs) = f x + weight f xs

-- how many events are left at most
abbrev pub events_left : Setup → State → ℕ
events_left setup st =
    (setup.total - length st.progress) * packet_events setup + weight (pass_events setup) st.passes
    + length st.up * up_events setup + length st.held * (2 + setup.post_stages)
    + length st.down * (1 + setup.post_stages) + 3 * (length (commands_in st.batches) - st.sent)
    + 2 * (st.sent - st.done) + (st.done - st.acked)

-- ## What drain picks

-- the event is one of these and passes the test, and none before it does
abbrev pub IsFirstOf : (Event → Bool) → List Event → Event → Type 0
IsFirstOf test [] event = ⊥
IsFirstOf test (x ∷ xs) event = ((test x ≡ true) × (x ≡ event)) ⊎ ((test x ≡ false) × IsFirstOf test xs event)

-- none of these passes the test
abbrev pub IsNoneOf : (Event → Bool) → List Event → Type 0
IsNoneOf test [] = ⊤
IsNoneOf test (x ∷ xs) = (test x ≡ false) × IsNoneOf test xs

-- each of these events is the one that drain picks then
abbrev pub Picks : Setup → Answers → State → List Event → Type 0
Picks setup a st [] = ⊤
Picks setup a st (event ∷ events) = (next_event setup st ≡ Some event) × Picks setup a (step setup a st event) events

-- and behind them it picks none
abbrev pub Drains : Setup → Answers → State → List Event → Type 0
Drains setup a st events = Picks setup a st events × (next_event setup (steps setup a st events) ≡ None)
