-- What the laws of the crates below come to for a course.
use Rattle.std.proofs.Common.{◌≡◌, ◌++◌, subst, sym}
use Rattle.std.specs.Prelude.{List, length, ◌*◌, ◌<◌, ◌^◌, ◌≤◌}
use Rattle.replay_contracts.specs.Inputs.{Inputs, setup_for, whole}
use Rattle.replay_contracts.specs.Replay.{IsReplay, answered}
use Rattle.replay_contracts.specs.declared.job.Stepped.{Stepped}
use Rattle.replay_state.proofs.Laws.{a_run_is_answered_by_its_calls-state_stays, drain_ends-left, drain_ends-stays, whole_runs_are_sound-few_answered}
use Rattle.replay_state.specs.Drain.{drain_bound, events_left}
use Rattle.replay_state.specs.Journal.{Call}
use Rattle.replay_state.specs.State.{State}
use Rattle.replay_state.specs.Step.{state_of, step}
use Rattle.run_model.specs.Sizes.{most_packets}
use Rattle.run_model.specs.declared.event.Event.{Event}
use Rattle.split_answers.specs.Whole.{IsSplit}
use Rattle.switch_ir.specs.Port.{PortState}
use Rattle.replay_course.proofs.DrainEvents.{left_is}
use Rattle.replay_course.proofs.Few.{commands_by, events_by, few_post, few_pre}
use Rattle.replay_course.proofs.Room.{is_split_program, may_call}
use Rattle.replay_course.proofs.Serves.{few_writes}
use Rattle.replay_course.specs.Going.{HasAdvanced, CanGoOn, IsPrepared, MayCall, most_commands}
use Rattle.replay_course.specs.Shown.{IsShown}
use Rattle.replay_course.specs.UnderWay.{course_left}
use Rattle.replay_course.specs.declared.course.Course.{Course}

-- The next calls of the port have what they ask for: a command finds room in the tables that are told, and disturbs no
-- pass; and no pass is under way over a packet that comes in or down next.
pub the_next_calls_may_be_made : (x : Inputs) (events : List Event) (calls : List Call) (st : State) (c : Course) (port : PortState)
    → IsReplay x events calls st port → IsShown (whole x) calls st c → CanGoOn x c port → MayCall x c port
the_next_calls_may_be_made = may_call

-- A trace of at most so many packets brings few commands, and few events end its run. An event leaves no more of
-- these than there were before it.
pub few_events_are_left-commands : (x : Inputs) → IsSplit x.program x.split x.writeback → length x.packets ≤ most_packets
    → length x.packets * most_commands x < 2 ^ 32
few_events_are_left-commands x split few = commands_by _ _ few (few_writes x split)

pub few_events_are_left-bound : (x : Inputs) → IsPrepared x → length x.packets ≤ most_packets → drain_bound (setup_for x) < 2 ^ 30
few_events_are_left-bound x prepared few = events_by _ _ _ _ few (few_writes x prepared.ready.split) (few_pre x prepared) (few_post x prepared)

pub few_events_are_left-left : (x : Inputs) (events : List Event) (calls : List Call) (st : State) (c : Course) (port : PortState)
    → IsReplay x events calls st port → IsShown (whole x) calls st c → CanGoOn x c port
    → course_left x c ≤ drain_bound (setup_for x)
few_events_are_left-left x events calls st c port replay shown going =
    let setup = setup_for x in
    let a = answered x calls in
    let here : events_left setup st ≤ drain_bound setup =
    subst (λ w. events_left setup w ≤ drain_bound setup) (sym replay.answered.run)
    (drain_ends-left setup a events (whole_runs_are_sound-few_answered (whole x) x.packets x.manner calls (is_split_program x going.prepared.ready))) in
    subst (λ n. n ≤ drain_bound setup) (sym (left_is x calls st c shown)) here

pub few_events_are_left-stays : (x : Inputs) (events : List Event) (event : Event) (stepped : Stepped) (calls : List Call)
    (st : State) (c after : Course) (old new : PortState)
    → IsReplay x events calls st old → IsShown (whole x) calls st c → CanGoOn x c old
    → HasAdvanced x event stepped c old after new → course_left x after ≤ course_left x c
few_events_are_left-stays x events event stepped calls st c after old new replay shown going turned =
    let setup = setup_for x in
    let t = turned.turns events calls st replay shown in
    let a = answered x (calls ++ t.one) in
    let is : st ≡ state_of setup a events = a_run_is_answered_by_its_calls-state_stays setup (whole x) x.packets events calls t.one st replay.answered in
    let here : events_left setup (step setup a st event) ≤ events_left setup st =
    subst (λ w. events_left setup (step setup a w event) ≤ events_left setup w) (sym is)
    (drain_ends-stays setup a events event (whole_runs_are_sound-few_answered (whole x) x.packets x.manner (calls ++ t.one)
    (is_split_program x going.prepared.ready))) in
    subst (λ n. n ≤ course_left x c) (sym (left_is x (calls ++ t.one) _ after t.shown))
    (subst (λ n. events_left setup (step setup a st event) ≤ n) (sym (left_is x calls st c shown)) here)
