-- A whole replay, from its start to what is reported.
use Rattle.std.proofs.Common.{◌≡◌, ◌<◌, ◌≤◌, ◌+◌, ◌-◌, ◌^◌, ◌++◌, ℕ, Bool, true, List, inr, sym, ap, subst, ◌∙◌, arith, length}
use Rattle.std.specs.Prelude.{IsSome}
use Rattle.std.specs.Result.{IfOk, IfErr}
use Rattle.std.specs.Prelude.{Result, Ok, Err}
use Rattle.run_model.specs.declared.event.Event.{Event}
use Rattle.run_model.specs.declared.run.Run.{Run}
use Rattle.switch_ir.specs.Port.{PortState, Loads}
use Rattle.split_answers.specs.Through.{HasTables}
use Rattle.replay_state.specs.Drain.{drain_bound, is_quiet, plan_events}
use Rattle.replay_state.specs.Run.{job_run}
use Rattle.replay_state.specs.State.{State}
use Rattle.replay_contracts.specs.Inputs.{Inputs, code_for, setup_for, whole, whole_runs}
use Rattle.replay_contracts.specs.Promise.{Promises, state_for}
use Rattle.replay_contracts.specs.Replay.{IsReplay, answered}
use Rattle.replay_contracts.specs.Replayer.{Fails, HasBroken, IsReported, IsRunOf}
use Rattle.replay_contracts.specs.declared.job.Replayed.{Replayed}
use Rattle.replay_contracts.specs.declared.job.ReplayError.{ReplayError}
use Rattle.replay_course.specs.declared.course.Course.{Course}
use Rattle.replay_course.specs.UnderWay.{Drains, HasReplayed, course_left}
use Rattle.schedule_replay.specs.Ended.{HasEnded}
use Rattle.replay_contracts.proofs.Laws.{a_quiet_switch_has_the_servers_tables, a_run_keeps_its_promises, a_told_replay_reports_the_run}
use Rattle.replay_course.proofs.Laws.{few_events_are_left-bound, few_events_are_left-left}
use Rattle.replay_course.proofs.ReportedState.{ReportsOf, kept_replay, reports_there, some_of}
use Rattle.replay_state.proofs.Laws.{a_run_is_answered_by_its_calls-once as end_once}

-- ## The events that end a run

few_by : (events n left bound : ℕ) → events ≡ n → n ≤ 1048576 → left ≤ bound → bound < 2 ^ 30 → events + left < 2 ^ 32 - 1
few_by events n left bound is few within small = omega arith

pub few_to_drain : (x : Inputs) (events : List Event) (c : Course) (port : PortState) → HasReplayed x events c port
    → length x.packets ≤ 16384 → length events ≤ 1048576 → c.events + course_left x c < 2 ^ 32 - 1
few_to_drain x events c port u packets few =
    few_by c.events (length events) (course_left x c) (drain_bound (setup_for x)) u.counted few
    (few_events_are_left-left x events u.calls u.st c port u.replay u.shown u.going) (few_events_are_left-bound x u.going.prepared packets)

pub ended_drained : (x : Inputs) (events : List Event) (drain : Bool) (count : ℕ) (c after : Course) (old new : PortState) → drain ≡ true
    → HasReplayed x events c old → Drains x count c old after new → HasEnded x events drain after old new
ended_drained x events drain count c after old new is u done =
    let all = done.turns events u.calls u.st u.replay u.shown in
    let on = all.on in
    let calls = u.calls ++ on.others in
    subst (λ d. HasEnded x events d after old new) (sym is) (record {
      calls = calls;
      last = on.last;
      replay = subst (λ es. IsReplay x es calls on.last new) all.drained.plan on.picked.replay;
      shown = on.shown;
      going = done.going;
      stays = done.stays;
      drained = λ t. all.drained.drained;
      told = λ tables told_is. sym all.drained.plan ∙ all.drained.told tables told_is;
    })

-- ## The report

pub is_reported : (x : Inputs) (events : List Event) (drain : Bool) (c : Course) (first port new : PortState) (replayed : Replayed)
    → HasEnded x events drain c first port → ReportsOf x c port new replayed → IsReported x events drain replayed new
is_reported x events drain c first port new replayed ended says =
    let plan = plan_events (setup_for x) (answered x ended.calls) events drain in
    let reports = says ended.calls ended.last ended.shown in
    record {
      calls = ended.calls;
      last = ended.last;
      replay = kept_replay x plan ended.calls ended.last port new ended.replay reports.kept;
      reports = reports_there x ended.last port new replayed.run replayed.commands reports;
      once = end_once (setup_for x) (whole x) x.packets plan ended.calls ended.last ended.replay.answered;
      drained = λ t. ap (λ (r : Run). r.drained) reports.is ∙ ended.drained t;
    }

pub is_run_of : (x : Inputs) (events : List Event) (drain : Bool) (c : Course) (first port new : PortState)
    (replayed : Replayed) → HasEnded x events drain c first port → ReportsOf x c port new replayed → IsSome port.told
    → IsRunOf x events drain replayed new
is_run_of x events drain c first port new replayed ended says tells =
    let setup = setup_for x in
    let plan = plan_events setup (answered x ended.calls) events drain in
    let same_plan = plan_events setup (whole_runs x) events drain in
    let reports = says ended.calls ended.last ended.shown in
    let ready = ended.going.prepared.ready in
    let told = some_of port.told tells in
    let plans : plan ≡ same_plan = ended.told told.0 told.1 in
    let run = a_told_replay_reports_the_run x plan ended.calls ended.last port new replayed.run replayed.commands told.0 ready ended.replay reports told.1 in
    let last : ended.last ≡ state_for x same_plan = (ended.replay.told told.0 told.1).tied.same ∙ ap (state_for x) plans in
    record {
      promises = subst (λ r. Promises x same_plan r) (sym (run ∙ ap (job_run setup (whole_runs x)) plans)) (a_run_keeps_its_promises x same_plan ready);
      tables = λ quiet.
          let there = reports.kept.told ∙ told.1 in
          let after = kept_replay x plan ended.calls ended.last port new ended.replay reports.kept in
          let has = a_quiet_switch_has_the_servers_tables x plan ended.calls ended.last new told.0 ready after there (ap is_quiet last ∙ quiet) in
          (told.0, there, subst (λ (st : State). HasTables x.program x.split x.writeback st.store told.0) last has);
    }

-- ## Errors

pub broken_at_once : (x : Inputs) (e : ReplayError) (first begun new : PortState) → Loads (Ok tt) (code_for x) first begun → Fails e begun new
    → HasBroken x e first new
broken_at_once x e first begun new loads fails = inr (record { begun = begun; loads = loads; fails = fails })

-- what follows from both ends follows
pub either_way : {T E : Type 0} (r : Result T E) (P : T → Type 0) (Q : E → Type 0) (Z : Type 0) → IfOk r P → IfErr r Q → ((y : T) → P y → Z)
    → ((e : E) → Q e → Z) → Z
either_way (Ok y) P Q Z ok err f g = f y ok
either_way (Err e) P Q Z ok err f g = g e err
