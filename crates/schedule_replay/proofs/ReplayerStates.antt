-- A replayer goes on.
use Rattle.std.proofs.Common.{◌≡◌, ◌<◌, ◌≤◌, ◌+◌, ◌-◌, ◌^◌, ℕ, true, List, [], ◌∷◌, ◌++◌, Option, Some, None, refl, sym, ap, subst, ◌∙◌, arith, length, length-append}
use Rattle.std.specs.Prelude.{is_some}
use Rattle.std.proofs.lemmas.Option.{none-some}
use Rattle.run_model.specs.declared.event.Event.{Event}
use Rattle.switch_ir.specs.Port.{PortState}
use Rattle.switch_ir.specs.Tables.{Told}
use Rattle.replay_state.specs.Drain.{drain_bound, is_drained, is_quiet}
use Rattle.replay_state.specs.Journal.{Call, asked}
use Rattle.replay_state.specs.Run.{run_of}
use Rattle.replay_state.specs.State.{State}
use Rattle.replay_state.specs.Step.{step}
use Rattle.replay_contracts.specs.Inputs.{Inputs, IsReady, setup_for, whole}
use Rattle.replay_contracts.specs.Promise.{Promises}
use Rattle.replay_contracts.specs.Replay.{HasDrained, HasPicked, IsReplay, answered}
use Rattle.replay_contracts.specs.Replayer.{Fails, HasEmptied, HasFailed, HasReported, HasSettled, HasStepped, IsNew}
use Rattle.replay_contracts.specs.declared.job.Replayed.{Replayed}
use Rattle.replay_contracts.specs.declared.job.ReplayError.{ReplayError}
use Rattle.replay_contracts.specs.declared.job.Stepped.{Stepped}
use Rattle.replay_course.specs.declared.course.Course.{Course}
use Rattle.replay_course.specs.Going.{HasAdvanced}
use Rattle.replay_course.specs.Shown.{IsShown}
use Rattle.replay_course.specs.UnderWay.{HasReplayedFrom, Drains, course_left}
use Rattle.schedule_replay.specs.Replayer.{IsKept, IsPerforming, replayer_of}
use Rattle.replay_contracts.proofs.Laws.{a_journal_determines_its_replay, a_quiet_switch_has_the_servers_tables, a_replay_goes_on}
use Rattle.replay_contracts.proofs.Laws.{a_run_keeps_its_promises, a_told_replay_reports_the_run}
use Rattle.replay_course.proofs.Laws.{few_events_are_left-bound, few_events_are_left-left, few_events_are_left-stays}
use Rattle.replay_course.proofs.ReportedState.{ReportsOf, kept_replay}
use Rattle.replay_state.proofs.Laws.{a_run_is_answered_by_its_calls-once as end_once}
use Rattle.std.proofs.lemmas.List.{length_push}
use Rattle.lemmas.proofs.Numbers.{le_trans}
use Rattle.lemmas.proofs.Tests.{and_second}
use Rattle.replay_contracts.proofs.Asked.{none_asked}

-- ## What the course shows

-- of each replay of the same events over the port
pub shown_at : (x : Inputs) (events : List Event) (c : Course) (port : PortState) (steps : ℕ) (calls : List Call) (st : State)
    → IsPerforming x events c port steps → IsReplay x events calls st port → IsShown (whole x) calls st c
shown_at x events c port steps calls st now is =
    let u = now.under_way in
    let same = a_journal_determines_its_replay x events u.calls calls u.st st port u.going.prepared.ready u.replay is in
    subst (λ s. IsShown (whole x) calls s c) same.1 (subst (λ cs. IsShown (whole x) cs u.st c) same.0 u.shown)

few_by : (events n left steps bound : ℕ) → events ≡ n → n + left ≤ steps + bound → steps ≤ 1048576 → bound < 2 ^ 30 → events + left < 2 ^ 32 - 1
few_by events n left steps bound is within few small = omega arith

pub few_left : (x : Inputs) (c : Course) (port : PortState) (steps : ℕ) (failed : Option ReplayError) → IsKept x c port steps failed
    → failed ≡ None → c.events + course_left x c < 2 ^ 32 - 1
few_left x c port steps failed stands none =
    let now = stands.performed none in
    few_by c.events (length stands.events) (course_left x c) steps (drain_bound (setup_for x)) now.under_way.counted now.left stands.within
    (few_events_are_left-bound x now.under_way.going.prepared stands.few_packets)

few_of : (n left steps bound : ℕ) → n + left ≤ steps + bound → n ≤ steps + bound
few_of n left steps bound h = omega arith

-- so it stands
pub stands_by : (x : Inputs) (events : List Event) (c : Course) (port : PortState) (steps : ℕ) (failed : Option ReplayError) → length x.packets ≤ 16384
    → steps ≤ 1048576 → IsPerforming x events c port steps → IsKept x c port steps failed
stands_by x events c port steps failed packets within now = record {
  few_packets = packets;
  within = within;
  events = events;
  alive = record {
    ready = now.under_way.going.prepared.ready;
    few = few_of _ _ _ _ now.left;
    replay = λ none. (now.under_way.calls, now.under_way.st, now.under_way.replay);
  };
  performed = λ none. now;
}

-- ## At the start

first_left : (left steps bound : ℕ) → left ≤ bound → 0 + left ≤ 0 + bound
first_left left steps bound h = omega arith

begun_performs : (x : Inputs) (c : Course) (first port : PortState) → HasReplayedFrom x [] c first port → IsPerforming x [] c port 0
begun_performs x c first port gone =
    let u = gone.under_way in
    record { under_way = u; left = first_left (course_left x c) 0 (drain_bound (setup_for x)) (few_events_are_left-left x [] u.calls u.st c port u.replay u.shown u.going) }

begun_is_new : (x : Inputs) (c : Course) (first port : PortState) → HasReplayedFrom x [] c first port → IsNew x first (replayer_of x [] 0 port None)
begun_is_new x c first port gone =
    let u = gone.under_way in
    let calls : u.calls ≡ [] = none_asked u.calls u.replay.answered.asked in
    record {
      given = refl;
      events = refl;
      steps = refl;
      failed = refl;
      at = subst (λ s. IsReplay x [] [] s port) u.replay.answered.run (subst (λ cs. IsReplay x [] cs u.st port) calls u.replay);
      stays = gone.stays;
    }

-- the job is a copy of the one that was given
pub copy_is_new : (x y : Inputs) (c : Course) (first port : PortState) → y ≡ x → HasReplayedFrom x [] c first port → IsNew x first (replayer_of y [] 0 port None)
copy_is_new x y c first port same gone = subst (λ z. IsNew x first (replayer_of z [] 0 port None)) (sym same) (begun_is_new x c first port gone)

pub copy_performs : (x y : Inputs) (c : Course) (first port : PortState) → y ≡ x → HasReplayedFrom x [] c first port → IsPerforming y [] c port 0
copy_performs x y c first port same gone = subst (λ z. IsPerforming z [] c port 0) (sym same) (begun_performs x c first port gone)

pub copy_stands : (x y : Inputs) (c : Course) (first port : PortState) → y ≡ x → HasReplayedFrom x [] c first port → length x.packets ≤ 16384
    → IsKept y c port 0 None
copy_stands x y c first port same gone packets =
    subst (λ z. IsKept z c port 0 None) (sym same) (stands_by x [] c port 0 None packets (omega arith) (begun_performs x c first port gone))

-- ## One event more

stepped_left : (n n' left left' steps bound : ℕ) → n' ≡ n + 1 → left' ≤ left → n + left ≤ steps + bound → n' + left' ≤ steps + 1 + bound
stepped_left n n' left left' steps bound one less h = omega arith

pub step_performs : (x : Inputs) (events : List Event) (event : Event) (stepped : Stepped) (c after : Course) (old new : PortState) (steps : ℕ)
    → HasAdvanced x event stepped c old after new → IsPerforming x events c old steps → IsPerforming x (events ++ event ∷ []) after new (steps + 1)
step_performs x events event stepped c after old new steps turned now =
    let u = now.under_way in
    let t = turned.turns events u.calls u.st u.replay u.shown in
    record {
      under_way = record {
        calls = u.calls ++ t.one;
        st = step (setup_for x) (answered x (u.calls ++ t.one)) u.st event;
        replay = a_replay_goes_on x events event u.calls t.one u.st old new u.going.prepared.ready u.replay t.asks t.called;
        shown = t.shown;
        going = turned.going;
        counted = turned.counted ∙ ap (λ n. n + 1) u.counted ∙ sym (length_push events event);
      };
      left = stepped_left _ _ (course_left x c) _ steps _ (length_push events event)
          (few_events_are_left-stays x events event stepped u.calls u.st c after old new u.replay u.shown u.going turned) now.left;
    }

pub has_stepped : (x : Inputs) (events : List Event) (event : Event) (stepped : Stepped) (c after : Course) (old new : PortState) (steps : ℕ)
    (failed : Option ReplayError) → failed ≡ None → HasAdvanced x event stepped c old after new → IsPerforming x events c old steps
    → HasStepped (replayer_of x events steps old failed) event stepped (replayer_of x (events ++ event ∷ []) (steps + 1) new failed)
has_stepped x events event stepped c after old new steps failed none turned now = record {
  given = refl;
  events = refl;
  steps = refl;
  failed = none;
  stays = turned.stays;
  applied = λ calls st is. (turned.turns events calls st is (shown_at x events c old steps calls st now is)).stepped_so;
  next = λ calls st is.
      let t = turned.turns events calls st is (shown_at x events c old steps calls st now is) in
      (t.one, a_replay_goes_on x events event calls t.one st old new now.under_way.going.prepared.ready is t.asks t.called);
}

pub step_stands : (x : Inputs) (event : Event) (stepped : Stepped) (c after : Course) (old new : PortState) (steps : ℕ)
    (failed : Option ReplayError) → failed ≡ None → steps < 1048576 → HasAdvanced x event stepped c old after new → IsKept x c old steps failed
    → IsKept x after new (steps + 1) failed
step_stands x event stepped c after old new steps failed none few turned stands =
    stands_by x (stands.events ++ event ∷ []) after new (steps + 1) failed stands.few_packets (omega arith)
    (step_performs x stands.events event stepped c after old new steps turned (stands.performed none))

-- ## Drain

drained_left : (n n' more count left left' steps bound : ℕ) → n' ≡ n + more → more ≡ count → count + left' ≤ left → n + left ≤ steps + bound
    → n' + left' ≤ steps + bound
drained_left n n' more count left left' steps bound is counted less h = omega arith

counted_on : (a b n more count : ℕ) → b ≡ a + count → a ≡ n → more ≡ count → b ≡ n + more
counted_on a b n more count is before counted = omega arith

-- the events that drain picked, behind these
abbrev pub drained_more : (x : Inputs) (events : List Event) (count : ℕ) (c after : Course) (old new : PortState) (steps : ℕ)
    → Drains x count c old after new → IsPerforming x events c old steps → List Event
drained_more x events count c after old new steps done now =
    let u = now.under_way in (done.turns events u.calls u.st u.replay u.shown).on.more

pub drain_performs : (x : Inputs) (events : List Event) (count : ℕ) (c after : Course) (old new : PortState) (steps : ℕ)
    (done : Drains x count c old after new) → count + course_left x after ≤ course_left x c → (now : IsPerforming x events c old steps)
    → IsPerforming x (events ++ drained_more x events count c after old new steps done now) after new steps
drain_performs x events count c after old new steps done less now =
    let u = now.under_way in
    let on = (done.turns events u.calls u.st u.replay u.shown).on in
    record {
      under_way = record {
        calls = u.calls ++ on.others;
        st = on.last;
        replay = on.picked.replay;
        shown = on.shown;
        going = done.going;
        counted = counted_on _ _ _ _ count done.events u.counted on.counted ∙ sym (length-append events on.more);
      };
      left = drained_left _ _ _ count (course_left x c) (course_left x after) steps _ (length-append events on.more) on.counted less now.left;
    }

pub settled : (x : Inputs) (events : List Event) (calls : List Call) (last : State) (port : PortState) → IsReady x
    → IsReplay x events calls last port → is_drained (setup_for x) last ≡ true → HasSettled x events calls last port
settled x events calls last port ready replay drained =
    let promises : (tables : Told) → port.told ≡ Some tables → Promises x events (run_of (setup_for x) last) =
    λ tables is. subst (λ (st : State). Promises x events (run_of (setup_for x) st)) (sym (replay.told tables is).tied.same) (a_run_keeps_its_promises x events ready) in
    record {
      once = end_once (setup_for x) (whole x) x.packets events calls last replay.answered;
      promises = promises;
      drained = λ tables is. (promises tables is).drained drained;
      tables = λ tables is. a_quiet_switch_has_the_servers_tables x events calls last port tables ready replay is (and_second _ (is_quiet last) drained);
    }

pub has_emptied : (x : Inputs) (events : List Event) (count : ℕ) (c after : Course) (old new : PortState) (steps : ℕ) (failed : Option ReplayError)
    → failed ≡ None → (done : Drains x count c old after new) (now : IsPerforming x events c old steps)
    → HasEmptied (replayer_of x events steps old failed) count
    (replayer_of x (events ++ drained_more x events count c after old new steps done now) steps new failed)
has_emptied x events count c after old new steps failed none done now =
    let u = now.under_way in
    let all = done.turns events u.calls u.st u.replay u.shown in
    let on = all.on in
    record {
      given = refl;
      more = on.more;
      events = refl;
      counted = on.counted;
      steps = refl;
      failed = none;
      stays = done.stays;
      next = λ calls st is.
          let ready = u.going.prepared.ready in
          let same = (a_journal_determines_its_replay x events u.calls calls u.st st old ready u.replay is).0 in (
            on.others,
            on.last,
            subst (λ cs. HasPicked x events on.more (cs ++ on.others) on.last new) same on.picked,
            subst (λ cs. HasDrained x events on.more (cs ++ on.others) on.last new) same all.drained,
            subst (λ cs. HasSettled x (events ++ on.more) (cs ++ on.others) on.last new) same
                (settled x (events ++ on.more) (u.calls ++ on.others) on.last new ready on.picked.replay all.drained.drained),
          );
    }

pub drain_stands : (x : Inputs) (count : ℕ) (c after : Course) (old new : PortState) (steps : ℕ) (failed : Option ReplayError) → failed ≡ None
    → Drains x count c old after new → count + course_left x after ≤ course_left x c → IsKept x c old steps failed → IsKept x after new steps failed
drain_stands x count c after old new steps failed none done less stands =
    let now = stands.performed none in
    stands_by x (stands.events ++ drained_more x stands.events count c after old new steps done now) after new steps failed stands.few_packets stands.within
    (drain_performs x stands.events count c after old new steps done less now)

short_by : (a b c d : ℕ) → a + b ≤ c → c ≤ d → a ≤ d
short_by a b c d h k = omega arith

pub drain_short : (x : Inputs) (count : ℕ) (c after : Course) (old : PortState) (steps : ℕ) (failed : Option ReplayError) → failed ≡ None
    → count + course_left x after ≤ course_left x c → IsKept x c old steps failed → count ≤ drain_bound (setup_for x)
drain_short x count c after old steps failed none less stands =
    let u = (stands.performed none).under_way in
    short_by count (course_left x after) _ _ less (few_events_are_left-left x stands.events u.calls u.st c old u.replay u.shown u.going)

-- ## Report

pub report_performs : (x : Inputs) (events : List Event) (replayed : Replayed) (c : Course) (old new : PortState) (steps : ℕ)
    → ReportsOf x c old new replayed → IsPerforming x events c old steps → IsPerforming x events c new steps
report_performs x events replayed c old new steps says now =
    let u = now.under_way in
    let kept = (says u.calls u.st u.shown).kept in
    record {
      under_way = record {
        calls = u.calls;
        st = u.st;
        replay = kept_replay x events u.calls u.st old new u.replay kept;
        shown = u.shown;
        going = record {
          prepared = u.going.prepared;
          sound = u.going.sound;
          loaded = kept.code ∙ u.going.loaded;
          spare = le_trans _ _ _ u.going.spare kept.spare;
        };
        counted = u.counted;
      };
      left = now.left;
    }

pub has_reported : (x : Inputs) (events : List Event) (replayed : Replayed) (c : Course) (old new : PortState) (steps : ℕ)
    (failed : Option ReplayError) → failed ≡ None → ReportsOf x c old new replayed → IsPerforming x events c old steps
    → HasReported (replayer_of x events steps old failed) replayed (replayer_of x events steps new failed)
has_reported x events replayed c old new steps failed none says now =
    let u = now.under_way in
    let ready = u.going.prepared.ready in
    let here = says u.calls u.st u.shown in
    record {
      given = refl;
      events = refl;
      steps = refl;
      failed = none;
      stays = record { told = ap is_some here.kept.told; faults = here.kept.faults };
      told = λ calls st is. (
        says calls st (shown_at x events c old steps calls st now is),
        kept_replay x events calls st old new is here.kept,
      );
      promises = λ tables told_is.
          subst (λ r. Promises x events r)
          (sym (a_told_replay_reports_the_run x events u.calls u.st old new replayed.run replayed.commands tables ready u.replay here told_is)) (a_run_keeps_its_promises x events ready);
    }

pub report_stands : (x : Inputs) (replayed : Replayed) (c : Course) (old new : PortState) (steps : ℕ) (failed : Option ReplayError) → failed ≡ None
    → ReportsOf x c old new replayed → IsKept x c old steps failed → IsKept x c new steps failed
report_stands x replayed c old new steps failed none says stands =
    stands_by x stands.events c new steps failed stands.few_packets stands.within
    (report_performs x stands.events replayed c old new steps says (stands.performed none))

-- ## Errors

pub has_failed : (x : Inputs) (events : List Event) (e : ReplayError) (old new : PortState) (steps : ℕ) (failed : Option ReplayError) → failed ≡ None
    → Fails e old new → HasFailed (replayer_of x events steps old failed) e (replayer_of x events steps new (Some e))
has_failed x events e old new steps failed none fails = record {
  before = none;
  failed = refl;
  given = refl;
  events = refl;
  steps = refl;
  port = fails;
}

-- one that has failed stands, whatever its course and its port are
pub failed_stands : (x : Inputs) (e : ReplayError) (c after : Course) (old new : PortState) (steps : ℕ) (failed : Option ReplayError)
    → IsKept x c old steps failed → IsKept x after new steps (Some e)
failed_stands x e c after old new steps failed stands = record {
  few_packets = stands.few_packets;
  within = stands.within;
  events = stands.events;
  alive = record {
    ready = stands.alive.ready;
    few = stands.alive.few;
    replay = λ none. absurd (none-some e (sym none));
  };
  performed = λ none. absurd (none-some e (sym none));
}
