-- A whole replay over links, from its start to what is reported.
use Rattle.std.proofs.Common.{◌≡◌, ◌<◌, ◌≤◌, ◌+◌, ℕ, false, List, [], ◌∷◌, ◌++◌, length, map, take, Some, refl, sym, ap, subst, ◌∙◌, arith, append-nil}
use Rattle.std.specs.Prelude.{IsSome, is_some, slice_get}
use Rattle.lossy_link.specs.CommandBytes.{bytes_of}
use Rattle.run_model.specs.Sizes.{most_events}
use Rattle.run_model.specs.declared.link_event.LinkEvent.{LinkEvent}
use Rattle.run_model.specs.declared.run.Run.{Run}
use Rattle.switch_ir.specs.Port.{PortState}
use Rattle.split_answers.specs.Through.{HasTables}
use Rattle.replay_state.specs.Drain.{is_quiet}
use Rattle.replay_state.specs.Journal.{Call}
use Rattle.replay_state.specs.Run.{job_run}
use Rattle.replay_state.specs.State.{State, applied_commands}
use Rattle.replay_contracts.specs.Inputs.{Inputs, setup_for, whole, whole_runs}
use Rattle.replay_contracts.specs.Promise.{Promises, Reports, state_for}
use Rattle.replay_contracts.specs.Replay.{IsReplay}
use Rattle.replay_contracts.specs.Replayer.{StaysTold}
use Rattle.replay_contracts.specs.declared.job.Replayed.{Replayed}
use Rattle.replay_course.specs.declared.course.Course.{Course}
use Rattle.replay_course.specs.UnderWay.{HasReplayedFrom}
use Rattle.lossy_replay.specs.Linked.{Linked, first_linked, linked_of}
use Rattle.lossy_replay.specs.Linking.{AreLinks, ArePlaced, HasLinked, IsLinking, IsLinkingShort, StayPlaced}
use Rattle.lossy_replay.specs.Replay.{HasEnds, HasItems, IsLinkedReplay, IsLinkedRun, events_through, frames_in, linked_by, world_by, world_of}
use Rattle.lossy_replay.specs.declared.links.Links.{Links}
use Rattle.lossy_replay.specs.declared.run.LossyRun.{LossyRun}
use Rattle.lossy_replay.proofs.GoingOn.{no_parts}
use Rattle.lossy_replay.proofs.Items.{blank, sent_of}
use Rattle.lossy_replay.proofs.Placed.{takes_what_came}
use Rattle.lemmas.proofs.Lists.{length_take_most, take_next, take_past}
use Rattle.replay_contracts.proofs.Asked.{none_asked}
use Rattle.replay_contracts.proofs.Laws.{a_quiet_switch_has_the_servers_tables, a_run_keeps_its_promises, a_told_replay_reports_the_run}
use Rattle.replay_course.proofs.ReportedState.{ReportsOf, kept_replay, reports_there, some_of}
use Rattle.replay_state.proofs.Laws.{a_run_is_answered_by_its_calls-once as end_once}

-- ---- the start

no_items : (x : Inputs) (calls : List Call) (st : State) (port : PortState) → IsReplay x [] calls st port → HasItems x first_linked calls st
no_items x calls st port replay =
    let none : calls ≡ [] = none_asked calls replay.answered.asked in
    record {
      up = ap frames_in (sym none);
      down = refl;
      ctl = ap (λ (s : State). map bytes_of (sent_of s)) (sym replay.answered.run);
      ack = ap (λ (s : State). map blank (applied_commands s)) (sym replay.answered.run);
    }

first_placed : (x : Inputs) (calls : List Call) → StayPlaced x [] calls
first_placed x calls = λ more before behind is.
    subst (λ (s : List LinkEvent). ArePlaced (world_by x (calls ++ more)) (linked_by x (calls ++ more) s)) (sym (no_parts before behind is).0)
    (record { up = refl; down = refl; stand_up = λ j number at. absurd cc; stand_down = λ j number at. absurd cc })

pub starts : (x : Inputs) (links : Links) (c : Course) (first port : PortState) → x.manner.fine ≡ false → HasReplayedFrom x [] c first port
    → AreLinks 0 first_linked links → HasLinked x [] links c first port
starts x links c first port plain gone are =
    let u = gone.under_way in
    record {
      linking = record {
        plain = plain;
        calls = u.calls;
        st = u.st;
        linked = first_linked;
        stands = λ more. refl;
        replay = u.replay;
        shown = u.shown;
        going = u.going;
        counted = u.counted;
        few = omega arith;
        items = no_items x u.calls u.st port u.replay;
        links_are = are;
        placed = first_placed x u.calls;
        told = λ tables is. refl;
      };
      stays = gone.stays;
    }

-- ---- one event more

short_of : (n i count most : ℕ) → n ≤ i → i < count → count ≤ most → n < most
short_of n i count most few inside all = omega arith

pub on_its_way : (x : Inputs) (n : ℕ) (schedule : List LinkEvent) (links : Links) (c : Course) (first port : PortState)
    → HasLinked x (take n schedule) links c first port → n < length schedule → length schedule ≤ most_events → IsLinkingShort x links c port
on_its_way x n schedule links c first port has inside few = record {
  schedule = take n schedule;
  short = short_of (length (take n schedule)) n (length schedule) most_events (length_take_most n schedule) inside few;
  linking = has.linking;
}

pub linked_more : (x : Inputs) (n : ℕ) (schedule : List LinkEvent) (event : LinkEvent) (links next : Links) (c after : Course) (first old new : PortState)
    → slice_get schedule n ≡ Some event → HasLinked x (take n schedule) links c first old
    → ((s : List LinkEvent) → IsLinking x s links c old → IsLinking x (s ++ event ∷ []) next after new) → StaysTold old new
    → HasLinked x (take (n + 1) schedule) next after first new
linked_more x n schedule event links next c after first old new at has on stays =
    subst (λ (s : List LinkEvent). HasLinked x s next after first new) (sym (take_next schedule n event at)) (record {
      linking = on (take n schedule) has.linking;
      stays = record { told = stays.told ∙ has.stays.told; faults = stays.faults ∙ has.stays.faults };
    })

pub all_linked : (x : Inputs) (n : ℕ) (schedule : List LinkEvent) (links : Links) (c : Course) (first port : PortState)
    → HasLinked x (take n schedule) links c first port → length schedule ≤ n → HasLinked x schedule links c first port
all_linked x n schedule links c first port has past =
    subst (λ (s : List LinkEvent). HasLinked x s links c first port) (take_past schedule n past) has

-- ---- the report

abbrev pub EndsOf : Links → LossyRun → Type 0
EndsOf links run = (n : ℕ) (l : Linked) → AreLinks n l links → HasEnds l run

pub is_linked : (x : Inputs) (schedule : List LinkEvent) (links : Links) (c : Course) (first port new : PortState) (replayed : Replayed)
    (run : LossyRun) → HasLinked x schedule links c first port → ReportsOf x c port new replayed → run.run ≡ replayed.run → EndsOf links run
    → IsLinkedReplay x schedule run new
is_linked x schedule links c first port new replayed run has says same_run ends =
    let k = has.linking in
    let same : linked_by x k.calls schedule ≡ k.linked =
    ap (λ (cs : List Call). linked_by x cs schedule) (sym (append-nil k.calls)) ∙ k.stands [] in
    let reports = says k.calls k.st k.shown in
    record {
      calls = k.calls;
      last = k.st;
      commands = replayed.commands;
      replay = subst (λ (l : Linked). IsReplay x l.events k.calls k.st new) (sym same)
          (kept_replay x k.linked.events k.calls k.st port new k.replay reports.kept);
      reports = subst (λ (r : Run). Reports x k.st new new r replayed.commands) (sym same_run)
          (reports_there x k.st port new replayed.run replayed.commands reports);
      once = end_once (setup_for x) (whole x) x.packets k.linked.events k.calls k.st k.replay.answered;
      ends = subst (λ (l : Linked). HasEnds l run) (sym same) (ends (length schedule) k.linked k.links_are);
      items = subst (λ (l : Linked). HasItems x l k.calls k.st) (sym same) k.items;
      came = λ before behind is. takes_what_came (world_by x k.calls) (linked_by x k.calls before)
          (subst (λ (cs : List Call). ArePlaced (world_by x cs) (linked_by x cs before)) (append-nil k.calls) (k.placed [] before behind is));
    }

pub is_linked_run : (x : Inputs) (schedule : List LinkEvent) (links : Links) (c : Course)
    (first port new : PortState) (replayed : Replayed) (run : LossyRun) → HasLinked x schedule links c first port
    → ReportsOf x c port new replayed → run.run ≡ replayed.run → EndsOf links run → IsSome port.told → IsLinkedRun x schedule run new
is_linked_run x schedule links c first port new replayed run has says same_run ends tells =
    let k = has.linking in
    let setup = setup_for x in
    let ready = k.going.prepared.ready in
    let reports = says k.calls k.st k.shown in
    let told = some_of port.told tells in
    let same : linked_of setup (world_of x) schedule ≡ k.linked = k.told told.0 told.1 in
    let events = events_through x schedule in
    let those : k.linked.events ≡ events = ap (λ (l : Linked). l.events) (sym same) in
    let is = a_told_replay_reports_the_run x k.linked.events k.calls k.st port new replayed.run replayed.commands told.0 ready k.replay reports told.1 in
    let last : k.st ≡ state_for x events = (k.replay.told told.0 told.1).tied.same ∙ ap (state_for x) those in
    record {
      promises = subst (λ (r : Run). Promises x events r) (sym (same_run ∙ (is ∙ ap (job_run setup (whole_runs x)) those)))
          (a_run_keeps_its_promises x events ready);
      ends = subst (λ (l : Linked). HasEnds l run) (sym same) (ends (length schedule) k.linked k.links_are);
      tables = λ quiet.
          let there = reports.kept.told ∙ told.1 in
          let after = kept_replay x k.linked.events k.calls k.st port new k.replay reports.kept in
          let tables = a_quiet_switch_has_the_servers_tables x k.linked.events k.calls k.st new told.0 ready after there (ap is_quiet last ∙ quiet) in
          (told.0, there, subst (λ (st : State). HasTables x.program x.split x.writeback st.store told.0) last tables);
    }

-- the port tells its tables where it told them before, and no call of it failed
pub stays_reported : (x : Inputs) (schedule : List LinkEvent) (links : Links) (c : Course) (first port new : PortState) (replayed : Replayed)
    → HasLinked x schedule links c first port → ReportsOf x c port new replayed → StaysTold first new
stays_reported x schedule links c first port new replayed has says =
    let k = has.linking in
    let kept = (says k.calls k.st k.shown).kept in
    record { told = ap is_some kept.told ∙ has.stays.told; faults = kept.faults ∙ has.stays.faults }
