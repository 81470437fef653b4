-- The report of a replay is a report, and it is true.
use Rattle.std.proofs.Common.{◌≡◌, ◌≤◌, ◌<◌, ◌^◌, ◌+◌, ℕ, Bool, true, false, List, length, Option, IsSomeAnd, refl, sym, subst, inl, inr, arith}
use Rattle.std.specs.Prelude.{IsTrue}
use Rattle.std.specs.List.{AllByRecursion as Each}
use Rattle.std.proofs.lemmas.List.{length-append}
use Rattle.packet_fields.specs.declared.packet.Packet.{Packet}
use Rattle.state_store.specs.Kept.{IsKept}
use Rattle.state_store.specs.Store.{start_store}
use Rattle.element_lang.specs.Accepted.{IsSource}
use Rattle.element_lang.specs.Tree.{Tree}
use Rattle.flat_ir.specs.Arrivals.{IsArrival}
use Rattle.flat_ir.specs.Program.{Program}
use Rattle.flatten.specs.Flatten.{flat_of}
use Rattle.split_model.specs.declared.split.Part.{Part}
use Rattle.split_model.specs.Bounds.{HasFewStages, IsBounded}
use Rattle.run_model.specs.declared.event.Event.{Event}
use Rattle.run_model.specs.Serialises.{Serialises}
use Rattle.run_model.specs.Sizes.{most_events, most_packets}
use Rattle.replay_state.specs.Answers.{Answers, Setup}
use Rattle.replay_state.specs.Drain.{drain_bound, drain_events, plan_events}
use Rattle.replay_state.specs.Program.{manner_of}
use Rattle.replay_state.specs.Run.{job_run}
use Rattle.replay_state.specs.State.{State}
use Rattle.replay_state.specs.Step.{state_of}
use Rattle.split_answers.specs.Whole.{IsSplit}
use Rattle.replay_contracts.specs.Inputs.{IsReady, setup_for, whole_runs}
use Rattle.replay_course.specs.Going.{IsPrepared}
use Rattle.report_text.specs.Form.{InForm, are_declared}
use Rattle.report_text.specs.Lines.{IsReport}
use Rattle.run_audit.specs.Counts.{CountsAgree}
use Rattle.run_audit.specs.Source.{source_of}
use Rattle.element_interp.proofs.Laws.{stores_are_kept-start}
use Rattle.flatten.proofs.Laws.{flattened_is_well_formed}
use Rattle.replay_contracts.proofs.Laws.{a_run_keeps_its_promises}
use Rattle.replay_course.proofs.Laws.{few_events_are_left-bound, few_events_are_left-commands}
use Rattle.replay_reports.proofs.Laws.{replayed_runs_are_in_form}
use Rattle.replay_state.proofs.Laws.{drain_ends-bound}
use Rattle.report_text.proofs.Laws.{printed_runs_are_read}
use Rattle.run_audit.proofs.Laws.{true_reports_serialise-true_report}
use Rattle.run_model.proofs.Laws.{meanings_that_agree-serialises}
use Rattle.gallium_cli.specs.Answers.{IsAuditInput, IsReplayOf, MayReplay, events_of, given}
use Rattle.gallium_cli.specs.Promises.{IsReplayReport}
use Rattle.gallium_cli.specs.Roles.{IsSpelled, true_report}
use Rattle.gallium_cli.proofs.Bounds.{bounded_program}
use Rattle.gallium_cli.proofs.Reported.{split_is_source}
use Rattle.gallium_cli.proofs.Runnable.{few_served, split_served, split_within}
use Rattle.gallium_cli.proofs.Told.{meet, some_then}
use Rattle.gallium_cli.proofs.Untrue.{IsSameInput}
use Rattle.partition.proofs.Chosen.{few_stages_within_limits}

-- ## Splits

-- a split that a replay may go by has few writes for its write-back tables
split_is : (m : Tree) (split : List Part) (writeback : ℕ) → IsBounded (flat_of m) → IsKept m.objects (start_store m.objects)
    → MayReplay (flat_of m) split writeback → IsSplit (flat_of m) split writeback
split_is m split writeback bounded kept (inl (allowed, accepted, ranges, rows)) =
    split_within (flat_of m) split allowed writeback bounded accepted.legal kept accepted.keeps rows
split_is m split writeback bounded kept (inr (choice, rows)) =
    split_served (flat_of m) split writeback bounded choice.legal kept choice.least rows

-- and few stages
few_stages : (f : Program) (split : List Part) (writeback : ℕ) → length split ≡ length f.code → MayReplay f split writeback
    → HasFewStages split
few_stages f split writeback count (inl (allowed, accepted, ranges, rows)) =
    few_stages_within_limits f allowed split count ranges accepted.keeps
few_stages f split writeback count (inr (choice, rows)) = few_served f split choice.least

-- ## Events

-- how many events a plan has, with those of drain
all_events : (setup : Setup) (a : Answers) (events : List Event) (drain : Bool) (bound : ℕ)
    → ((st : State) → length (drain_events setup a st) ≤ bound)
    → length (plan_events setup a events drain) ≤ length events + bound
all_events setup a events true bound few =
    let st = state_of setup a events in
    let low = few st in
    omega (arith, length-append events (drain_events setup a st))
all_events setup a events false bound few = omega arith

-- ## Reports

few_in_all : (n events bound : ℕ) → n ≤ events + bound → events ≤ most_events → bound < 2 ^ 30 → n < 2 ^ 32
few_in_all n events bound all few low = omega arith

low_count : (n : ℕ) → n ≤ most_packets → n < 2 ^ 32
low_count n few = omega arith

count_within : (n : ℕ) → n ≤ most_packets → n ≤ 2 ^ 32
count_within n few = omega arith

pub replay_is_true : (text : List ℕ) (m : Tree) (packets : List Packet) (report : List ℕ) → IsSource text m
    → IsTrue (are_declared m.objects) → Each IsArrival packets → length packets ≤ most_packets
    → IsReplayOf m packets report → IsSpelled (true_report m packets) report
replay_is_true text m packets report is declared arrivals few replay =
    let f = flat_of m in
    let split = replay.split in
    let writeback = replay.writeback in
    let plan = replay.plan in
    let x = given m split writeback packets plan.fine in
    let events = events_of x plan in
    let run = job_run (setup_for x) (whole_runs x) events in
    let good = is.spelling.good in
    let bounded = bounded_program text m f is refl (flattened_is_well_formed m good) replay.short in
    let one = split_is m split writeback bounded (stores_are_kept-start m good) replay.by in
    let ready : IsReady x = record { split = one; arrivals = arrivals; few = count_within (length packets) few } in
    let prepared : IsPrepared x =
    record {
      ready = ready;
      stages = few_stages f split writeback one.legal.count replay.by;
      manner = refl;
      few = few_events_are_left-commands x one few;
    } in
    let count =
    few_in_all (length events) (length plan.events) (drain_bound (setup_for x))
    (all_events (setup_for x) (whole_runs x) plan.events plan.drain (drain_bound (setup_for x))
    (drain_ends-bound (setup_for x) (whole_runs x)))
    replay.few (few_events_are_left-bound x prepared few) in
    let alike = split_is_source m split writeback (length packets) packets plan.fine good arrivals in
    let serial : Serialises (source_of m packets) run =
    meanings_that_agree-serialises _ (source_of m packets) run alike (a_run_keeps_its_promises x events ready).serialises in
    let counts : CountsAgree packets run =
    record { total = refl; admitted = serial.admitted; decided = refl; released = refl } in
    let form : InForm m.objects run =
    replayed_runs_are_in_form f split writeback packets (manner_of plan.fine) events one arrivals (low_count (length packets) few) count in (
      run,
      subst (λ (t : List ℕ). IsReport m.objects t run) (sym replay.report) (printed_runs_are_read m.objects run declared form),
      true_reports_serialise-true_report m packets run counts serial,
    )

-- ## Told contents

-- the report of a replay, of the middlebox and the packets that a call found
pub replay_told : (told : List ℕ → Option (List ℕ)) (s t r : List ℕ) (m : Tree) (packets : List Packet)
    → IsAuditInput told s t m packets → (replay : IsReplayReport told s t r)
    → IsSameInput replay.m m replay.packets packets → IsSomeAnd (told r) (IsSpelled (true_report m packets))
replay_told told s t r m packets found replay same =
    let (source, is, own) = meet _ _ (told s) replay.source found.input.source in
    some_then _ (IsSpelled (true_report m packets)) (told r) replay.replay
    (λ report told_so. replay_is_true source m packets report own.1.source found.declared found.arrivals found.few
    (subst (λ (n : Tree). IsReplayOf n packets report) same.middlebox
    (subst (λ (ps : List Packet). IsReplayOf replay.m ps report) same.arrived told_so)))
