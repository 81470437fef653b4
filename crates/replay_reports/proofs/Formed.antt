-- The run of a split program is one that a report can tell.
use Rattle.std.proofs.Common.{◌≡◌, ◌≤◌, ◌<◌, ◌+◌, ◌^◌, ℕ, true, List, length, arith}
use Rattle.flat_ir.specs.Program.{Program}
use Rattle.packet_fields.specs.declared.packet.Packet.{Packet}
use Rattle.state_store.specs.Kept.{IsKept}
use Rattle.state_store.specs.Kinds.{is_constant}
use Rattle.state_store.specs.Store.{start_store}
use Rattle.run_model.specs.declared.event.Event.{Event}
use Rattle.run_model.specs.Fate.{is_decided, is_released}
use Rattle.split_model.specs.declared.split.Part.{Part}
use Rattle.split_model.specs.Shown.{is_replicated, is_shown}
use Rattle.replay_state.specs.Program.{Manner, plain, setup_of}
use Rattle.replay_state.specs.Run.{job_run, seen_store}
use Rattle.replay_state.specs.State.{first_state}
use Rattle.replay_state.specs.Step.{state_of}
use Rattle.split_answers.specs.Whole.{whole_of, IsSplit}
use Rattle.report_text.specs.Form.{InForm}
use Rattle.replay_reports.proofs.Versions.{visible_low}
use Rattle.replay_reports.proofs.Small.{TellVerdicts, IsSmallState, first_small, steps_counted, steps_small, told_fates}
use Rattle.replay_reports.proofs.Orders.{few, order_count, order_within}
use Rattle.replay_reports.proofs.Parts.{numbers_from, server_parts, switch_order, switch_parts}
use Rattle.lemmas.proofs.Tests.{false_of_not_and}

-- a run whose packets are no more than the trace has, over stores that keep what was declared
pub formed : (f : Program) (split : List Part) (writeback : ℕ) (packets : List Packet) (manner : Manner)
    (events : List Event)
    → (let s = whole_of f split writeback in
    let setup = setup_of s packets manner in
    let a = plain s packets in
    let st = state_of setup a events in
    IsSplit f split writeback → TellVerdicts a
    → length (job_run setup a events).fates ≤ length packets → IsKept f.objects st.store
    → IsKept f.objects (seen_store st) → length packets < 2 ^ 32 → length events < 2 ^ 32
    → InForm f.objects (job_run setup a events))
formed f split writeback packets manner events is told admitted server shown few_packets few_events =
    let s = whole_of f split writeback in
    let setup = setup_of s packets manner in
    let a = plain s packets in
    let start = first_state (start_store f.objects) in
    let st = state_of setup a events in
    let run = job_run setup a events in
    let small : IsSmallState st = steps_small setup a told start events (first_small (start_store f.objects)) in
    let all : st.events ≡ 0 + length events = steps_counted setup a told start events in
    let version = small.version in
    let idle = small.idle in
    let versions = small.versions in
    let visible = visible_low st.batches st.done in
    let some_decided = few is_decided run.fates in
    let some_released = few is_released run.fates in
    let objects = is.bounded.small in
    let changing = λ (n : ℕ) (h : is_replicated f split n ≡ true). false_of_not_and (is_constant f.objects n) (is_shown f split n) h in
    record {
      total = few_packets;
      admitted = omega arith;
      decided = omega arith;
      released = omega arith;
      events = omega arith;
      idle = omega arith;
      version = omega arith;
      visible = omega arith;
      fates = told_fates st.events st.version st.progress (omega arith) version small.each;
      ordered = order_count run.fates;
      order = order_within run.fates;
      numbers = numbers_from 0 f.objects st.store;
      server = server_parts f.objects st.store objects server;
      shown = switch_order (is_replicated f split) 0 f.objects (seen_store st);
      switch = switch_parts f.objects (seen_store st) objects shown (is_replicated f split) changing;
    }
