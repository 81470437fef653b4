-- What holds of what a replay tells.
use Rattle.std.specs.List.{AllByRecursion as Each}
use Rattle.std.specs.Prelude.{List, length, ℕ, ◌<◌, ◌^◌}
use Rattle.flat_ir.specs.Arrivals.{IsArrival}
use Rattle.flat_ir.specs.Program.{Program}
use Rattle.packet_fields.specs.declared.packet.Packet.{Packet}
use Rattle.replay_state.proofs.Laws.{every_run_serialises-serialises, stores_keep_what_was_declared-seen, stores_keep_what_was_declared-server, whole_runs_are_sound-sound}
use Rattle.replay_state.specs.Program.{Manner, plain, setup_of}
use Rattle.replay_state.specs.Run.{job_run}
use Rattle.report_text.specs.Form.{InForm}
use Rattle.run_model.specs.declared.event.Event.{Event}
use Rattle.split_answers.proofs.Laws.{split_programs_have_their_laws}
use Rattle.split_answers.specs.Whole.{IsSplit, whole_of}
use Rattle.split_model.specs.declared.split.Part.{Part}
use Rattle.replay_reports.proofs.Formed.{formed}
use Rattle.replay_reports.proofs.Verdicts.{whole_told}

-- Whatever the schedule, the run of a split program is one that a report can tell, where its packets and its events
-- can be counted in 32 bits: each number fits, the order names each decided packet, and each object has rows of its
-- counts and widths in rising order.
pub replayed_runs_are_in_form : (f : Program) (split : List Part) (writeback : ℕ) (packets : List Packet) (manner : Manner)
    (events : List Event)
    → IsSplit f split writeback → Each IsArrival packets → length packets < 2 ^ 32 → length events < 2 ^ 32
    → (let s = whole_of f split writeback in
    InForm f.objects (job_run (setup_of s packets manner) (plain s packets) events))
replayed_runs_are_in_form = λ f split writeback packets manner events is arrivals few_packets few_events.
    let s = whole_of f split writeback in
    let setup = setup_of s packets manner in
    let a = plain s packets in
    let program = split_programs_have_their_laws f split writeback packets is arrivals in
    let sound = whole_runs_are_sound-sound s packets manner program in
    formed f split writeback packets manner events is
    (whole_told f split writeback packets arrivals)
    (every_run_serialises-serialises setup a events sound).admitted
    (stores_keep_what_was_declared-server setup a events sound)
    (stores_keep_what_was_declared-seen setup a events sound) few_packets few_events
