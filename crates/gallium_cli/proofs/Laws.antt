-- What holds of the report of each replay.
use Rattle.std.specs.List.{AllByRecursion as Each}
use Rattle.std.specs.Prelude.{IsTrue, List, length, ℕ, ◌≤◌}
use Rattle.element_lang.specs.Accepted.{IsSource}
use Rattle.element_lang.specs.Tree.{Tree}
use Rattle.flat_ir.specs.Arrivals.{IsArrival}
use Rattle.packet_fields.specs.declared.packet.Packet.{Packet}
use Rattle.report_text.specs.Form.{are_declared}
use Rattle.run_model.specs.Sizes.{most_packets}
use Rattle.gallium_cli.proofs.Replayed.{replay_is_true}
use Rattle.gallium_cli.specs.Answers.{IsReplayOf}
use Rattle.gallium_cli.specs.Roles.{IsSpelled, true_report}

-- The report of a replay is a report, and it is true: whatever the split and the schedule, it is read back as a run,
-- its counts agree, and it tells a serial run of the source in the order that is audited.
pub reports_of_replays_are_true : (source : List ℕ) (m : Tree) (packets : List Packet) (text : List ℕ)
    → IsSource source m → IsTrue (are_declared m.objects) → Each IsArrival packets
    → length packets ≤ most_packets → IsReplayOf m packets text → IsSpelled (true_report m packets) text
reports_of_replays_are_true = replay_is_true
