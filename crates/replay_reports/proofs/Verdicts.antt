-- Verdicts of a flat program, which a report can tell.
use Rattle.std.proofs.Common.{ℕ, ◌≤◌, ◌%◌, ◌^◌, List, [], ◌∷◌, Some, None, IfSome, arith, zero, suc}
use Rattle.std.specs.Prelude.{◌==◌}
use Rattle.std.specs.List.{AllByRecursion as Each}
use Rattle.packet_fields.specs.declared.packet.Packet.{Packet}
use Rattle.packet_fields.specs.declared.verdict.Verdict.TheVariants.{Drop, Send}
use Rattle.packet_fields.specs.Fields.{with_field}
use Rattle.packet_fields.specs.Several.{AreBytes}
use Rattle.state_store.specs.Store.{Store}
use Rattle.flat_ir.specs.Arrivals.{IsArrival}
use Rattle.flat_ir.specs.declared.program.FieldValue.{FieldValue}
use Rattle.flat_ir.specs.declared.program.ValueId.{ValueId}
use Rattle.flat_ir.specs.Blocks.{Reading}
use Rattle.flat_ir.specs.Program.{Program}
use Rattle.flat_ir.specs.Run.{flat_run, flat_verdict, sent, with_writes}
use Rattle.split_model.specs.declared.split.Part.{Part}
use Rattle.replay_state.specs.Program.{packet_at, plain}
use Rattle.split_answers.specs.Whole.{whole_of}
use Rattle.report_text.specs.Form.{IsVerdict}
use Rattle.replay_reports.proofs.Small.{TellVerdicts}
use Rattle.replay_reports.proofs.Versions.{if_both}
use Rattle.packet_fields.proofs.Laws.{fields_stand_alone-bytes}

written : (ws : List FieldValue) (reads : Reading) (bytes : List ℕ) → AreBytes bytes
    → AreBytes (with_writes ws reads bytes)
written [] reads bytes are = are
written (w ∷ ws) reads bytes are =
    written ws reads (with_field bytes w.field (reads w.value)) (fields_stand_alone-bytes bytes w.field (reads w.value) are)

low_port : (n : ℕ) → n % 2 ^ 8 ≤ 255
low_port n = omega arith

sent_told : (send port : ValueId) (fields : List FieldValue) (reads : Reading) (packet : Packet)
    → AreBytes packet.bytes → IsVerdict (sent send port fields reads packet)
sent_told send port fields reads packet are =
    if_both IsVerdict (reads send == 0) Drop (Send (reads port % 2 ^ 8) (with_writes fields reads packet.bytes)) tt
    (low_port (reads port), written fields reads packet.bytes are)

-- whatever the store
verdict_told : (f : Program) (store : Store) (packet : Packet) → AreBytes packet.bytes
    → IsVerdict (flat_verdict f store packet)
verdict_told f store packet are = sent_told f.send f.port f.fields (flat_run f store packet).reads packet are

no_bytes : AreBytes []
no_bytes i = omega arith

-- the packet of each number
bytes_at : (packets : List Packet) (n : ℕ) → Each IsArrival packets → AreBytes (packet_at packets n).bytes
bytes_at [] n each = no_bytes
bytes_at (packet ∷ packets) zero each = each.0.bytes
bytes_at (packet ∷ packets) (suc n) each = bytes_at packets n each.1

pub whole_told : (f : Program) (split : List Part) (writeback : ℕ) (packets : List Packet)
    → Each IsArrival packets → TellVerdicts (plain (whole_of f split writeback) packets)
whole_told f split writeback packets each = record {
  pre = λ store n.
      if_both (λ o. IfSome o IsVerdict) _ (Some (flat_verdict f store (packet_at packets n))) None
      (verdict_told f store (packet_at packets n) (bytes_at packets n each)) tt;
  post = λ store n. verdict_told f store (packet_at packets n) (bytes_at packets n each);
}
