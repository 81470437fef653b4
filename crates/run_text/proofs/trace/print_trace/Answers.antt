use Rattle.std.proofs.Common.{◌≡◌, List, length, ap, arith, subst}
use Rattle.std.proofs.lemmas.Grind.{common_steps}
use Rattle.packet_fields.specs.declared.packet.Packet.{Packet}
use Rattle.run_text.specs.Printed.{IsLineOf, packet_text, trace_text}
use Rattle.run_text.specs.Trace.{packet_line}
use Rattle.run_text.proofs.PrintedLines.{one_more}
use Rattle.run_text.proofs.PrintedBack.{trace_back}
use Rattle.run_text.proofs.trace.print_trace.Goals as goal

pub loop-packet-preserved : goal.loop-packet-preserved
loop-packet-preserved c =
    let item = c.packet-item.result in
    let same = ap (λ (l : List Packet). length l) c.as_slice-packet-items.ensures.value in
    let is = rw c.as_slice-packet-items.ensures.value at c.packet-item.is in
    record {
      text = grind (arith, common_steps);
      back = one_more (λ (p : Packet). IsLineOf packet_line (packet_text p) p) c.args.packets.now c.loop-packet.packet-index item
          (omega arith) c.loop-packet.invariant.back (subst (λ (p : Packet). IsLineOf packet_line (packet_text p) p) is c.in_ok-put_packet.ensures.back);
    }

pub returns-clause-back : goal.returns-clause-back
returns-clause-back c few =
    let same = ap (λ (l : List Packet). length l) c.as_slice-packet-items.ensures.value in
    let whole : c.loop-packet.text ≡ trace_text c.args.packets.now = grind (arith, common_steps) in
    rw whole (trace_back c.args.packets.now (λ k d inside. c.loop-packet.invariant.back k d (omega arith)) few)
