use Rattle.std.proofs.Common.{◌≡◌, ℕ, ◌<◌, ◌++◌, drop, map, get_or}
use Rattle.packet_fields.specs.declared.packet.Packet.{Packet}
use Rattle.gal_io.specs.Lines.{lined}
use Rattle.run_text.specs.Printed.{IsLineOf, packet_text}
use Rattle.run_text.specs.Trace.{packet_line}
use Rattle.run_text.proofs.trace.print_trace.Given as goal

-- the text so far, and the lines ahead, are the whole; and each line so far is read as its packet
abbrev pub invariant-loop-packet : goal.invariant-loop-packet
invariant-loop-packet l = record {
  text : l.text ++ lined (map packet_text (drop l.packet-index l.packets)) ≡ lined (map packet_text l.packets);
  back : (k : ℕ) (d : Packet) → k < l.packet-index → IsLineOf packet_line (packet_text (get_or l.packets k d)) (get_or l.packets k d);
}
