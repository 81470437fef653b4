-- The server's run of a packet's frame is the whole program's.
use Rattle.std.proofs.Common.{◌≡◌, ◌<◌, ◌≤◌, ◌^◌, ℕ, List, length, refl, ap, ◌∙◌, arith}
use Rattle.packet_fields.specs.declared.packet.Packet.{Packet}
use Rattle.packet_fields.specs.Sizes.{largest_packet}
use Rattle.state_store.specs.Store.{Store}
use Rattle.flat_ir.specs.Arrivals.{IsArrival}
use Rattle.flat_ir.specs.Blocks.{Reading}
use Rattle.flat_ir.specs.Program.{Program}
use Rattle.split_model.specs.declared.layout.Crossing.{Crossing}
use Rattle.split_model.specs.declared.split.Part.{Part}
use Rattle.split_model.specs.Layouts.{down_layout, up_layout}
use Rattle.split_model.specs.Passes.{down_verdict, sent_down, server_fields, server_run}
use Rattle.transfer_header.specs.Frames.{down_frame, up_frame, IsFrameOf}
use Rattle.transfer_header.specs.Told.{reads_in, IsToldByPlace}
use Rattle.transfer_header.specs.Values.{value_by, AreNarrow}
use Rattle.server_runtime.specs.Serving.{frame_verdict, packet_frame, served_frame}
use Rattle.server_runtime.proofs.Lengths.{length_with_writes}

-- the frame of a reading that fits
pub up_is_frame : (f : Program) (split : List Part) (number : ℕ) (packet : Packet) (reads : Reading) → number < 2 ^ 32 → IsArrival packet
    → AreNarrow (up_layout f split) (value_by reads)
    → IsFrameOf 1 (up_layout f split) number packet.port (value_by reads) packet.bytes (up_frame (up_layout f split) number packet.port reads packet.bytes)
up_is_frame f split number packet reads few arrives narrow = record {
  bytes = refl;
  four_bytes = few;
  one_byte = arrives.port;
  narrow = narrow;
  short = arrives.size;
}

pub down_is_frame : (f : Program) (split : List Part) (number : ℕ) (packet : Packet) (reads : Reading) → number < 2 ^ 32 → packet.port < 2 ^ 8 → length packet.bytes ≤ largest_packet
    → AreNarrow (down_layout f split) (value_by reads)
    → IsFrameOf 2 (down_layout f split) number packet.port (value_by reads) (sent_down f split reads packet).bytes
    (down_frame (down_layout f split) number packet.port reads (sent_down f split reads packet).bytes)
down_is_frame f split number packet reads few port short narrow = record {
  bytes = refl;
  four_bytes = few;
  one_byte = port;
  narrow = narrow;
  short = omega (arith, short, length_with_writes (server_fields f split) reads packet.bytes);
}

module _ (f : Program) (split : List Part) (st tables_up tables : Store) (number : ℕ) (packet : Packet) where
  abbrev up_lay : List Crossing
  up_lay = up_layout f split

  abbrev down_lay : List Crossing
  down_lay = down_layout f split

  abbrev frame : List ℕ
  frame = packet_frame f split tables_up number packet

  abbrev up : Reading
  up = reads_in up_lay frame

  abbrev server : Reading
  server = (server_run f split up st packet).reads

  -- the frame that goes down
  abbrev sent : List ℕ
  sent = down_frame down_lay number packet.port server (sent_down f split server packet).bytes

  sent_is : IsToldByPlace up_lay number packet.port packet.bytes frame → served_frame f split st frame ≡ sent
  sent_is told = λ i. down_frame down_lay (told.numbered i) (told.arrived i) (server_run f split up st (told.carries i)).reads
      (sent_down f split (server_run f split up st (told.carries i)).reads (told.carries i)).bytes

  pub verdict_is : IsToldByPlace up_lay number packet.port packet.bytes frame
      → IsToldByPlace down_lay number packet.port (sent_down f split server packet).bytes sent
      → frame_verdict f split tables (served_frame f split st frame) ≡ down_verdict f split (reads_in down_lay sent) tables (sent_down f split server packet)
  verdict_is told came =
      ap (frame_verdict f split tables) (sent_is told) ∙ ap (down_verdict f split (reads_in down_lay sent) tables) came.carries
