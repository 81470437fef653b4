-- What the registers of a run hold.
use Rattle.std.specs.Prelude.{List, ℕ, [], ◌∷◌, slice_index, slice_index_or}
use Rattle.packet_fields.specs.declared.packet.Packet.{Packet}
use Rattle.flat_ir.specs.Blocks.{Reading}
use Rattle.flat_ir.specs.declared.registers.Results.{Results}
use Rattle.flat_ir.specs.declared.work.Arrival.{Arrival}

abbrev pub results_of : Results → List ℕ
results_of r = r.first ∷ r.others

-- the numbers that the results of some instructions stand for
abbrev pub reads_of : List Results → Reading
reads_of rows v = slice_index (results_of (slice_index_or rows v.instruction (record { first = 0; others = [] })))
    v.result

abbrev pub packet_of : Arrival → Packet
packet_of arrival = record { port = arrival.port; bytes = arrival.bytes.now }
