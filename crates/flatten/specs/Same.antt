-- A flat program that does what a middlebox does.
use Rattle.std.specs.Prelude.{◌≡◌}
use Rattle.packet_fields.specs.declared.packet.Packet.{Packet}
use Rattle.state_store.specs.Kept.{IsKept}
use Rattle.state_store.specs.Store.{Store}
use Rattle.element_lang.specs.Tree.{Tree}
use Rattle.element_lang.specs.Meaning.{source_store, source_verdict}
use Rattle.packet_fields.specs.Arrivals.{IsArrival}
use Rattle.flat_ir.specs.Program.{Program}
use Rattle.flat_ir.specs.Run.{flat_store, flat_verdict}

-- From every store that keeps what was declared, and for every packet that may arrive, it leaves the same store, and
-- does the same with the packet.
abbrev pub MeansTheSame : Program → Tree → Type 0
MeansTheSame f m =
    (st : Store) (packet : Packet) → IsKept m.objects st → IsArrival packet
    → (flat_store f st packet ≡ source_store m st packet) × (flat_verdict f st packet ≡ source_verdict m st packet)
