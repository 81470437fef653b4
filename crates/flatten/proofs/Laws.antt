-- What holds of the flat program of every good middlebox, as the definitions give it.
use Rattle.std.specs.Prelude.{IsTrue, ◌≡◌}
use Rattle.element_lang.specs.Meaning.{source_store, source_verdict}
use Rattle.element_lang.specs.Rules.{is_good}
use Rattle.element_lang.specs.Tree.{Tree}
use Rattle.flat_ir.specs.Run.{flat_store, flat_verdict}
use Rattle.flat_ir.specs.WellFormed.{IsWellFormed}
use Rattle.packet_fields.specs.Arrivals.{IsArrival}
use Rattle.packet_fields.specs.declared.packet.Packet.{Packet}
use Rattle.state_store.specs.Kept.{IsKept}
use Rattle.state_store.specs.Store.{Store}
use Rattle.flatten.proofs.FormedWhole.{well_formed}
use Rattle.flatten.proofs.Whole.{same_store, same_verdict}
use Rattle.flatten.specs.Flatten.{flat_of}

-- The flat program of a middlebox leaves the store that the middlebox leaves, and does with the packet what it does:
-- from every store that keeps what was declared, for every packet that may arrive.
pub flattening_keeps_the_meaning-store : (m : Tree) (st : Store) (packet : Packet)
    → IsTrue (is_good m) → IsKept m.objects st → IsArrival packet
    → flat_store (flat_of m) st packet ≡ source_store m st packet
flattening_keeps_the_meaning-store = same_store

pub flattening_keeps_the_meaning-verdict : (m : Tree) (st : Store) (packet : Packet)
    → IsTrue (is_good m) → IsKept m.objects st → IsArrival packet
    → flat_verdict (flat_of m) st packet ≡ source_verdict m st packet
flattening_keeps_the_meaning-verdict = same_verdict

-- The flat program of a middlebox is well formed: what an instruction names is there, comes before it and fits it, and
-- stands in its block or above that.
pub flattened_is_well_formed : (m : Tree) → IsTrue (is_good m) → IsWellFormed (flat_of m)
flattened_is_well_formed = well_formed
