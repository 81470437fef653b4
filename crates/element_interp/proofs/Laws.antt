-- What holds of the store of every middlebox that keeps the rules, as the definitions give it.
use Rattle.std.specs.List.{All}
use Rattle.std.specs.Prelude.{IsTrue, List}
use Rattle.element_lang.specs.KeptRuns.{runs_kept}
use Rattle.element_lang.specs.Meaning.{serial_store, source_store}
use Rattle.element_lang.specs.Rules.{is_good}
use Rattle.element_lang.specs.Tree.{Tree}
use Rattle.packet_fields.specs.Arrivals.{IsArrival}
use Rattle.packet_fields.specs.declared.packet.Packet.{Packet}
use Rattle.state_store.specs.Kept.{IsKept}
use Rattle.state_store.specs.Store.{Store, start_store}
use Rattle.element_interp.proofs.KeptRuns.{serials_kept, starts_kept}

-- The store keeps what was declared: it does at the start, no packet changes that, and so it does behind any number of
-- packets.
pub stores_are_kept-start : (m : Tree) → IsTrue (is_good m) → IsKept m.objects (start_store m.objects)
stores_are_kept-start = starts_kept

pub stores_are_kept-runs : (m : Tree) (store : Store) (packet : Packet) → IsTrue (is_good m) → IsArrival packet
    → IsKept m.objects store → IsKept m.objects (source_store m store packet)
stores_are_kept-runs = runs_kept

pub stores_are_kept-serial : (m : Tree) (packets : List Packet) → IsTrue (is_good m) → All IsArrival packets
    → IsKept m.objects (serial_store m (start_store m.objects) packets)
stores_are_kept-serial = serials_kept
