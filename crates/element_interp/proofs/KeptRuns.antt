-- A run of a middlebox that keeps the rules leaves a store that keeps what was declared, and so do several.
use Rattle.std.proofs.Common.{◌≡◌, ◌<◌, ◌≤◌, ◌^◌, ℕ, true, List, [], ◌∷◌, length, slice_index, sym, subst}
use Rattle.std.specs.List.{All}
use Rattle.std.proofs.lemmas.List.Elements.{All-head, All-tail}
use Rattle.packet_fields.specs.declared.packet.Packet.{Packet}
use Rattle.packet_fields.specs.declared.packet.TheConstants.{MAX_PACKET_BYTES}
use Rattle.packet_fields.specs.Arrivals.{IsArrival}
use Rattle.state_store.specs.Kept.{IsKept}
use Rattle.state_store.specs.Store.{Store, start_store}
use Rattle.element_lang.specs.KeptRuns.{runs_kept}
use Rattle.element_lang.specs.Meaning.{source_store, serial_store}
use Rattle.element_lang.specs.Rules.{is_good}
use Rattle.element_lang.specs.Tree.{Tree}
use Rattle.element_interp.proofs.KeptObjects.{start_is_kept}
use Rattle.lemmas.proofs.Tests.{and_first}

pub starts_kept : (m : Tree) → is_good m ≡ true → IsKept m.objects (start_store m.objects)
starts_kept m h = start_is_kept [] m.objects (and_first _ _ (and_first _ _ h))

serial_kept : (m : Tree) (st : Store) (packets : List Packet) → is_good m ≡ true → All IsArrival packets → IsKept m.objects st → IsKept m.objects (serial_store m st packets)
serial_kept m st [] h arrive kept = kept
serial_kept m st (packet ∷ packets) h arrive kept =
    serial_kept m (source_store m st packet) packets h (All-tail IsArrival packet packets arrive) (runs_kept m st packet h (All-head IsArrival packet packets arrive) kept)

pub serials_kept : (m : Tree) (packets : List Packet) → is_good m ≡ true → All IsArrival packets → IsKept m.objects (serial_store m (start_store m.objects) packets)
serials_kept m packets h arrive = serial_kept m (start_store m.objects) packets h arrive (starts_kept m h)

-- a store that a packet of bytes leaves
pub run_kept : (m : Tree) (before after : Store) (port : ℕ) (bytes : List ℕ) → is_good m ≡ true → port < 2 ^ 8 → ((i : ℕ) → slice_index bytes i < 2 ^ 8) → length bytes ≤ MAX_PACKET_BYTES
    → after ≡ source_store m before (record { port = port; bytes = bytes }) → IsKept m.objects before → IsKept m.objects after
run_kept m before after port bytes h small all_small size is kept =
    subst (IsKept m.objects) (sym is) (runs_kept m before (record { port = port; bytes = bytes }) h (record { port = small; bytes = all_small; size = size }) kept)
