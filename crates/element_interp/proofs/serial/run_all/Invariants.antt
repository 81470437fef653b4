use Rattle.std.proofs.Common.{◌≡◌, ◌++◌, drop}
use Rattle.state_store.specs.Store.{start_store}
use Rattle.element_lang.specs.View.{tree}
use Rattle.element_lang.specs.Meaning.{serial_store, serial_verdicts}
use Rattle.element_interp.proofs.serial.run_all.Given as goal

-- the verdicts so far and those of the packets ahead are all, and the packets ahead leave the store that all leave
abbrev pub invariant-loop-packet : goal.invariant-loop-packet
invariant-loop-packet l =
    (l.verdicts.items ++ serial_verdicts (tree l.m) l.store (drop l.packet-index l.packets) ≡ serial_verdicts (tree l.m) (start_store l.m.objects) l.packets)
    × (serial_store (tree l.m) l.store (drop l.packet-index l.packets) ≡ serial_store (tree l.m) (start_store l.m.objects) l.packets)
